-- The line of a handled event: its words with a space after each but the last, and a line feed.
use Rattle.std.proofs.Common.{◌≡◌, ℕ, ◌^◌, ◌<◌, List, [], ◌∷◌, ◌++◌, refl, arith, append_assoc}
use Rattle.std.specs.Prelude.{codes, decimal}
use Rattle.kd_event.specs.declared.destination.Destination.{Destination}
use Rattle.kd_event.specs.declared.event.Handled.{Handled}
use Rattle.kd_event.specs.declared.event.Response.{Response}
use Rattle.kd_event.specs.declared.event.Response.TheVariants as responses
use Rattle.kd_loops.specs.Text.{line_of, response_text}
use Rattle.kd_text.specs.Text.{address_text, bytes_text}
use Rattle.kd_text.specs.Words.{HasNo, IsCutOff}
use Rattle.kd_text.proofs.Cuts.{cut_is}
use Rattle.kd_text.proofs.Endings.{one_line}
use Rattle.kd_text.proofs.Plain.{address_plain, colon_is_none, decimal_plain, newline_is_none, plain_append, space_is_none}
use Rattle.kd_log.specs.Logged.{IsHandledLine, IsWritable}
use Rattle.kd_log.specs.LogParts.{AreLineWords, after_mode, after_third, second_word, third_word}
use Rattle.kd_log.specs.declared.events.words.Words.{Words}
use Rattle.kd_log.proofs.LogPlain.{rest_plain, second_plain, second_spaceless, third_plain, third_spaceless}

-- what follows the time
abbrev behind : Response → List ℕ
behind response = second_word response ++ 32 ∷ (third_word response ++ 32 ∷ after_third response)

-- the line of a handled event without its line feed
abbrev pub body : Handled → List ℕ
body handled = decimal handled.now ++ 32 ∷ behind handled.response

text_of : (digits : List ℕ) (response : Response) → digits ++ codes " " ++ response_text response ++ codes "\n" ≡ (digits ++ 32 ∷ behind response) ++ 10 ∷ []
text_of digits (responses.Reply destination bytes) = simp append_assoc
text_of digits (responses.Quiet reason) = simp append_assoc

pub written : (handled : Handled) → line_of handled ≡ body handled ++ 10 ∷ []
unfolding line_of
written handled = text_of (decimal handled.now) handled.response

-- a line split at its first three spaces has the words of its event
pub words_are : (words : Words) (line r1 r2 : List ℕ) → IsCutOff 32 line words.moment.now r1 → IsCutOff 32 r1 words.second.now r2 → IsCutOff 32 r2 words.third.now words.rest.now
    → (handled : Handled) → IsHandledLine line handled → AreLineWords words handled
words_are words line r1 r2 k1 k2 k3 handled is =
    let response = handled.response in
    let p1 = cut_is k1 (decimal handled.now) (behind response) (decimal_plain 32 handled.now space_is_none is.writable.moment) (one_line (line_of handled) (body handled) line (written handled) is.written) in
    let p2 = cut_is k2 (second_word response) (third_word response ++ 32 ∷ after_third response) (second_spaceless response) p1.1 in
    let p3 = cut_is k3 (third_word response) (after_third response) (third_spaceless response) p2.1 in
    record { moment = p1.0; second = p2.0; third = p3.0; rest = p3.1; writable = is.writable }

-- what follows the mode of a reply, split at its colon and at its space, is address, port and bytes
pub parts_are : {rest address more port hex : List ℕ} → IsCutOff 58 rest address more → IsCutOff 32 more port hex → (destination : Destination) (bytes : List ℕ)
    → destination.address < 2 ^ 32 → destination.port < 2 ^ 16 → rest ≡ after_mode destination bytes → (address ≡ address_text destination.address) × (port ≡ decimal destination.port) × (hex ≡ bytes_text bytes)
parts_are k1 k2 destination bytes low small is =
    let p1 = cut_is k1 (address_text destination.address) (decimal destination.port ++ 32 ∷ bytes_text bytes) (address_plain 58 destination.address colon_is_none refl low) is in
    let p2 = cut_is k2 (decimal destination.port) (bytes_text bytes) (decimal_plain 32 destination.port space_is_none (omega arith)) p1.1 in
    (p1.0, p2.0, p2.1)

-- the line of an event contains no line feed
pub body_plain : (handled : Handled) → IsWritable handled → HasNo 10 (body handled)
body_plain handled is =
    let response = handled.response in
    let third = plain_append 10 (third_word response) (32 ∷ after_third response) (third_plain response) (refl, rest_plain response is.small is.bytes) in
    let second = plain_append 10 (second_word response) (32 ∷ (third_word response ++ 32 ∷ after_third response)) (second_plain response) (refl, third) in
    plain_append 10 (decimal handled.now) (32 ∷ behind response) (decimal_plain 10 handled.now newline_is_none is.moment) (refl, second)
