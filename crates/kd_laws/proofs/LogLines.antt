-- The lines of a log: those of events, and those that say that a reply could not be sent.
use Rattle.std.proofs.Common.{◌≡◌, ℕ, zero, suc, ◌+◌, ◌/◌, ◌%◌, ◌^◌, ◌<◌, Bool, true, false, cond, not, List, [], ◌∷◌, ◌++◌, get_or, refl, sym, ap, ◌∙◌, arith, append_assoc}
use Rattle.std.specs.Prelude.{◌==◌, codes, decimal, nat_lt, if◌then◌else◌}
use Rattle.std.specs.Fmt.{digit_glyph, digits, digits_onto}
use Rattle.std.specs.List.{flat_map}
use Rattle.std.specs.Str.{bytes_eq}
use Rattle.std.proofs.lemmas.Bool.{ne_eqb}
use Rattle.std.proofs.lemmas.Bool.Decides.{nat_tests}
use Rattle.hex.specs.Hex.{encode_lower, encode_with, lower_digits}
use Rattle.kd_event.specs.Reason.{reason_name, reason_number}
use Rattle.kd_event.specs.declared.destination.Destination.{Destination}
use Rattle.kd_event.specs.declared.destination.Mode.{Mode}
use Rattle.kd_event.specs.declared.destination.Mode.TheVariants as modes
use Rattle.kd_event.specs.declared.event.Handled.{Handled}
use Rattle.kd_event.specs.declared.event.Response.{Response}
use Rattle.kd_event.specs.declared.event.Response.TheVariants as responses
use Rattle.kd_event.specs.declared.reason.Reason.{Reason}
use Rattle.kd_event.specs.declared.reason.Reason.TheVariants as reasons
use Rattle.kd_loops.specs.Lines.{lines_of}
use Rattle.kd_loops.specs.Serving.{Answered, behind_line, send_fault, text_of}
use Rattle.kd_loops.specs.Text.{destination_text, line_of, mode_word, response_text}
use Rattle.kd_loops.proofs.Looking.{lines_line}
use Rattle.kd_text.specs.Text.{address_text, bytes_text}
use Rattle.kd_text.specs.Words.{HasNo}
use Rattle.kd_text.proofs.Plain.{plain_append}
use Rattle.kd_laws.specs.Recorded.{without_send_faults}

-- whether a text is without a line feed
is_plain : List ℕ → Bool
is_plain [] = true
is_plain (b ∷ text) = if b == 10 then false else is_plain text

from_plain : (text : List ℕ) → is_plain text ≡ true → HasNo 10 text
unfolding is_plain
from_plain [] h = tt
from_plain (b ∷ text) h = by (b == 10) refl (from_plain text) h
  where
    by : (t : Bool) → (b == 10) ≡ t → (is_plain text ≡ true → HasNo 10 text) → (if t then false else is_plain text) ≡ true → HasNo 10 (b ∷ text)
    by true is rest h = absurd (cc)
    by false is rest h = (is, rest h)

-- a digit is a byte other than these
abbrev IsNoGlyph : ℕ → Type 0
IsNoGlyph byte = (n : ℕ) → (digit_glyph false (n % 10) == byte) ≡ false

glyph_is : (d : ℕ) → d < 10 → digit_glyph false d ≡ 48 + d
glyph_is d less = let e : nat_lt d 10 ≡ true = grind (arith, nat_tests) in rw e refl

no_feed : IsNoGlyph 10
no_feed n = rw (glyph_is (n % 10) (omega arith)) (ne_eqb (48 + n % 10) 10 (λ e. absurd (omega (arith, e))))

no_letter : IsNoGlyph 102
no_letter n = rw (glyph_is (n % 10) (omega arith)) (ne_eqb (48 + n % 10) 102 (λ e. absurd (let less : n % 10 < 10 = omega arith in omega (arith, e, less))))

-- the last digit of a number, before others
abbrev with_digit : ℕ → List ℕ → List ℕ
with_digit n text = digit_glyph false (n % 10) ∷ text

either_plain : (t : Bool) (xs ys : List ℕ) → HasNo 10 xs → HasNo 10 ys → HasNo 10 (if t then xs else ys)
either_plain true xs ys p q = p
either_plain false xs ys p q = q

digits_plain : (k n : ℕ) (text : List ℕ) → HasNo 10 text → HasNo 10 (digits_onto k 10 false n text)
digits_plain zero n text plain = plain
digits_plain (suc k) n text plain =
    either_plain (n / 10 == 0) (with_digit n text) (digits_onto k 10 false (n / 10) (with_digit n text)) (no_feed n, plain) (digits_plain k (n / 10) (with_digit n text) (no_feed n, plain))

decimal_plain : (n : ℕ) → HasNo 10 (decimal n)
unfolding digits
decimal_plain n = digits_plain 64 n [] tt

-- a text begins with a byte that is no `f`
record BeginsOtherwise (text : List ℕ) : Type 0 where
  first : ℕ
  rest : List ℕ
  is : text ≡ first ∷ rest
  other : (first == 102) ≡ false

either_begins : (t : Bool) (xs ys : List ℕ) → BeginsOtherwise xs → BeginsOtherwise ys → BeginsOtherwise (if t then xs else ys)
either_begins true xs ys p q = p
either_begins false xs ys p q = q

digit_begins : (n : ℕ) (text : List ℕ) → BeginsOtherwise (with_digit n text)
digit_begins n text = record { first = digit_glyph false (n % 10); rest = text; is = refl; other = no_letter n }

digits_begin : (k n : ℕ) (text : List ℕ) → BeginsOtherwise text → BeginsOtherwise (digits_onto k 10 false n text)
digits_begin zero n text begins = begins
digits_begin (suc k) n text begins =
    either_begins (n / 10 == 0) (with_digit n text) (digits_onto k 10 false (n / 10) (with_digit n text)) (digit_begins n text) (digits_begin k (n / 10) (with_digit n text) (digit_begins n text))

digits_some : (k n : ℕ) → BeginsOtherwise (digits_onto (suc k) 10 false n [])
digits_some k n =
    either_begins (n / 10 == 0) (with_digit n []) (digits_onto k 10 false (n / 10) (with_digit n [])) (digit_begins n []) (digits_begin k (n / 10) (with_digit n []) (digit_begins n []))

decimal_begins : (n : ℕ) → BeginsOtherwise (decimal n)
unfolding digits
decimal_begins n = digits_some 63 n

-- no part of the line of a handled event has a line feed

nibble_plain : (text : List ℕ) (i : ℕ) → HasNo 10 text → (get_or text i 0 == 10) ≡ false
nibble_plain [] i plain = refl
nibble_plain (b ∷ text) zero plain = plain.0
nibble_plain (b ∷ text) (suc i) plain = nibble_plain text i plain.1

hex_plain : (bytes : List ℕ) → HasNo 10 (encode_lower bytes)
unfolding encode_with is_plain
hex_plain [] = tt
hex_plain (b ∷ bytes) =
    let table : HasNo 10 lower_digits = from_plain lower_digits refl in
    (nibble_plain lower_digits (b / 16) table, (nibble_plain lower_digits (b % 16) table, hex_plain bytes))

bytes_plain : (bytes : List ℕ) → HasNo 10 (bytes_text bytes)
bytes_plain [] = (refl, tt)
bytes_plain (b ∷ bytes) = hex_plain (b ∷ bytes)

mode_plain : (mode : Mode) → HasNo 10 (mode_word mode)
unfolding is_plain
mode_plain modes.Relay = from_plain (codes "relay") refl
mode_plain modes.Unicast = from_plain (codes "unicast") refl
mode_plain modes.Broadcast = from_plain (codes "broadcast") refl
mode_plain modes.Hardware = from_plain (codes "hardware") refl

reason_plain : (reason : Reason) → HasNo 10 (reason_name reason)
unfolding is_plain
reason_plain reasons.Unreadable = from_plain (codes "Unreadable") refl
reason_plain reasons.NotRequest = from_plain (codes "NotRequest") refl
reason_plain reasons.NoIdentity = from_plain (codes "NoIdentity") refl
reason_plain reasons.DropClass = from_plain (codes "DropClass") refl
reason_plain reasons.NoSubnet = from_plain (codes "NoSubnet") refl
reason_plain reasons.NoAddress = from_plain (codes "NoAddress") refl
reason_plain reasons.NoRequested = from_plain (codes "NoRequested") refl
reason_plain reasons.OtherServer = from_plain (codes "OtherServer") refl
reason_plain reasons.NoRecord = from_plain (codes "NoRecord") refl
reason_plain reasons.NoCiaddr = from_plain (codes "NoCiaddr") refl
reason_plain reasons.ReplyTooLong = from_plain (codes "ReplyTooLong") refl
reason_plain reasons.Released = from_plain (codes "Released") refl
reason_plain reasons.Declined = from_plain (codes "Declined") refl
reason_plain reasons.NotHeld = from_plain (codes "NotHeld") refl

-- texts without a line feed, one after another
both : (xs ys : List ℕ) → HasNo 10 xs → HasNo 10 ys → HasNo 10 (xs ++ ys)
both xs ys p q = plain_append 10 xs ys p q

space_plain : HasNo 10 (codes " ")
space_plain = (refl, tt)

dot_plain : HasNo 10 (codes ".")
dot_plain = (refl, tt)

colon_plain : HasNo 10 (codes ":")
colon_plain = (refl, tt)

address_plain : (a : ℕ) → HasNo 10 (address_text a)
address_plain a =
    both _ _ (both _ _ (both _ _ (both _ _ (both _ _ (both _ _ (decimal_plain (a / 2 ^ 24)) dot_plain) (decimal_plain (a / 2 ^ 16 % 256))) dot_plain) (decimal_plain (a / 2 ^ 8 % 256))) dot_plain)
    (decimal_plain (a % 256))

place_plain : (destination : Destination) → HasNo 10 (destination_text destination)
place_plain destination =
    let mode = mode_word destination.mode in
    let address = address_text destination.address in
    let host = both (mode ++ codes " ") address (both mode (codes " ") (mode_plain destination.mode) space_plain) (address_plain destination.address) in
    both (mode ++ codes " " ++ address ++ codes ":") (decimal destination.port) (both (mode ++ codes " " ++ address) (codes ":") host colon_plain) (decimal_plain destination.port)

response_plain : (response : Response) → HasNo 10 (response_text response)
unfolding is_plain
response_plain (responses.Reply destination bytes) =
    let place = destination_text destination in
    let first = both (codes "reply ") place (from_plain (codes "reply ") refl) (place_plain destination) in
    both (codes "reply " ++ place ++ codes " ") (bytes_text bytes) (both (codes "reply " ++ place) (codes " ") first space_plain) (bytes_plain bytes)
response_plain (responses.Quiet reason) =
    let number = decimal (reason_number reason) in
    let first = both (codes "quiet ") number (from_plain (codes "quiet ") refl) (decimal_plain (reason_number reason)) in
    both (codes "quiet " ++ number ++ codes " ") (reason_name reason) (both (codes "quiet " ++ number) (codes " ") first space_plain) (reason_plain reason)

-- the line of a handled event without its line feed
abbrev body : Handled → List ℕ
body handled = decimal handled.now ++ 32 ∷ response_text handled.response

line_is : (handled : Handled) → line_of handled ≡ body handled ++ 10 ∷ []
unfolding line_of
line_is handled = simp append_assoc

body_plain : (handled : Handled) → HasNo 10 (body handled)
body_plain handled = both _ _ (decimal_plain handled.now) (refl, response_plain handled.response)

no_fault : (text more : List ℕ) → BeginsOtherwise text → bytes_eq (text ++ more) (codes "fault 99 Send") ≡ false
no_fault text more begins =
    let e : text ++ more ≡ begins.first ∷ (begins.rest ++ more) = ap (λ t. t ++ more) begins.is in
    rw (e, begins.other) refl

-- the lines of a log, which are those of events and those that say that a reply could not be sent

then_line : (handled : Handled) (more : List ℕ) → lines_of (line_of handled ++ more) ≡ body handled ∷ lines_of more
then_line handled more =
    ap (λ l. lines_of (l ++ more)) (line_is handled) ∙ ap lines_of (append_assoc (body handled) (10 ∷ []) more) ∙ lines_line (body handled) more (body_plain handled)

kept : (line : List ℕ) (lines : List (List ℕ)) → bytes_eq line (codes "fault 99 Send") ≡ false → without_send_faults (line ∷ lines) ≡ line ∷ without_send_faults lines
kept line lines other = ap (λ t. cond (not t) (line ∷ without_send_faults lines) (without_send_faults lines)) other

kept_line : (handled : Handled) (lines : List (List ℕ)) → without_send_faults (body handled ∷ lines) ≡ body handled ∷ without_send_faults lines
kept_line handled lines = kept (body handled) lines (no_fault (decimal handled.now) (32 ∷ response_text handled.response) (decimal_begins handled.now))

fault_line : (more : List ℕ) → without_send_faults (lines_of (send_fault ++ more)) ≡ without_send_faults (lines_of more)
unfolding is_plain
fault_line more = ap without_send_faults (lines_line (codes "fault 99 Send") more (from_plain (codes "fault 99 Send") refl))

behind_left_out : (sent : Bool) (response : Response) (more : List ℕ) → without_send_faults (lines_of (behind_line sent response ++ more)) ≡ without_send_faults (lines_of more)
behind_left_out true response more = refl
behind_left_out false (responses.Reply destination bytes) more = fault_line more
behind_left_out false (responses.Quiet reason) more = refl

-- without the latter they are the lines of the events
pub lines_left : (answers : List Answered) → without_send_faults (lines_of (flat_map text_of answers)) ≡ lines_of (flat_map (λ a. line_of a.handled) answers)
lines_left [] = refl
lines_left (a ∷ answers) =
    let behind = behind_line a.sent a.handled.response in
    let rest = flat_map text_of answers in
    let order : (line_of a.handled ++ behind) ++ rest ≡ line_of a.handled ++ (behind ++ rest) = append_assoc (line_of a.handled) behind rest in
    ap (λ t. without_send_faults (lines_of t)) order ∙ ap without_send_faults (then_line a.handled (behind ++ rest)) ∙ kept_line a.handled (lines_of (behind ++ rest))
    ∙ ap (λ ls. body a.handled ∷ ls) (behind_left_out a.sent a.handled.response rest ∙ lines_left answers) ∙ sym (then_line a.handled (flat_map (λ b. line_of b.handled) answers))
