-- Helpers of private contracts only: the words of a line of a log.
use Rattle.std.specs.Prelude.{◌≡◌, ℕ, List, ◌∷◌, ◌++◌, codes, decimal}
use Rattle.kd_event.specs.Reason.{reason_name, reason_number}
use Rattle.kd_event.specs.declared.destination.Destination.{Destination}
use Rattle.kd_event.specs.declared.event.Handled.{Handled}
use Rattle.kd_event.specs.declared.event.Response.{Response}
use Rattle.kd_event.specs.declared.event.Response.TheVariants as responses
use Rattle.kd_loops.specs.Text.{mode_word}
use Rattle.kd_text.specs.Text.{address_text, bytes_text}
use Rattle.kd_log.specs.Logged.{IsWritable}
use Rattle.kd_log.specs.declared.events.words.Words.{Words}

-- the second word of a line
abbrev pub second_word : Response → List ℕ
second_word (responses.Reply destination bytes) = codes "reply"
second_word (responses.Quiet reason) = codes "quiet"

-- the third word of a line
abbrev pub third_word : Response → List ℕ
third_word (responses.Reply destination bytes) = mode_word destination.mode
third_word (responses.Quiet reason) = decimal (reason_number reason)

-- the text after the third word of a reply's line
abbrev pub after_mode : Destination → List ℕ → List ℕ
after_mode destination bytes =
    address_text destination.address ++ 58 ∷ (decimal destination.port ++ 32 ∷ bytes_text bytes)

-- the text after the third word of a line
abbrev pub after_third : Response → List ℕ
after_third (responses.Reply destination bytes) = after_mode destination bytes
after_third (responses.Quiet reason) = reason_name reason

-- the words are those of the line of a handled event
pub record AreLineWords (words : Words) (handled : Handled) : Type 0 where
  pub moment : words.moment.now ≡ decimal handled.now
  pub second : words.second.now ≡ second_word handled.response
  pub third : words.third.now ≡ third_word handled.response
  pub rest : words.rest.now ≡ after_third handled.response
  pub writable : IsWritable handled
