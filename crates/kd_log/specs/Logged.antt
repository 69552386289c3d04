-- The lines of a log: which line is what a server writes for which event, and which are remarks.
use Rattle.std.specs.Prelude.{◌≡◌, ℕ, ◌^◌, ◌<◌, ◌||◌, Bool, List, [], ◌∷◌, ◌++◌, codes, nat_eq}
use Rattle.std.specs.List.{starts_with}
use Rattle.hex.specs.Hex.{IsBytes}
use Rattle.kd_event.specs.declared.destination.Destination.{Destination}
use Rattle.kd_event.specs.declared.event.Handled.{Handled}
use Rattle.kd_event.specs.declared.event.Response.{Response}
use Rattle.kd_event.specs.declared.event.Response.TheVariants as responses
use Rattle.kd_event.specs.declared.reason.Reason.{Reason}
use Rattle.kd_loops.specs.Text.{IsSmall, line_of}

-- a reply is bytes
abbrev pub HasBytes : Response → Type 0
HasBytes (responses.Reply destination bytes) = IsBytes bytes
HasBytes (responses.Quiet reason) = Unit {0}

-- what a server can have done with an event: its time fits 64 bits, and a reply has at most 1,472
-- bytes and goes to an address and a port
pub record IsWritable (handled : Handled) : Type 0 where
  pub moment : handled.now < 2 ^ 64
  pub small : IsSmall handled.response
  pub bytes : HasBytes handled.response

-- a line, without its line feed, is what a server writes for a handled event
pub record IsHandledLine (line : List ℕ) (handled : Handled) : Type 0 where
  pub written : line_of handled ≡ line ++ 10 ∷ []
  pub writable : IsWritable handled

-- the line of a reply
abbrev pub IsReplyLine : List ℕ → ℕ → Destination → List ℕ → Type 0
IsReplyLine line moment destination bytes =
    IsHandledLine line (record { now = moment; response = responses.Reply destination bytes })

-- the line of an event without a reply
abbrev pub IsQuietLine : List ℕ → Type 0
IsQuietLine line =
    (moment : ℕ) × (reason : Reason)
    × IsHandledLine line (record { now = moment; response = responses.Quiet reason })

-- a remark: a line that begins with `fault ` or `serving `. `serve` writes such lines beside those
-- of events, to say that a reply could not be sent, or what is served
abbrev pub is_remark : List ℕ → Bool
is_remark line =
    starts_with nat_eq line (codes "fault ") || starts_with nat_eq line (codes "serving ")
