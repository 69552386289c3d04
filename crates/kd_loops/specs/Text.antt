-- The text of a handled event: the line that a replay writes for it.
use Rattle.std.specs.Prelude.{ℕ, ◌^◌, ◌<◌, ◌≤◌, List, ◌++◌, codes, decimal, length}
use Rattle.kd_event.specs.Reason.{reason_name, reason_number}
use Rattle.kd_event.specs.declared.destination.Destination.{Destination}
use Rattle.kd_event.specs.declared.destination.Mode.{Mode}
use Rattle.kd_event.specs.declared.destination.Mode.TheVariants as modes
use Rattle.kd_event.specs.declared.event.Handled.{Handled}
use Rattle.kd_event.specs.declared.event.Response.{Response}
use Rattle.kd_event.specs.declared.event.Response.TheVariants as responses
use Rattle.kd_text.specs.Text.{address_text, bytes_text}

-- the word for how a reply is sent
abbrev pub mode_word : Mode → List ℕ
mode_word modes.Relay = codes "relay"
mode_word modes.Unicast = codes "unicast"
mode_word modes.Broadcast = codes "broadcast"
mode_word modes.Hardware = codes "hardware"

-- a destination: how it is sent, a space, the address, a colon, the port
abbrev pub destination_text : Destination → List ℕ
destination_text d =
    mode_word d.mode ++ codes " " ++ address_text d.address ++ codes ":" ++ decimal d.port

-- a reply: its destination and its bytes
abbrev pub reply_line : Destination → List ℕ → List ℕ
reply_line destination bytes =
    codes "reply " ++ destination_text destination ++ codes " " ++ bytes_text bytes

-- no reply: the number and the name of the reason
abbrev pub quiet_line : ℕ → List ℕ → List ℕ
quiet_line number name = codes "quiet " ++ decimal number ++ codes " " ++ name

-- what is sent, or why nothing is
abbrev pub response_text : Response → List ℕ
response_text (responses.Reply destination bytes) = reply_line destination bytes
response_text (responses.Quiet reason) = quiet_line (reason_number reason) (reason_name reason)

-- the line of a handled event, with its line feed: the time at which it counts, and the response
unfoldable pub line_of : Handled → List ℕ
line_of handled = decimal handled.now ++ codes " " ++ response_text handled.response ++ codes "\n"

-- what is sent has at most 1,472 bytes, and goes to an address and a port
abbrev pub IsSmall : Response → Type 0
IsSmall (responses.Reply destination bytes) =
    (length bytes ≤ 1472) × (destination.address < 2 ^ 32) × (destination.port < 2 ^ 16)
IsSmall (responses.Quiet reason) = Unit {0}
