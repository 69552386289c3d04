-- The line of a server's response, and that of a recorded event, fit into the room for a line.
use Rattle.std.proofs.Common.{ℕ, ◌^◌, ◌<◌, ◌≤◌, List, arith, length, length-append}
use Rattle.kd_loops.specs.Arriving.{datagram_room}
use Rattle.kd_loops.specs.Handling.{line_room, text_room}
use Rattle.kd_loops.specs.Recording.{record_line}
use Rattle.kd_loops.proofs.Texts.{decimal_length, hex_length, line_fits, quiet_length, reply_length}
use Rattle.kd_loops.specs.Text.{IsSmall, line_of, response_text}
use Rattle.kd_event.specs.declared.event.Handled.{Handled}
use Rattle.kd_event.specs.declared.event.Response.{Response}
use Rattle.kd_event.specs.declared.event.Response.TheVariants as responses

response_fits : (response : Response) → IsSmall response → length (response_text response) ≤ 3100
response_fits (responses.Reply d bytes) small = reply_length d bytes small.1 small.2 small.0
response_fits (responses.Quiet reason) small = quiet_length reason

pub handled_fits : (handled : Handled) → handled.now < 2 ^ 64 → IsSmall handled.response → length (line_of handled) ≤ line_room
handled_fits handled low small = line_fits handled low (response_fits handled.response small)

-- the line of a recorded event fits
pub event_fits : (moment : ℕ) (bytes : List ℕ) → moment < 2 ^ 64 → length bytes ≤ datagram_room → length (record_line (record { moment = moment; bytes = bytes })) ≤ text_room
unfolding record_line
event_fits moment bytes low short =
    let number = decimal_length moment low in
    simp length-append (omega (arith, number, hex_length bytes, short))
