-- How long the text of a handled event is.
use Rattle.std.proofs.Common.{◌≡◌, ℕ, ◌*◌, ◌/◌, ◌%◌, ◌^◌, ◌<◌, ◌≤◌, List, [], ◌∷◌, arith, length, length-append}
use Rattle.std.specs.Prelude.{decimal}
use Rattle.std.proofs.lemmas.Fmt.{length-decimal-le}
use Rattle.hex.specs.Hex.{encode_lower, lower_digits}
use Rattle.hex.proofs.HexLemmas.{length-encode_with}
use Rattle.kd_event.specs.Reason.{reason_name, reason_number}
use Rattle.kd_text.specs.Text.{address_text, bytes_text}
use Rattle.kd_loops.specs.Handling.{line_room}
use Rattle.kd_loops.specs.Text.{line_of, mode_word, quiet_line, reply_line, response_text}
use Rattle.kd_event.specs.declared.destination.Destination.{Destination}
use Rattle.kd_event.specs.declared.destination.Mode.{Mode}
use Rattle.kd_event.specs.declared.destination.Mode.TheVariants as modes
use Rattle.kd_event.specs.declared.event.Handled.{Handled}
use Rattle.kd_event.specs.declared.reason.Reason.{Reason}
use Rattle.kd_event.specs.declared.reason.Reason.TheVariants as reasons

pub hex_length : (bytes : List ℕ) → length (encode_lower bytes) ≡ 2 * length bytes
hex_length bytes = length-encode_with lower_digits bytes

pub decimal_length : (n : ℕ) → n < 2 ^ 64 → length (decimal n) ≤ 20
decimal_length n less = length-decimal-le 20 n (omega arith) (omega (arith, less)) less

word_length : (mode : Mode) → length (mode_word mode) ≤ 9
word_length modes.Relay = omega arith
word_length modes.Unicast = omega arith
word_length modes.Broadcast = omega arith
word_length modes.Hardware = omega arith

address_length : (a : ℕ) → a < 2 ^ 32 → length (address_text a) ≤ 83
address_length a less =
    let first = decimal_length (a / 2 ^ 24) (omega (arith, less)) in
    let second = decimal_length (a / 2 ^ 16 % 256) (omega arith) in
    let third = decimal_length (a / 2 ^ 8 % 256) (omega arith) in
    let last = decimal_length (a % 256) (omega arith) in
    simp length-append (omega (arith, first, second, third, last))

bytes_length : (bytes : List ℕ) → length bytes ≤ 1472 → length (bytes_text bytes) ≤ 2944
bytes_length [] short = omega arith
bytes_length (b ∷ bytes) short = omega (arith, hex_length (b ∷ bytes), short)

pub reply_length : (d : Destination) (bytes : List ℕ) → d.address < 2 ^ 32 → d.port < 2 ^ 16 → length bytes ≤ 1472 → length (reply_line d bytes) ≤ 3100
reply_length d bytes address port short =
    let word = word_length d.mode in
    let at = simp length-append at (address_length d.address address) in
    let number = decimal_length d.port (omega (arith, port)) in
    let text = bytes_length bytes short in
    simp length-append (omega (arith, word, at, number, text))

pub quiet_length : (reason : Reason) → length (quiet_line (reason_number reason) (reason_name reason)) ≤ 3100
quiet_length reason =
    let number = decimal_length (reason_number reason) (omega (arith, small reason)) in
    simp length-append (omega (arith, number, short reason))
  where
    small : (reason : Reason) → reason_number reason ≤ 14
    small reasons.Unreadable = omega arith
    small reasons.NotRequest = omega arith
    small reasons.NoIdentity = omega arith
    small reasons.DropClass = omega arith
    small reasons.NoSubnet = omega arith
    small reasons.NoAddress = omega arith
    small reasons.NoRequested = omega arith
    small reasons.OtherServer = omega arith
    small reasons.NoRecord = omega arith
    small reasons.NoCiaddr = omega arith
    small reasons.ReplyTooLong = omega arith
    small reasons.Released = omega arith
    small reasons.Declined = omega arith
    small reasons.NotHeld = omega arith

    short : (reason : Reason) → length (reason_name reason) ≤ 12
    short reasons.Unreadable = omega arith
    short reasons.NotRequest = omega arith
    short reasons.NoIdentity = omega arith
    short reasons.DropClass = omega arith
    short reasons.NoSubnet = omega arith
    short reasons.NoAddress = omega arith
    short reasons.NoRequested = omega arith
    short reasons.OtherServer = omega arith
    short reasons.NoRecord = omega arith
    short reasons.NoCiaddr = omega arith
    short reasons.ReplyTooLong = omega arith
    short reasons.Released = omega arith
    short reasons.Declined = omega arith
    short reasons.NotHeld = omega arith

-- a line fits if its response is no longer than a reply of 1,472 bytes or a reason
pub line_fits : (handled : Handled) → handled.now < 2 ^ 64 → length (response_text handled.response) ≤ 3100 → length (line_of handled) ≤ line_room
unfolding line_of
line_fits handled moment response =
    let number = decimal_length handled.now moment in
    simp length-append (omega (arith, number, response))
