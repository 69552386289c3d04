-- Texts without a byte: the parts of an event's line have no line feed, and its first words have no
-- space.
use Rattle.std.proofs.Common.{◌^◌, ◌<◌, ◌∷◌, ◌++◌, refl, arith}
use Rattle.std.specs.Prelude.{codes, decimal}
use Rattle.kd_event.specs.Reason.{reason_name, reason_number}
use Rattle.kd_event.specs.declared.destination.Mode.{Mode}
use Rattle.kd_event.specs.declared.destination.Mode.TheVariants as modes
use Rattle.kd_event.specs.declared.event.Response.{Response}
use Rattle.kd_event.specs.declared.event.Response.TheVariants as responses
use Rattle.kd_event.specs.declared.reason.Reason.{Reason}
use Rattle.kd_event.specs.declared.reason.Reason.TheVariants as reasons
use Rattle.kd_loops.specs.Text.{IsSmall, mode_word}
use Rattle.kd_text.specs.Text.{address_text, bytes_text}
use Rattle.kd_text.specs.Words.{HasNo}
use Rattle.kd_text.proofs.Plain.{address_plain, bytes_plain, decimal_plain, from_is_plain, is_plain, newline_is_none, plain_append, space_is_none}
use Rattle.kd_log.specs.Logged.{HasBytes}
use Rattle.kd_log.specs.LogParts.{after_third, second_word, third_word}

mode_spaceless : (mode : Mode) → HasNo 32 (mode_word mode)
unfolding is_plain
mode_spaceless modes.Relay = from_is_plain 32 (codes "relay") refl
mode_spaceless modes.Unicast = from_is_plain 32 (codes "unicast") refl
mode_spaceless modes.Broadcast = from_is_plain 32 (codes "broadcast") refl
mode_spaceless modes.Hardware = from_is_plain 32 (codes "hardware") refl

reason_small : (reason : Reason) → reason_number reason < 2 ^ 64
reason_small reasons.Unreadable = omega arith
reason_small reasons.NotRequest = omega arith
reason_small reasons.NoIdentity = omega arith
reason_small reasons.DropClass = omega arith
reason_small reasons.NoSubnet = omega arith
reason_small reasons.NoAddress = omega arith
reason_small reasons.NoRequested = omega arith
reason_small reasons.OtherServer = omega arith
reason_small reasons.NoRecord = omega arith
reason_small reasons.NoCiaddr = omega arith
reason_small reasons.ReplyTooLong = omega arith
reason_small reasons.Released = omega arith
reason_small reasons.Declined = omega arith
reason_small reasons.NotHeld = omega arith

pub second_spaceless : (response : Response) → HasNo 32 (second_word response)
unfolding is_plain
second_spaceless (responses.Reply destination bytes) = from_is_plain 32 (codes "reply") refl
second_spaceless (responses.Quiet reason) = from_is_plain 32 (codes "quiet") refl

pub third_spaceless : (response : Response) → HasNo 32 (third_word response)
third_spaceless (responses.Reply destination bytes) = mode_spaceless destination.mode
third_spaceless (responses.Quiet reason) = decimal_plain 32 (reason_number reason) space_is_none (reason_small reason)

mode_plain : (mode : Mode) → HasNo 10 (mode_word mode)
unfolding is_plain
mode_plain modes.Relay = from_is_plain 10 (codes "relay") refl
mode_plain modes.Unicast = from_is_plain 10 (codes "unicast") refl
mode_plain modes.Broadcast = from_is_plain 10 (codes "broadcast") refl
mode_plain modes.Hardware = from_is_plain 10 (codes "hardware") refl

reason_plain : (reason : Reason) → HasNo 10 (reason_name reason)
unfolding is_plain
reason_plain reasons.Unreadable = from_is_plain 10 (codes "Unreadable") refl
reason_plain reasons.NotRequest = from_is_plain 10 (codes "NotRequest") refl
reason_plain reasons.NoIdentity = from_is_plain 10 (codes "NoIdentity") refl
reason_plain reasons.DropClass = from_is_plain 10 (codes "DropClass") refl
reason_plain reasons.NoSubnet = from_is_plain 10 (codes "NoSubnet") refl
reason_plain reasons.NoAddress = from_is_plain 10 (codes "NoAddress") refl
reason_plain reasons.NoRequested = from_is_plain 10 (codes "NoRequested") refl
reason_plain reasons.OtherServer = from_is_plain 10 (codes "OtherServer") refl
reason_plain reasons.NoRecord = from_is_plain 10 (codes "NoRecord") refl
reason_plain reasons.NoCiaddr = from_is_plain 10 (codes "NoCiaddr") refl
reason_plain reasons.ReplyTooLong = from_is_plain 10 (codes "ReplyTooLong") refl
reason_plain reasons.Released = from_is_plain 10 (codes "Released") refl
reason_plain reasons.Declined = from_is_plain 10 (codes "Declined") refl
reason_plain reasons.NotHeld = from_is_plain 10 (codes "NotHeld") refl

pub second_plain : (response : Response) → HasNo 10 (second_word response)
unfolding is_plain
second_plain (responses.Reply destination bytes) = from_is_plain 10 (codes "reply") refl
second_plain (responses.Quiet reason) = from_is_plain 10 (codes "quiet") refl

pub third_plain : (response : Response) → HasNo 10 (third_word response)
third_plain (responses.Reply destination bytes) = mode_plain destination.mode
third_plain (responses.Quiet reason) = decimal_plain 10 (reason_number reason) newline_is_none (reason_small reason)

pub rest_plain : (response : Response) → IsSmall response → HasBytes response → HasNo 10 (after_third response)
rest_plain (responses.Reply destination bytes) small are =
    let port = plain_append 10 (decimal destination.port) (32 ∷ bytes_text bytes) (decimal_plain 10 destination.port newline_is_none (omega (arith, small.2))) (refl, bytes_plain 10 refl refl bytes are) in
    plain_append 10 (address_text destination.address) (58 ∷ (decimal destination.port ++ 32 ∷ bytes_text bytes)) (address_plain 10 destination.address newline_is_none refl small.1) (refl, port)
rest_plain (responses.Quiet reason) small are = reason_plain reason
