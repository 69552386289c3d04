-- The reasons why a datagram gets no reply: their numbers and names.
use Rattle.std.specs.Prelude.{ℕ, List, codes}
use Rattle.kd_event.specs.declared.reason.Reason.{Reason}
use Rattle.kd_event.specs.declared.reason.Reason.TheVariants as reasons

-- the number of each reason
abbrev pub reason_number : Reason → ℕ
reason_number reasons.Unreadable = 1
reason_number reasons.NotRequest = 2
reason_number reasons.NoIdentity = 3
reason_number reasons.DropClass = 4
reason_number reasons.NoSubnet = 5
reason_number reasons.NoAddress = 6
reason_number reasons.NoRequested = 7
reason_number reasons.OtherServer = 8
reason_number reasons.NoRecord = 9
reason_number reasons.NoCiaddr = 10
reason_number reasons.ReplyTooLong = 11
reason_number reasons.Released = 12
reason_number reasons.Declined = 13
reason_number reasons.NotHeld = 14

-- the name of each reason
abbrev pub reason_name : Reason → List ℕ
reason_name reasons.Unreadable = codes "Unreadable"
reason_name reasons.NotRequest = codes "NotRequest"
reason_name reasons.NoIdentity = codes "NoIdentity"
reason_name reasons.DropClass = codes "DropClass"
reason_name reasons.NoSubnet = codes "NoSubnet"
reason_name reasons.NoAddress = codes "NoAddress"
reason_name reasons.NoRequested = codes "NoRequested"
reason_name reasons.OtherServer = codes "OtherServer"
reason_name reasons.NoRecord = codes "NoRecord"
reason_name reasons.NoCiaddr = codes "NoCiaddr"
reason_name reasons.ReplyTooLong = codes "ReplyTooLong"
reason_name reasons.Released = codes "Released"
reason_name reasons.Declined = codes "Declined"
reason_name reasons.NotHeld = codes "NotHeld"
