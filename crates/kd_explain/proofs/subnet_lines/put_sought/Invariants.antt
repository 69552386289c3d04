use Rattle.std.proofs.Common.{◌≡◌, ◌++◌, length}
use Rattle.std.specs.Prelude.{string_bytes}
use Rattle.kd_explain.specs.FoundLines.{sought_lines}
use Rattle.kd_explain.proofs.subnet_lines.put_sought.Given as goal

abbrev pub invariant-loop-left : goal.invariant-loop-left
invariant-loop-left l =
    string_bytes l.out ++ sought_lines l.sought.relayed l.sought.by_relay l.sought.place l.sought.names.now l.left
    ≡ string_bytes l.fn.out ++ sought_lines l.sought.relayed l.sought.by_relay l.sought.place l.sought.names.now l.subnets

abbrev pub decreases-loop-left : goal.decreases-loop-left
decreases-loop-left l = length l.left
