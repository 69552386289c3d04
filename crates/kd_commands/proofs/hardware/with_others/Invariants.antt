use Rattle.std.proofs.Common.{◌≡◌, option_map, ◌++◌, length}
use Rattle.kd_commands.specs.Values.{bytes_behind}
use Rattle.kd_commands.proofs.hardware.with_others.Given as goal

abbrev pub invariant-loop-byte : goal.invariant-loop-byte
invariant-loop-byte l =
    option_map (λ more. l.bytes.items ++ more) (bytes_behind l.left) ≡ option_map (λ more. l.fn.bytes.items ++ more) (bytes_behind l.text)

abbrev pub decreases-loop-byte : goal.decreases-loop-byte
decreases-loop-byte l = length l.left
