use Rattle.std.proofs.Common.{◌≡◌, length}
use Rattle.kd_options.specs.RelayWalk.{are_whole_from}
use Rattle.kd_options.proofs.relay.is_whole.Given as goal

abbrev pub invariant-loop-rest : goal.invariant-loop-rest
invariant-loop-rest l = are_whole_from 0 l.left ≡ are_whole_from 0 l.value

abbrev pub decreases-loop-rest : goal.decreases-loop-rest
decreases-loop-rest l = length l.left
