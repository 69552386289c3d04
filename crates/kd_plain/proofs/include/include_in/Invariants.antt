use Rattle.std.proofs.Common.{◌≡◌, length}
use Rattle.kd_plain.specs.Plain.{first_include, spans}
use Rattle.kd_plain.proofs.include.include_in.Given as goal

abbrev pub invariant-loop-behind : goal.invariant-loop-behind
invariant-loop-behind l = first_include (spans l.rest) ≡ first_include (spans l.text)

abbrev pub decreases-loop-behind : goal.decreases-loop-behind
decreases-loop-behind l = length l.rest
