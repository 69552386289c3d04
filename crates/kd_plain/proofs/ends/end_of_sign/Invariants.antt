use Rattle.std.proofs.Common.{◌≡◌, ◌+◌, drop}
use Rattle.std.specs.Prelude.{option_map}
use Rattle.kd_plain.specs.Plain.{size_with}
use Rattle.kd_plain.proofs.ends.end_of_sign.Given as goal

abbrev pub invariant-loop-at : goal.invariant-loop-at
invariant-loop-at l = size_with l.sign l.bytes ≡ option_map (λ n. n + l.at) (size_with l.sign (drop l.at l.bytes))
