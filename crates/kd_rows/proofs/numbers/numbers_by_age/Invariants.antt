use Rattle.std.proofs.Common.{◌≡◌, map, take}
use Rattle.kd_rows.proofs.numbers.numbers_by_age.Given as goal

abbrev pub invariant-loop-age : goal.invariant-loop-age
invariant-loop-age l = l.numbers.items ≡ map (λ x. x.3) (take l.age-index l.age-items)
