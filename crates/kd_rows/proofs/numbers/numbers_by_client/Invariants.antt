use Rattle.std.proofs.Common.{◌≡◌, map, take}
use Rattle.kd_rows.proofs.numbers.numbers_by_client.Given as goal

abbrev pub invariant-loop-key : goal.invariant-loop-key
invariant-loop-key l = l.numbers.items ≡ map (λ x. x.2) (take l.key-index l.key-items)
