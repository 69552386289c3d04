use Rattle.std.proofs.Common.{◌≡◌, [], ◌∷◌, drop, find}
use Rattle.kd_values.specs.Signs.{gives_type}
use Rattle.kd_values.proofs.signs.message_type_of.Given as goal

abbrev pub invariant-loop-number : goal.invariant-loop-number
invariant-loop-number l = find (gives_type l.text) (drop l.number-index l.number-items) ≡ find (gives_type l.text) (1 ∷ 2 ∷ 3 ∷ 4 ∷ 5 ∷ 6 ∷ 7 ∷ 8 ∷ [])
