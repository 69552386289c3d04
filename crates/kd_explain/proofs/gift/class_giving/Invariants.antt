use Rattle.std.proofs.Common.{◌≡◌, ℕ, ◌<◌, false}
use Rattle.kd_explain.specs.Gift.{class_gives}
use Rattle.kd_explain.proofs.gift.class_giving.Given as goal

abbrev pub invariant-loop-i : goal.invariant-loop-i
invariant-loop-i l = (j : ℕ) → j < l.i → class_gives l.classes l.names l.gift j ≡ false
