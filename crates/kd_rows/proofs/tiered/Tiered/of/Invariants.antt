use Rattle.std.proofs.Common.{◌≡◌, take}
use Rattle.kd_rows.proofs.tiered.Tiered.of.Given as goal

abbrev pub invariant-loop-number : goal.invariant-loop-number
invariant-loop-number l = l.tiered.numbers ≡ take l.number-index l.fn.numbers
