use Rattle.std.proofs.Common.{◌≡◌, [], drop, take, length}
use Rattle.std.specs.Prelude.{reverse}
use Rattle.kd_token.proofs.Pairwise.{met_onto}
use Rattle.kd_token.proofs.shape.meet_kinds.Given as goal

abbrev pub invariant-kinds : goal.invariant-kinds
invariant-kinds l = record {
  size : length l.known ≡ length l.others;
  told : met_onto (drop l.i l.known) (drop l.i l.others) (reverse (take l.i l.known))
      ≡ met_onto l.fn.known l.fn.others [];
}
