use Rattle.std.proofs.Common.{eq-eqb}
use Rattle.kd_names.proofs.Cuts.{comma_is}
use Rattle.kd_names.proofs.pieces.put_label.Goals as goal

pub returns-then-first-eq0 : goal.returns-then-first-eq0
returns-then-first-eq0 c =
    rw (eq-eqb c.args.first 0 c.if-first-eq0.true, comma_is (λ n. n) c.args.behind.now) c.put_comma_before.ensures
