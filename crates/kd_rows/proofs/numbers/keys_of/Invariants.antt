use Rattle.kd_rows.specs.Index.{AreKeys, client_of}
use Rattle.kd_rows.proofs.numbers.keys_of.Given as goal

abbrev pub invariant-loop-i : goal.invariant-loop-i
invariant-loop-i l = AreKeys (λ x. (x.0.now, x.1)) (λ x. x.2) client_of l.rows.items l.i l.keys.items
