use Rattle.kd_rows.specs.Index.{AreKeys, age_key, age_of}
use Rattle.kd_rows.proofs.numbers.ages_of.Given as goal

abbrev pub invariant-loop-i : goal.invariant-loop-i
invariant-loop-i l = AreKeys (λ x. (age_key x.0.now x.1.0 x.1.1, x.2)) (λ x. x.3) (age_of l.zones) l.rows.items l.i l.keys.items
