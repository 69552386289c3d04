use Rattle.std.proofs.Common.{arith, ◌+◌, ap, sym, subst}
use Rattle.kd_rows.specs.declared.row.Row.{Row}
use Rattle.kd_rows.specs.Index.{AreKeys, age_key, age_of}
use Rattle.kd_rows.proofs.Places.{from_on}
use Rattle.kd_rows.proofs.Sorting.{age_is, keys_more, one_key}
use Rattle.kd_rows.proofs.numbers.ages_of.Goals as goal

pub age_with-requires : goal.age_with-requires
age_with-requires c =
    let far = from_on 0 c.args.rows.now.items c.requires c.loop-i.i c.index.result.now (omega arith) in
    omega (arith, ap (λ (r : Row). r.address) c.index.ensures)

pub loop-i-preserved : goal.loop-i-preserved
loop-i-preserved c = subst (λ keys. AreKeys (λ x. (age_key x.0.now x.1.0 x.1.1, x.2)) (λ x. x.3) (age_of c.args.zones.now) c.args.rows.now.items (c.loop-i.i + 1) keys) (sym c.in_ok-push.ensures.items)
    (keys_more (λ x. (age_key x.0.now x.1.0 x.1.1, x.2)) (λ x. x.3) (age_of c.args.zones.now) c.args.rows.now.items c.loop-i.i c.loop-i.keys.items _ c.loop-i.invariant c.age_with.ensures.number
    (one_key (age_of c.args.zones.now) c.args.rows.now.items c.loop-i.i c.index.result.now _ _ (omega arith) c.index.ensures (age_is c.args.zones.now _ _ _ c.index.result.now c.age_with.ensures.client c.age_with.ensures.group c.age_with.ensures.left) c.age_with.ensures.address))
