use Rattle.std.proofs.Common.{arith, ◌+◌, ap, sym, subst}
use Rattle.kd_rows.specs.declared.row.Row.{Row}
use Rattle.kd_rows.specs.Index.{AreKeys, client_of}
use Rattle.kd_rows.proofs.Places.{from_on}
use Rattle.kd_rows.proofs.Sorting.{keys_more, one_key}
use Rattle.kd_rows.proofs.numbers.keys_of.Goals as goal

pub key_of-requires : goal.key_of-requires
key_of-requires c =
    let far = from_on 0 c.args.rows.now.items c.requires c.loop-i.i c.index.result.now (omega arith) in
    omega (arith, ap (λ (r : Row). r.address) c.index.ensures)

pub loop-i-preserved : goal.loop-i-preserved
loop-i-preserved c = subst (λ keys. AreKeys (λ x. (x.0.now, x.1)) (λ x. x.2) client_of c.args.rows.now.items (c.loop-i.i + 1) keys) (sym c.in_ok-push.ensures.items)
    (keys_more (λ x. (x.0.now, x.1)) (λ x. x.2) client_of c.args.rows.now.items c.loop-i.i c.loop-i.keys.items _ c.loop-i.invariant c.key_of.ensures.number
    (one_key client_of c.args.rows.now.items c.loop-i.i c.index.result.now _ _ (omega arith) c.index.ensures c.key_of.ensures.client c.key_of.ensures.address))
