use Rattle.std.proofs.Common.{ap, arith, subst, sym, ◌+◌}
use Rattle.kd_rows.specs.declared.row.Row.{Row}
use Rattle.kd_rows.proofs.Places.{from_on}
use Rattle.kd_rows.proofs.Slots.{AreFirst, first_all, first_more, first_sorted}
use Rattle.kd_rows.proofs.numbers.numbers_by_address.Goals as goal

pub number_of-requires : goal.number_of-requires
number_of-requires c = λ low.
    let far = from_on 0 c.args.rows.now.items c.requires c.loop-i.i c.index.result.now (omega (arith, c.args.rows.now.ok.0)) in
    omega (arith, far, ap (λ (r : Row). r.address) c.index.ensures)

pub loop-i-preserved : goal.loop-i-preserved
loop-i-preserved c = subst (AreFirst c.args.rows.now.items (c.loop-i.i + 1)) (sym c.in_ok-push.ensures.items)
    (first_more c.args.rows.now.items c.loop-i.i c.loop-i.numbers.items c.index.result.now c.number_of.result c.loop-i.invariant (omega (arith, c.args.rows.now.ok.0)) c.index.ensures c.number_of.ensures.number c.number_of.ensures.bound)

pub returns-clause-by_address : goal.returns-clause-by_address
returns-clause-by_address c = first_sorted c.args.rows.now.items c.loop-i.i c.loop-i.numbers.items c.requires c.loop-i.invariant (omega (arith, c.args.rows.now.ok.0))

pub returns-clause-same : goal.returns-clause-same
returns-clause-same c = first_all c.args.rows.now.items c.loop-i.i c.loop-i.numbers.items c.requires c.loop-i.invariant (omega (arith, c.args.rows.now.ok.0))
