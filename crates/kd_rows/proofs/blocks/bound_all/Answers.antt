use Rattle.std.proofs.Common.{◌+◌, ap, arith, sym, subst, ◌∙◌}
use Rattle.kd_rows.specs.declared.row.Row.{Row}
use Rattle.kd_rows.specs.Index.{Bounds, IsBound, bound_row}
use Rattle.kd_rows.specs.Table.{with_row}
use Rattle.kd_rows.proofs.Bounds.{BoundedTo, bounded_all, bounded_first, bounded_more, bounded_same}
use Rattle.kd_rows.proofs.blocks.bound_all.Goals as goal
use Rattle.kd_rows.proofs.blocks.bound_all.Goals.{then-place-eq0+in_ok-reserve, else-place-eq0+else-block_of}

pub loop-place-init : goal.loop-place-init
loop-place-init c = bounded_first c.rows.inside.all.now.rows c.args.rows.now c.args.blocks.now.rows c.requires

pub loop-place-preserved : goal.loop-place-preserved
loop-place-preserved c =
    let rows = c.rows.inside.all.now.rows in
    let others = c.args.rows.now in
    let place = c.loop-place.place in
    elim c.if-place-eq0.branch [
      | then-place-eq0+in_ok-reserve w ↦
          (let bound : Row = bound_row (record { block = w.block_of-then-place-eq0.result; least = w.least_beside.result }) in
          let this = subst (λ block. IsBound others block w.least_beside.result) (sym w.block_of-then-place-eq0.ensures) w.least_beside.ensures in
          let more = bounded_more rows others c.loop-place.blocks.rows place c.row.result.now bound (omega arith) c.row.ensures w.block_of-then-place-eq0.ensures this c.loop-place.invariant in
          subst (λ (blocks : Bounds). BoundedTo rows others blocks.rows (place + 1)) (sym w.blocks-is) (subst (λ bounds. BoundedTo rows others bounds (place + 1)) (sym (w.set.ensures.rows ∙ ap (with_row bound) w.reserve.ensures.rows)) more))
      | else-place-eq0+else-block_of w ↦ subst (λ (blocks : Bounds). BoundedTo rows others blocks.rows (place + 1)) (sym w.blocks-is)
          (bounded_same rows others c.loop-place.blocks.rows place c.row.result.now w.row-else-place-eq0.result.now (omega (arith, w.if-place-eq0.false)) (omega arith) c.row.ensures w.row-else-place-eq0.ensures (sym w.block_of.ensures ∙ w.if-block_of.false ∙ w.block_of-else-place-eq0.ensures) c.loop-place.invariant)
    ]

pub returns : goal.returns
returns c = bounded_all c.rows.inside.withheld.now c.rows.inside.all.now.rows c.args.rows.now c.loop-place.blocks.rows c.loop-place.place c.rows.view_is (omega arith) c.loop-place.invariant
