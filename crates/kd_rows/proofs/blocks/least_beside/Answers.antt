use Rattle.std.proofs.Common.{◌*◌, arith, subst, sym, ◌∙◌}
use Rattle.std.proofs.lemmas.Bool.{false≢true}
use Rattle.kd_rows.specs.Index.{IsBound, IsPlace, block_number}
use Rattle.kd_rows.proofs.Bounds.{least_all, least_first, least_step, least_to}
use Rattle.kd_rows.proofs.blocks.least_beside.Goals as goal
use Rattle.kd_rows.proofs.blocks.least_beside.Goals.{then-not-is_among, else-not-is_among}

pub loop-place-init : goal.loop-place-init
loop-place-init c =
    least_first c.rows.inside.withheld.now c.rows.inside.all.now.rows (block_number c.args.address) c.place_of-place.result _ (subst (λ block. IsPlace c.rows.inside.all.now.rows (block * 64) c.place_of-place.result) c.block_of-block.ensures c.place_of-place.ensures)

pub returns-then-block-block_of : goal.returns-then-block-block_of
returns-then-block-block_of c = subst (λ rows. IsBound rows (block_number c.args.address) c.loop-place.least) c.rows.view_is
    (least_to c.rows.inside.withheld.now c.rows.inside.all.now.rows (block_number c.args.address) c.loop-place.place c.loop-place.least c.row-row.result.now c.rows.invariant.rise (omega arith) c.row-row.ensures (omega (arith, c.if-block-block_of.true, c.block_of-block.ensures, c.block_of.ensures)) c.loop-place.invariant)

pub loop-place-preserved : goal.loop-place-preserved
loop-place-preserved c =
    let step = least_step c.rows.inside.withheld.now c.rows.inside.all.now.rows (block_number c.args.address) c.loop-place.place c.loop-place.least c.if-not-is_among.least c.row-row.result.now (omega arith) c.row-row.ensures c.loop-place.invariant in
    elim c.if-not-is_among.branch [
      | then-not-is_among w ↦ step (omega (arith, w.least-is, w.min-least.ensures)) (λ out. omega (arith, w.least-is, w.min-least.ensures))
      | else-not-is_among w ↦ step (omega (arith, w.least-is)) (λ out. absurd (false≢true (sym out ∙ sym c.is_among.ensures ∙ w.if-not-is_among.false)))
    ]

pub returns : goal.returns
returns c = subst (λ rows. IsBound rows (block_number c.args.address) c.loop-place.least) c.rows.view_is
    (least_all c.rows.inside.withheld.now c.rows.inside.all.now.rows (block_number c.args.address) c.loop-place.place c.loop-place.least (omega arith) c.loop-place.invariant)
