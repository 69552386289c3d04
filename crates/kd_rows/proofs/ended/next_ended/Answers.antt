use Rattle.std.proofs.Common.{◌<◌, length, arith, subst}
use Rattle.kd_rows.specs.Index.{IsPlace, bound_row}
use Rattle.kd_rows.proofs.Walks.{block_found, block_live, block_none, blocks_first, blocks_over, blocks_past, blocks_step}
use Rattle.kd_rows.proofs.ended.next_ended.Goals as goal
use Rattle.kd_rows.proofs.ended.next_ended.Goals.{then-bound-moment+in-None, else-bound-moment}

pub loop-place-init : goal.loop-place-init
loop-place-init c = blocks_first c.args.rows.now c.args.blocks.now.rows c.args.first c.args.last c.args.moment c.place_of-place.result c.requires (subst (λ block. IsPlace c.args.blocks.now.rows block c.place_of-place.result) c.block_of.ensures c.place_of-place.ensures)

pub returns-then-end-bound : goal.returns-then-end-bound
returns-then-end-bound c = blocks_past c.args.rows.now c.args.blocks.now.rows c.args.first c.args.last c.args.moment c.loop-place.place (bound_row c.at-bound.result) c.requires (omega arith) c.at-bound.ensures (omega (arith, c.if-end-bound.true, c.block_of-end.ensures)) c.loop-place.invariant

pub returns-in-Some : goal.returns-in-Some
returns-in-Some c = block_found c.args.rows.now c.args.blocks.now.rows c.args.first c.args.last c.max-from.result c.min-to.result c.args.moment c.loop-place.place (bound_row c.at-bound.result) c.in-Some.row.now c.requires (omega arith) c.at-bound.ensures
    (omega (arith, c.max-from.ensures)) (omega (arith, c.min-to.ensures)) c.in-Some.ensures c.loop-place.invariant

pub loop-place-preserved : goal.loop-place-preserved
loop-place-preserved c =
    let rows = c.args.rows.now in
    let bounds = c.args.blocks.now.rows in
    let bound = bound_row c.at-bound.result in
    let within : c.loop-place.place < length bounds = omega arith in
    blocks_step rows bounds c.args.first c.args.last c.args.moment c.loop-place.place bound c.requires within c.at-bound.ensures
    (elim c.if-bound-moment.branch [
      | then-bound-moment+in-None w ↦ block_none rows c.args.first c.args.last w.max-from.result w.min-to.result c.args.moment bound.address (omega (arith, w.max-from.ensures)) (omega (arith, w.min-to.ensures)) w.in-None.ensures
      | else-bound-moment w ↦ block_live rows bounds c.args.first c.args.last c.args.moment c.loop-place.place bound c.requires within c.at-bound.ensures (omega (arith, w.if-bound-moment.false))
    ])
    c.loop-place.invariant

pub returns : goal.returns
returns c = blocks_over c.args.rows.now c.args.blocks.now.rows c.args.first c.args.last c.args.moment c.loop-place.place (omega arith) c.loop-place.invariant
