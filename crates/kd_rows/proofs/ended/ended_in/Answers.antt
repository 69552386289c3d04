use Rattle.std.proofs.Common.{◌≤◌, None, Some, arith, subst, sym, ◌∙◌}
use Rattle.std.proofs.lemmas.Bool.{false≢true}
use Rattle.kd_rows.specs.Table.{IsNextEnded}
use Rattle.kd_rows.proofs.Places.{read_at}
use Rattle.kd_rows.proofs.Walks.{ended_here, none_first, none_over, none_past, none_step}
use Rattle.kd_rows.proofs.ended.ended_in.Goals as goal
use Rattle.kd_rows.proofs.ended.ended_in.Goals.{else-row-moment-via-then-row-moment+else-not-is_among, else-row-moment-via-else-row-moment}

pub loop-place-init : goal.loop-place-init
loop-place-init c = record { above = c.place_of-place.ensures.above; none = none_first c.rows.inside.withheld.now c.rows.inside.all.now.rows c.args.first c.args.moment c.place_of-place.result c.place_of-place.ensures }

pub returns-then-last-row : goal.returns-then-last-row
returns-then-last-row c = subst (λ rows. IsNextEnded rows c.args.first c.args.last c.args.moment None) c.rows.view_is
    (none_past c.rows.inside.withheld.now c.rows.inside.all.now.rows c.args.first c.args.last c.args.moment c.loop-place.place c.row-row.result.now c.rows.invariant.rise (omega arith) c.row-row.ensures c.if-last-row.true c.loop-place.invariant.none)

pub returns-then-not-is_among : goal.returns-then-not-is_among
returns-then-not-is_among c =
    let from : c.args.first ≤ c.row-row.result.now.address = omega (arith, c.loop-place.invariant.above c.loop-place.place c.row-row.result.now (omega arith) (omega arith), read_at c.rows.inside.all.now.rows c.loop-place.place c.row-row.result.now c.row-row.result.now (omega arith) c.row-row.ensures) in
    subst (λ rows. IsNextEnded rows c.args.first c.args.last c.args.moment (Some c.row-row.result.now)) c.rows.view_is
    (ended_here c.rows.inside.withheld.now c.rows.inside.all.now.rows c.args.first c.args.last c.args.moment c.loop-place.place c.row-row.result.now c.rows.invariant.rise (omega arith) c.row-row.ensures from (omega (arith, c.if-last-row.false)) c.if-row-moment.true (sym c.is_among.ensures ∙ c.if-not-is_among.true) c.loop-place.invariant.none)

pub loop-place-preserved : goal.loop-place-preserved
loop-place-preserved c = record {
  above = λ i d after inside. c.loop-place.invariant.above i d (omega arith) inside;
  none = none_step c.rows.inside.withheld.now c.rows.inside.all.now.rows c.args.first c.args.moment c.loop-place.place c.row-row.result.now c.rows.invariant.rise (omega arith) c.row-row.ensures
      (λ out. elim c.else-row-moment.branch [
        | else-row-moment-via-then-row-moment+else-not-is_among w ↦ absurd (false≢true (sym out ∙ sym w.is_among.ensures ∙ w.if-not-is_among.false))
        | else-row-moment-via-else-row-moment w ↦ omega (arith, w.if-row-moment.false)
      ])
      c.loop-place.invariant.none;
}

pub returns : goal.returns
returns c = subst (λ rows. IsNextEnded rows c.args.first c.args.last c.args.moment None) c.rows.view_is
    (none_over c.rows.inside.withheld.now c.rows.inside.all.now.rows c.args.first c.args.last c.args.moment c.loop-place.place (omega arith) c.loop-place.invariant.none)
