use Rattle.std.proofs.Common.{◌≡◌, ℕ, List, arith, subst, sym, ◌∙◌}
use Rattle.kd_rows.specs.Ages.{is_of_place}
use Rattle.kd_rows.proofs.Newest.{Walk, newest_here, none_at_end, none_left, passed_first}
use Rattle.kd_rows.proofs.age.newest_from.Goals as goal

pub loop-place-init : goal.loop-place-init
loop-place-init c = passed_first _ _ _ _ _

pub returns-then-not-is_of : goal.returns-then-not-is_of
returns-then-not-is_of c = λ client group before begin.
    let is : c.is_of.result ≡ is_of_place c.args.rows.now.cuts c.args.from.now c.row_by_age-row.result.now = subst (λ (cuts : List ℕ). c.is_of.result ≡ is_of_place cuts c.args.from.now c.row_by_age-row.result.now) c.zones.ensures c.is_of.ensures in
    let walk : Walk c.args.rows.now.cuts c.args.rows.now.rows c.args.rows.now.ages c.args.from.now c.age_place-start.result = record { indexed = c.requires.aged; ranged = c.requires.ranges; begins = c.age_place-start.ensures } in
    none_left c.args.rows.now.cuts _ _ _ _ _ c.args.first c.args.last client group before c.row_by_age-row.result.now walk begin c.loop-place.invariant (omega arith) c.row_by_age-row.ensures.found c.row_by_age-row.ensures.at (sym is ∙ c.if-not-is_of.true)

pub returns-then-is_from_to : goal.returns-then-is_from_to
returns-then-is_from_to c = λ client group before begin.
    let is : c.is_of.result ≡ is_of_place c.args.rows.now.cuts c.args.from.now c.row_by_age-row.result.now = subst (λ (cuts : List ℕ). c.is_of.result ≡ is_of_place cuts c.args.from.now c.row_by_age-row.result.now) c.zones.ensures c.is_of.ensures in
    let walk : Walk c.args.rows.now.cuts c.args.rows.now.rows c.args.rows.now.ages c.args.from.now c.age_place-start.result = record { indexed = c.requires.aged; ranged = c.requires.ranges; begins = c.age_place-start.ensures } in
    newest_here c.args.rows.now.cuts _ _ _ _ _ c.args.first c.args.last client group before c.row_by_age-row.result.now walk begin c.loop-place.invariant (omega arith) c.row_by_age-row.ensures.found c.row_by_age-row.ensures.at (sym is ∙ c.if-not-is_of.false) (sym c.is_from_to.ensures ∙ c.if-is_from_to.true)

pub returns : goal.returns
returns c = λ client group before begin.
    let walk : Walk c.args.rows.now.cuts c.args.rows.now.rows c.args.rows.now.ages c.args.from.now c.age_place-start.result = record { indexed = c.requires.aged; ranged = c.requires.ranges; begins = c.age_place-start.ensures } in
    none_at_end c.args.rows.now.cuts _ _ _ _ _ c.args.first c.args.last client group before walk begin c.loop-place.invariant (omega arith)
