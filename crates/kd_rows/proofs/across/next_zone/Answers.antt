use Rattle.std.proofs.Common.{◌≡◌, ℕ, List, Some, ap, arith, get_or, subst, sym, ◌∙◌}
use Rattle.kd_rows.specs.Table.{row_at}
use Rattle.kd_rows.specs.Zones.{IsNextZone, zone_in}
use Rattle.kd_rows.proofs.NextZones.{next_there, none_later, none_there, seek_from}
use Rattle.kd_rows.proofs.across.next_zone.Goals as goal

pub returns-then-place-ages_len : goal.returns-then-place-ages_len
returns-then-place-ages_len c =
    none_later c.args.rows.now.rows c.args.rows.now.ages c.args.rows.now.cuts c.args.client.now c.args.state c.args.zone c.age_place-place.result
    (seek_from c.args.rows.now.rows c.args.rows.now.ages c.args.rows.now.cuts c.args.client.now c.args.state c.args.zone c.age_place-place.result c.group.result c.start_of-from.result c.requires.aged c.group.ensures c.start_of-from.ensures c.age_place-place.ensures) (omega (arith, c.if-place-ages_len.true, c.ages_len.ensures))

pub returns-then-has_kind : goal.returns-then-has_kind
returns-then-has_kind c =
    let seek = seek_from c.args.rows.now.rows c.args.rows.now.ages c.args.rows.now.cuts c.args.client.now c.args.state c.args.zone c.age_place-place.result c.group.result c.start_of-from.result c.requires.aged c.group.ensures c.start_of-from.ensures c.age_place-place.ensures in
    let there : row_at c.args.rows.now.rows (get_or c.args.rows.now.ages c.age_place-place.result 0) ≡ Some c.row_by_age-row.result.now = subst (λ (x : ℕ). row_at c.args.rows.now.rows x ≡ Some c.row_by_age-row.result.now) c.row_by_age-row.ensures.at c.row_by_age-row.ensures.found in
    let zone : c.of.result ≡ zone_in c.args.rows.now.cuts c.row_by_age-row.result.now.address = c.of.ensures ∙ ap (λ (cuts : List ℕ). zone_in cuts c.row_by_age-row.result.now.address) c.zones.ensures in
    subst (λ (z : ℕ). IsNextZone c.args.rows.now.rows c.args.rows.now.cuts c.args.client.now c.args.state c.args.zone (Some z)) (sym zone)
    (next_there c.args.rows.now.rows c.args.rows.now.ages c.args.rows.now.cuts c.args.client.now c.args.state c.args.zone c.age_place-place.result c.row_by_age-row.result.now seek (omega (arith, c.if-place-ages_len.false, c.ages_len.ensures, c.age_place-place.ensures.in_range)) there (sym c.has_kind.ensures ∙ c.if-has_kind.true))

pub returns-else-has_kind : goal.returns-else-has_kind
returns-else-has_kind c =
    let seek = seek_from c.args.rows.now.rows c.args.rows.now.ages c.args.rows.now.cuts c.args.client.now c.args.state c.args.zone c.age_place-place.result c.group.result c.start_of-from.result c.requires.aged c.group.ensures c.start_of-from.ensures c.age_place-place.ensures in
    let there : row_at c.args.rows.now.rows (get_or c.args.rows.now.ages c.age_place-place.result 0) ≡ Some c.row_by_age-row.result.now = subst (λ (x : ℕ). row_at c.args.rows.now.rows x ≡ Some c.row_by_age-row.result.now) c.row_by_age-row.ensures.at c.row_by_age-row.ensures.found in
    none_there c.args.rows.now.rows c.args.rows.now.ages c.args.rows.now.cuts c.args.client.now c.args.state c.args.zone c.age_place-place.result c.row_by_age-row.result.now seek (omega (arith, c.if-place-ages_len.false, c.ages_len.ensures, c.age_place-place.ensures.in_range)) there (sym c.has_kind.ensures ∙ c.if-has_kind.false)
