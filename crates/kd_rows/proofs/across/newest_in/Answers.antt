use Rattle.std.proofs.Common.{◌≡◌, ◌<◌, ◌≤◌, ℕ, List, ap, arith, subst, sym, ◌∙◌}
use Rattle.std.specs.Option.{option_copied}
use Rattle.kd_rows.specs.Table.{IsNewestRow, is_aged}
use Rattle.kd_rows.specs.Zones.{group_number, is_in_group, zone_in}
use Rattle.kd_rows.proofs.Zoned.{all_zones, is_aged_below, none_below, zone_more, zones_passed}
use Rattle.kd_rows.proofs.Zoning.{zones_rise}
use Rattle.kd_rows.proofs.across.newest_in.Goals as goal

pub each-init : goal.each-init
each-init c = none_below c.args.rows.now.rows c.args.rows.now.cuts c.args.client.now c.args.state c.args.first c.args.last c.of-zone.result (option_copied c.args.before) (c.of-zone.ensures ∙ ap (λ (cuts : List ℕ). zone_in cuts c.args.first) c.zones-zones.ensures)

pub returns-then-zone-end : goal.returns-then-zone-end
returns-then-zone-end c =
    let before = option_copied c.args.before in
    let end : c.of-end.result ≡ zone_in c.args.rows.now.cuts c.args.last = c.of-end.ensures ∙ ap (λ (cuts : List ℕ). zone_in cuts c.args.last) c.zones-zones.ensures in
    let found : IsNewestRow c.args.rows.now.rows (is_in_group c.args.rows.now.cuts c.args.client.now (group_number c.args.state c.each.zone) c.args.first c.args.last before) (option_copied c.newest_from-found.result) =
    subst (λ (g : ℕ). IsNewestRow c.args.rows.now.rows (is_in_group c.args.rows.now.cuts c.args.client.now g c.args.first c.args.last before) (option_copied c.newest_from-found.result)) c.group.ensures (c.newest_from-found.ensures c.args.client.now c.group.result before c.start_of-from.ensures) in
    subst (IsNewestRow c.args.rows.now.rows (is_aged c.args.client.now c.args.state c.args.first c.args.last before)) (sym c.newer.ensures)
    (all_zones c.args.rows.now.rows c.args.rows.now.cuts c.args.client.now c.args.state c.args.first c.args.last c.each.zone before _ _ (omega (arith, c.each-test.true, c.of-end.type_inv)) c.each.invariant found
    (λ a row at is low. let r : zone_in c.args.rows.now.cuts row.address ≤ zone_in c.args.rows.now.cuts c.args.last = zones_rise c.args.rows.now.cuts row.address c.args.last low in omega (arith, end, c.if-zone-end.true)))

pub each-preserved : goal.each-preserved
each-preserved c =
    let before = option_copied c.args.before in
    let found : IsNewestRow c.args.rows.now.rows (is_in_group c.args.rows.now.cuts c.args.client.now (group_number c.args.state c.each.zone) c.args.first c.args.last before) (option_copied c.newest_from-found.result) =
    subst (λ (g : ℕ). IsNewestRow c.args.rows.now.rows (is_in_group c.args.rows.now.cuts c.args.client.now g c.args.first c.args.last before) (option_copied c.newest_from-found.result)) c.group.ensures (c.newest_from-found.ensures c.args.client.now c.group.result before c.start_of-from.ensures) in
    subst (IsNewestRow c.args.rows.now.rows (is_aged_below c.args.rows.now.cuts c.args.client.now c.args.state c.args.first c.args.last before c.in-Some.next)) (sym c.newer-best.ensures)
    (zone_more c.args.rows.now.rows c.args.rows.now.cuts c.args.client.now c.args.state c.args.first c.args.last c.each.zone c.in-Some.next before _ _ (omega (arith, c.each-test.true, c.of-end.type_inv)) c.each.invariant found c.in-Some.ensures)

pub returns-in-None : goal.returns-in-None
returns-in-None c =
    let before = option_copied c.args.before in
    let found : IsNewestRow c.args.rows.now.rows (is_in_group c.args.rows.now.cuts c.args.client.now (group_number c.args.state c.each.zone) c.args.first c.args.last before) (option_copied c.newest_from-found.result) =
    subst (λ (g : ℕ). IsNewestRow c.args.rows.now.rows (is_in_group c.args.rows.now.cuts c.args.client.now g c.args.first c.args.last before) (option_copied c.newest_from-found.result)) c.group.ensures (c.newest_from-found.ensures c.args.client.now c.group.result before c.start_of-from.ensures) in
    let none = c.in-None.ensures in
    subst (IsNewestRow c.args.rows.now.rows (is_aged c.args.client.now c.args.state c.args.first c.args.last before)) (sym c.newer-in-None.ensures)
    (all_zones c.args.rows.now.rows c.args.rows.now.cuts c.args.client.now c.args.state c.args.first c.args.last c.each.zone before _ _ (omega (arith, c.each-test.true, c.of-end.type_inv)) c.each.invariant found (λ a row at is low. none a row at is))

pub returns : goal.returns
returns c =
    let end : c.of-end.result ≡ zone_in c.args.rows.now.cuts c.args.last = c.of-end.ensures ∙ ap (λ (cuts : List ℕ). zone_in cuts c.args.last) c.zones-zones.ensures in
    let over : zone_in c.args.rows.now.cuts c.args.last < c.each.zone = omega (arith, end, c.each-test.false) in
    zones_passed c.args.rows.now.rows c.args.rows.now.cuts c.args.client.now c.args.state c.args.first c.args.last c.each.zone (option_copied c.args.before) _ over c.each.invariant
