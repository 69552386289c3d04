use Rattle.std.proofs.Common.{◌++◌, ◌∷◌, [], ap, map, sym, take, ◌∙◌}
use Rattle.kd_listing.specs.Leases.{lease_of_row}
use Rattle.kd_listing.specs.declared.leases.Lease.{Lease}
use Rattle.kd_listing.proofs.Taken.{all_taken, map_taken}
use Rattle.kd_listing.proofs.leases.leases_in.Goals as goal

pub loop-row-preserved : goal.loop-row-preserved
loop-row-preserved c =
    let rows = c.args.rows.now.rows in
    c.in_ok-push.ensures.items ∙ ap (λ x. x ++ c.in_ok-lease_at.field-0 ∷ []) c.loop-row.invariant
    ∙ ap (λ (l : Lease). map (lease_of_row c.args.now) (take c.loop-row.index rows) ++ l ∷ []) c.in_ok-lease_at.ensures
    ∙ sym (map_taken (lease_of_row c.args.now) rows c.loop-row.index c.in-Some.row.now c.in-Some.ensures)

pub returns : goal.returns
returns c = c.loop-row.invariant ∙ ap (map (lease_of_row c.args.now)) (all_taken c.args.rows.now.rows c.loop-row.index c.in_default.ensures)
