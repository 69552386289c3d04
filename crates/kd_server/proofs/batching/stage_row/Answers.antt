use Rattle.std.proofs.Common.{◌≡◌, List, ap, refl, subst, sym, true≢false, ◌∙◌}
use Rattle.kd_rows.specs.Table.{with_row}
use Rattle.kd_rows.specs.declared.row.Row.{Row}
use Rattle.kd_server.proofs.Staged.{staged}
use Rattle.kd_server.proofs.batching.stage_row.Goals as goal

pub returns-in_ok-list_row-clause-set : goal.returns-in_ok-list_row-clause-set
returns-in_ok-list_row-clause-set c =
    staged c.args.leases.now.table.rows c.args.set.now.items c.set.new.self.table.rows c.list_row.new.set.items c.args.row c.args.row
    refl (c.set.ensures.rows ∙ ap (with_row c.args.row) c.prepare.ensures.rows) c.in_ok-list_row.ensures.listed c.requires.in_range
    (λ same. true≢false (sym c.if-branch.true ∙ c.in_ok-prepare.ensures.same.1 same))
