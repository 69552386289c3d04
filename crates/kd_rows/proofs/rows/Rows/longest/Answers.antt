use Rattle.std.proofs.Common.{◌≡◌, ◌+◌, ◌≤◌, subst}
use Rattle.std.specs.List.{All}
use Rattle.kd_rows.specs.declared.row.Row.{Row}
use Rattle.kd_rows.specs.Table.{Table}
use Rattle.kd_rows.proofs.Held.{held_of}
use Rattle.kd_rows.proofs.rows.Rows.longest.Goals as goal

pub returns : goal.returns
returns c =
    subst (λ (t : Table). All (λ (row : Row). row.state ≡ c.args.state → row.ends ≤ row.changed + c.of.result) t.rows) c.self.view_is
    (held_of c.self.inside.rows.rows c.self.inside.holds c.args.state c.of.result c.self.invariant.held c.of.ensures)
