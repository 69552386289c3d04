use Rattle.std.proofs.Common.{slice_get, subst, sym}
use Rattle.kd_rows.specs.Table.{IsNext, Table}
use Rattle.kd_rows.proofs.Places.{next_at}
use Rattle.kd_rows.proofs.rows.Rows.next_from.Goals as goal

pub returns : goal.returns
returns c =
    let next = next_at c.self.inside.rows.rows c.args.address c.place_of.result c.self.invariant.rise c.place_of.ensures in
    subst (IsNext c.args.self.now.rows c.args.address) (sym c.at.ensures)
    (subst (λ (t : Table). IsNext t.rows c.args.address (slice_get t.rows c.place_of.result)) c.self.view_is next)
