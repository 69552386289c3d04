use Rattle.std.proofs.Common.{None, subst}
use Rattle.kd_rows.specs.Table.{IsNextEnded, Table}
use Rattle.kd_rows.proofs.Walks.{none_early}
use Rattle.kd_rows.proofs.rows.Rows.next_ended.Goals as goal

pub returns-then-moment-self : goal.returns-then-moment-self
returns-then-moment-self c =
    subst (λ (t : Table). IsNextEnded t.rows c.args.first c.args.last c.args.moment None) c.self.view_is
    (none_early c.self.inside.rows.rows c.args.first c.args.last c.args.moment c.self.inside.least c.self.invariant.ends c.if-moment-self.true)
