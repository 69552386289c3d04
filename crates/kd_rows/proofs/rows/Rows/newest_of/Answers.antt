use Rattle.std.proofs.Common.{subst}
use Rattle.std.specs.Option.{option_copied}
use Rattle.kd_rows.specs.Table.{IsNewestRow, Table, is_aged}
use Rattle.kd_rows.proofs.rows.Rows.newest_of.Goals as goal

pub returns : goal.returns
returns c =
    subst (λ (t : Table). IsNewestRow t.rows (is_aged c.args.client.now c.args.state c.args.first c.args.last (option_copied c.args.before)) (option_copied c.newest_in.result)) c.self.view_is c.newest_in.ensures
