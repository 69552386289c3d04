use Rattle.kd_rows.proofs.Opens.{all_open}
use Rattle.kd_rows.proofs.open_rows.OpenRows.all.Goals as goal

pub returns : goal.returns
returns c = all_open c.args.rows.now.rows
