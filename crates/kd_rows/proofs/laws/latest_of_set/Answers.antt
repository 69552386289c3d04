use Rattle.kd_rows.proofs.Sets.{latest_of-with_row}
use Rattle.kd_rows.proofs.laws.latest_of_set.Goals as goal

pub returns : goal.returns
returns c = latest_of-with_row
