use Rattle.kd_rows.proofs.Sets.{rise_from-with_row}
use Rattle.kd_rows.proofs.laws.rise_of_set.Goals as goal

pub returns : goal.returns
returns c = rise_from-with_row
