use Rattle.kd_rows.proofs.Sets.{row_at-with_row}
use Rattle.kd_rows.proofs.laws.get_of_set.Goals as goal

pub returns : goal.returns
returns c = row_at-with_row
