use Rattle.kd_rows.proofs.Maps.{get-map_of, map_of-with_row}
use Rattle.kd_rows.proofs.laws.rows_are_a_map.Goals as goal

pub returns : goal.returns
returns c = (get-map_of, map_of-with_row)
