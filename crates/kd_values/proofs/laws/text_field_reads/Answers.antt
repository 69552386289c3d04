use Rattle.kd_values.proofs.Whole as readings
use Rattle.kd_values.proofs.laws.text_field_reads.Goals as goal

pub returns : goal.returns
returns c = readings.text_field_reads
