use Rattle.kd_values.proofs.Readings as readings
use Rattle.kd_values.proofs.laws.printed_reads.Goals as goal

pub returns : goal.returns
returns c = readings.printed_reads
