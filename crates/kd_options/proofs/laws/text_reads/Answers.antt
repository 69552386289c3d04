use Rattle.kd_options.proofs.TextReads.{text_reads}
use Rattle.kd_options.proofs.laws.text_reads.Goals as goal

pub returns : goal.returns
returns c = text_reads
