use Rattle.kd_laws.proofs.Booted.{fields_zero}
use Rattle.kd_laws.proofs.unbooted.boot_fields_are_zero.Goals as goal

pub returns : goal.returns
returns c = fields_zero
