use Rattle.std.proofs.Common.{inr, refl}
use Rattle.kd_program.proofs.checking.try_config.Goals as goal

pub returns : goal.returns
returns g c = record {
  config = c.read_configuration-config.result;
  given = c.read_configuration-config.ensures;
  shown = inr (refl, c.refuse_memory.ensures.0, c.refuse_memory.ensures.1);
}
