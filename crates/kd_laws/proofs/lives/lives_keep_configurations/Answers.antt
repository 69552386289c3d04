use Rattle.kd_laws.proofs.Reported.{keep}
use Rattle.kd_laws.proofs.lives.lives_keep_configurations.Goals as goal

pub returns : goal.returns
returns c = λ config life es with_one are. keep config life es with_one are
