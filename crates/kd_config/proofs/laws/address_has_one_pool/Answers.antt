use Rattle.kd_config.proofs.PoolPlaces.{one_pool}
use Rattle.kd_config.proofs.laws.address_has_one_pool.Goals as goal

pub returns : goal.returns
returns c = one_pool
