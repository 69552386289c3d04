use Rattle.kd_options.proofs.Relays.{one_relay_list}
use Rattle.kd_options.proofs.laws.one_relay_list.Goals as goal

pub returns : goal.returns
returns c = one_relay_list
