use Rattle.kd_options.proofs.Relays.{is_relay_list}
use Rattle.kd_options.proofs.message.Message.relay.Goals as goal

pub returns-in-Some-clause-list : goal.returns-in-Some-clause-list
returns-in-Some-clause-list c = is_relay_list _
