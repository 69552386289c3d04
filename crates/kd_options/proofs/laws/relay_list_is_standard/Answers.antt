use Rattle.kd_options.specs.Joined.{value_of}
use Rattle.kd_options.proofs.Relays.{is_relay_list}
use Rattle.kd_options.proofs.laws.relay_list_is_standard.Goals as goal

pub returns : goal.returns
returns c options = is_relay_list (value_of 82 options)
