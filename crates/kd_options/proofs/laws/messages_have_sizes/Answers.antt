use Rattle.kd_options.proofs.Sizes.{has_sizes}
use Rattle.kd_options.proofs.laws.messages_have_sizes.Goals as goal

pub returns : goal.returns
returns c = has_sizes
