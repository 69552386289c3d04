use Rattle.kd_check.proofs.Keys.{key_only, key_own, value_follows}
use Rattle.kd_check.proofs.laws.members_have_their_keys.Goals as goal

pub returns : goal.returns
returns c = record { own = key_own; only = key_only; value = value_follows }
