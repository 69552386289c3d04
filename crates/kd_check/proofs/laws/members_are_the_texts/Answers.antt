use Rattle.kd_check.proofs.Paired.{members_are}
use Rattle.kd_check.proofs.laws.members_are_the_texts.Goals as goal

pub returns : goal.returns
returns c = members_are
