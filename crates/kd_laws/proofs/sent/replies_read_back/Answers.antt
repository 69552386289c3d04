use Rattle.kd_laws.proofs.Replied.{replies_read}
use Rattle.kd_laws.proofs.sent.replies_read_back.Goals as goal

pub returns : goal.returns
returns c = replies_read c.ends_are_founded.ensures c.messages_have_sizes.ensures
