use Rattle.kd_laws.proofs.ReplySteps.{sent}
use Rattle.kd_laws.proofs.sent.no_reply_overlaps.Goals as goal

pub returns : goal.returns
returns c = λ life is. sent c.ends_are_founded.ensures c.replies_read_back.ensures c.lives_are_histories.ensures c.no_overlap_across.ensures life is
