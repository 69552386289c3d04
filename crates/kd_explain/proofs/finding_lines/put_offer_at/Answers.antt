use Rattle.kd_explain.proofs.Listing.{three_put}
use Rattle.kd_explain.proofs.finding_lines.put_offer_at.Goals as goal

pub returns : goal.returns
returns c = three_put _ _ _ _ _ _ _ c.in_ok-push_str.ensures.bytes c.in_ok-put_address.ensures c.in_ok-push_str-2.ensures.bytes
