use Rattle.std.proofs.Common.{◌++◌, refl}
use Rattle.std.specs.Prelude.{codes}
use Rattle.kd_explain.proofs.Listing.{two_put}
use Rattle.kd_explain.proofs.check_lines.put_room.Goals as goal

pub returns : goal.returns
returns c =
    let rule = c.in_ok-put_client.ensures in
    (rule.0 ++ codes "check room: too small for the options that the reply must have\n", (rule.0, rule.1, refl), two_put _ rule.0 _ _ _ rule.2 c.in_ok-push_str.ensures.bytes)
