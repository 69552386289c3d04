use Rattle.kd_text.proofs.Cuts.{cut_at, cut_none}
use Rattle.kd_text.proofs.parts.cut.Goals as goal

pub returns-in-Some : goal.returns-in-Some
returns-in-Some c = cut_at c.args.byte c.args.text.now c.in-Some.at c.in-Some.ensures

pub returns-in-None : goal.returns-in-None
returns-in-None c = cut_none c.args.byte c.args.text.now _ _ c.in-None.ensures c.split_at.ensures.front c.split_at.ensures.back
