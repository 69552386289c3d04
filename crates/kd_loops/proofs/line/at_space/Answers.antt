use Rattle.kd_text.proofs.Plain.{plain_all}
use Rattle.kd_loops.proofs.Spelling.{split_at_first}
use Rattle.kd_loops.proofs.line.at_space.Goals as goal

pub returns-in-Some : goal.returns-in-Some
returns-in-Some c = split_at_first c.args.line.now c.in-Some.at c.in-Some.ensures

pub returns-in-None : goal.returns-in-None
returns-in-None c = plain_all 32 c.args.line.now c.in-None.ensures
