use Rattle.std.proofs.Common.{rules, append_assoc}
use Rattle.kd_answers.proofs.run.run_text.Goals as goal

pub returns : goal.returns
returns c = let e = c.format.ensures.ok in simp append_assoc (search rules)
