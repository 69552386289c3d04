use Rattle.kd_values.proofs.Cuts.{cut_nowhere, cut_there}
use Rattle.kd_values.proofs.parts.first_part.Goals as goal

pub returns-in-Some-clause-parts : goal.returns-in-Some-clause-parts
returns-in-Some-clause-parts c = cut_there c.args.byte c.args.text.now c.in-Some.at c.in-Some.ensures

pub returns-in-None-clause-parts : goal.returns-in-None-clause-parts
returns-in-None-clause-parts c = cut_nowhere c.args.byte c.args.text.now c.in-None.ensures
