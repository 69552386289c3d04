use Rattle.kd_notes.proofs.NoUnknown.{none_refused, refused_is_none}
use Rattle.kd_notes.proofs.laws.what_is_served_is_not_refused.Goals as goal

pub returns-clause-none : goal.returns-clause-none
returns-clause-none c = none_refused

pub returns-clause-refused : goal.returns-clause-refused
returns-clause-refused c = refused_is_none
