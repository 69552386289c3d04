use Rattle.kd_notes.proofs.NoUnknown.{class_noted, definition_noted, entry_noted, host_noted, none_is_noted, pool_noted}
use Rattle.kd_notes.proofs.laws.what_is_not_served_is_refused.Goals as goal

pub returns-clause-text : goal.returns-clause-text
returns-clause-text c = none_is_noted

pub returns-clause-option : goal.returns-clause-option
returns-clause-option c = entry_noted

pub returns-clause-definition : goal.returns-clause-definition
returns-clause-definition c = definition_noted

pub returns-clause-class : goal.returns-clause-class
returns-clause-class c = class_noted

pub returns-clause-pool : goal.returns-clause-pool
returns-clause-pool c = pool_noted

pub returns-clause-reservation : goal.returns-clause-reservation
returns-clause-reservation c = host_noted
