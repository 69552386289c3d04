use Rattle.kd_notes.proofs.NoneWrong.{own_refused}
use Rattle.kd_keys.specs.Tables.{key_table}
use Rattle.kd_notes.proofs.laws.what_is_refused_is_noted.Goals as goal

pub returns : goal.returns
returns c = λ kind. own_refused (key_table kind)
