use Rattle.sqlite.specs.Files.{file_state}
use Rattle.kd_store.proofs.Reopening.{stands_once}
use Rattle.kd_store.proofs.laws.stands_once.Goals as goal

pub returns : goal.returns
returns g c = λ conn table other a b. stands_once (file_state conn) table other a b
