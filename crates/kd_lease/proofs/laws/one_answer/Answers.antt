use Rattle.kd_lease.proofs.Single.{one_answer}
use Rattle.kd_lease.proofs.laws.one_answer.Goals as goal

pub returns : goal.returns
returns c = λ config rows names m now set other got its h k. one_answer config rows names m now set other got its h k
