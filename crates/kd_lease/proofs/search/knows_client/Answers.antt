use Rattle.std.proofs.lemmas.Bool.{eq-eqb}
use Rattle.kd_lease.specs.Rules.{asking}
use Rattle.kd_lease.proofs.Records.{is_other, known_alone, known_within}
use Rattle.kd_lease.proofs.search.knows_client.Goals as goal

pub returns-then-subnet-eq0 : goal.returns-then-subnet-eq0
returns-then-subnet-eq0 c =
    known_alone (asking c.args.question.now) c.args.subnet.now c.is_found_in.result
    (eq-eqb c.args.subnet.now.network 0 c.if-subnet-eq0.true)
    c.is_found_in.ensures

pub returns-else-subnet-eq0 : goal.returns-else-subnet-eq0
returns-else-subnet-eq0 c =
    known_within (asking c.args.question.now) c.args.subnet.now c.is_found_within.result
    (is_other c.args.subnet.now.network 0 c.if-subnet-eq0.false) c.is_found_within.ensures
