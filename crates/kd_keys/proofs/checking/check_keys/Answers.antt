use Rattle.kd_keys.proofs.Rows.{accepted, refused}
use Rattle.kd_keys.specs.Tables.{key_table}
use Rattle.kd_keys.proofs.checking.check_keys.Goals as goal

pub returns-in-Some-refused_key : goal.returns-in-Some-refused_key
returns-in-Some-refused_key c =
    λ _. refused (key_table c.args.kind) _ c.in-Some.members.now.entries c.in-Some-refused_key.key.now c.in-Some.ensures c.in-Some-refused_key.ensures

pub returns-in-None : goal.returns-in-None
returns-in-None c =
    accepted (key_table c.args.kind) _ c.in-Some.members.now.entries c.in-Some.ensures c.in-None.ensures
