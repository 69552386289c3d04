use Rattle.kd_fields.proofs.Keys.{accepted, refused_missing, refused_unknown}
use Rattle.kd_fields.proofs.values.check_keys.Goals as goal

pub returns-in-Some-unknown_key : goal.returns-in-Some-unknown_key
returns-in-Some-unknown_key c = λ _. refused_unknown c.args.known.now c.args.required.now _ c.in-Some.members.now.entries c.in-Some-unknown_key.key.now c.in-Some.ensures c.in-Some-unknown_key.ensures

pub returns-in-Some-missing_key : goal.returns-in-Some-missing_key
returns-in-Some-missing_key c =
    λ _. refused_missing c.args.known.now c.args.required.now _ c.in-Some.members.now.entries c.in-Some-missing_key.key c.in-Some.ensures c.in_default-unknown_key.ensures c.in-Some-missing_key.ensures

pub returns-in-None : goal.returns-in-None
returns-in-None c = accepted c.args.known.now c.args.required.now _ c.in-Some.members.now.entries c.in-Some.ensures c.in_default-unknown_key.ensures c.in-None.ensures
