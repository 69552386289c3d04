use Rattle.std.proofs.Common.{true, false}
use Rattle.indexmap.specs.IndexSet.{keys}
use Rattle.kd_json.proofs.Clients.{new_client}
use Rattle.kd_json.proofs.rules.reservations.check_client.Goals as goal

pub returns-then-branch-clause-checked : goal.returns-then-branch-clause-checked
returns-then-branch-clause-checked c =
    new_client c.key_of.result c.args.identity.now (keys c.args.earlier.now) c.in_ok-insert.field-0 true
    c.key_of.ensures c.in_ok-insert.ensures.added c.if-branch.true

pub returns-in-Hardware-clause-checked : goal.returns-in-Hardware-clause-checked
returns-in-Hardware-clause-checked c =
    λ _. new_client c.key_of.result c.args.identity.now (keys c.args.earlier.now) c.in_ok-insert.field-0 false
    c.key_of.ensures c.in_ok-insert.ensures.added c.if-branch.false

pub returns-in-Duid-clause-checked : goal.returns-in-Duid-clause-checked
returns-in-Duid-clause-checked c =
    λ _. new_client c.key_of.result c.args.identity.now (keys c.args.earlier.now) c.in_ok-insert.field-0 false
    c.key_of.ensures c.in_ok-insert.ensures.added c.if-branch.false

pub returns-in-Circuit-clause-checked : goal.returns-in-Circuit-clause-checked
returns-in-Circuit-clause-checked c =
    λ _. new_client c.key_of.result c.args.identity.now (keys c.args.earlier.now) c.in_ok-insert.field-0 false
    c.key_of.ensures c.in_ok-insert.ensures.added c.if-branch.false

pub returns-in-ClientId-clause-checked : goal.returns-in-ClientId-clause-checked
returns-in-ClientId-clause-checked c =
    λ _. new_client c.key_of.result c.args.identity.now (keys c.args.earlier.now) c.in_ok-insert.field-0 false
    c.key_of.ensures c.in_ok-insert.ensures.added c.if-branch.false
