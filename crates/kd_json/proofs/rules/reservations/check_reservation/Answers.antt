use Rattle.std.proofs.Common.{ap, ◌∙◌}
use Rattle.std.proofs.lemmas.Result.{IfErr-weaker, err_from_is_err_and}
use Rattle.indexmap.specs.IndexSet.{keys}
use Rattle.kd_json.proofs.FirstFaults.{wrong_address, wrong_client}
use Rattle.kd_fields.specs.Place.{path_below}
use Rattle.kd_fields.specs.Place.{path_at}
use Rattle.kd_json.proofs.rules.reservations.check_reservation.Goals as goal

pub returns-in_err-check_address-clause-path : goal.returns-in_err-check_address-clause-path
returns-in_err-check_address-clause-path c =
    let p = err_from_is_err_and c.from_residual.result c.from_residual.ensures.1 in
    let failed = c.in_err-check_address.ensures in
    rw (p.1, p.2)
    (λ other. failed.path other ∙ ap (path_below (path_at c.args.at.now))
    (wrong_address c.args.prefix (keys c.args.earlier.now) c.args.reservation.now
    (failed.checked other)))

pub returns-clause-path : goal.returns-clause-path
returns-clause-path c =
    IfErr-weaker c.check_client.result _ _
    (λ fault h other. h other ∙ ap (path_below (path_at c.args.at.now))
    (wrong_client c.args.prefix (keys c.args.earlier.now) c.args.reservation.now
    c.in_ok-check_address.ensures.checked)) c.check_client.ensures.path
