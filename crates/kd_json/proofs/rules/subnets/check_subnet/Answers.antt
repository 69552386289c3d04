use Rattle.std.proofs.lemmas.Result.{err_from_is_err_and}
use Rattle.indexmap.specs.IndexSet.{keys}
use Rattle.kd_json.proofs.FirstSubnets.{by_pools, by_reservations}
use Rattle.kd_fields.specs.Place.{path_at}
use Rattle.kd_json.proofs.rules.subnets.check_subnet.Goals as goal

pub returns-in_err-check_pools-clause-first : goal.returns-in_err-check_pools-clause-first
returns-in_err-check_pools-clause-first c =
    let p = err_from_is_err_and c.from_residual.result c.from_residual.ensures.1 in
    rw (p.1, p.2)
    (λ other. by_pools c.args.apart (path_at c.args.at.now) (keys c.args.earlier.now) c.args.subnet.now
    c.as_slice-pools.result.now _ c.as_slice-pools.ensures (c.in_err-check_pools.ensures.first other))

pub returns-in_err-check_reservations-clause-first : goal.returns-in_err-check_reservations-clause-first
returns-in_err-check_reservations-clause-first c =
    let at = c.from_residual-in_err-check_reservations in
    let p = err_from_is_err_and at.result at.ensures.1 in
    rw (p.1, p.2)
    (λ other. by_reservations c.args.apart (path_at c.args.at.now) (keys c.args.earlier.now) c.args.subnet.now
    c.as_slice-pools.result.now c.as_slice-list.result.now _ c.as_slice-pools.ensures
    c.as_slice-list.ensures c.in_ok-check_pools.ensures.checked
    (c.in_err-check_reservations.ensures.first other))
