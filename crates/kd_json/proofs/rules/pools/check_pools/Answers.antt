use Rattle.std.proofs.Common.{arith}
use Rattle.std.proofs.lemmas.Result.{err_from_is_err_and}
use Rattle.kd_json.proofs.FirstFaults.{all_within, not_all_within, within_failed, within_passed}
use Rattle.kd_fields.specs.Place.{path_at}
use Rattle.kd_json.proofs.rules.pools.check_pools.Goals as goal

pub loop-i-preserved : goal.loop-i-preserved
loop-i-preserved c =
    let at = c.loop-i in
    let this = c.index-pools-i in
    let more = within_passed c.args.prefix c.args.pools.now c.args.apart at.i this.result
    (omega arith) this.is c.in_ok-check_pool.ensures.checked at.invariant.within in
    record { below = more.0; within = more.1 }

pub returns-in_err-check_pool-clause-checked : goal.returns-in_err-check_pool-clause-checked
returns-in_err-check_pool-clause-checked c =
    let at = c.loop-i in
    let this = c.index-pools-i in
    let failed = c.in_err-check_pool.ensures in
    let p = err_from_is_err_and c.from_residual.result c.from_residual.ensures.1 in
    rw (p.1, p.2)
    (λ other. not_all_within c.args.prefix c.args.pools.now c.args.apart at.i this.result
    (omega arith) this.is (failed.checked other))

pub returns-in_err-check_pool-clause-first : goal.returns-in_err-check_pool-clause-first
returns-in_err-check_pool-clause-first c =
    let at = c.loop-i in
    let this = c.index-pools-i in
    let failed = c.in_err-check_pool.ensures in
    let p = err_from_is_err_and c.from_residual.result c.from_residual.ensures.1 in
    rw (p.1, p.2)
    (λ other. within_failed c.args.prefix (path_at c.args.at.now) c.args.pools.now c.args.apart at.i
    this.result _ (omega arith) at.invariant.below this.is (failed.checked other)
    at.invariant.within (failed.kind other) (failed.path other))

pub returns-clause-checked : goal.returns-clause-checked
returns-clause-checked c =
    all_within c.args.prefix c.args.pools.now c.args.apart c.loop-i.i (omega arith)
    c.loop-i.invariant.below c.loop-i.invariant.within
