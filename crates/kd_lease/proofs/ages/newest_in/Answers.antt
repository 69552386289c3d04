use Rattle.std.proofs.Common.{◌≡◌, ◌<◌, List, length, get_or, ap, arith, ◌∙◌}
use Rattle.kd_config.specs.declared.pool.Pool.{Pool}
use Rattle.kd_lease.specs.Rules.{asking}
use Rattle.kd_lease.proofs.Aged.{all_pools, no_pool_yet, pool_more}
use Rattle.kd_lease.proofs.ages.newest_in.Goals as goal

pub loop-pool-init : goal.loop-pool-init
loop-pool-init c = no_pool_yet (asking c.args.question.now) c.args.sought.now c.args.choosing.now c.newest_reserved-best.result c.newest_reserved-best.ensures

pub loop-pool-preserved : goal.loop-pool-preserved
loop-pool-preserved c =
    let q = asking c.args.question.now in
    let pool = c.pool-item.result in
    let n = c.loop-pool.pool-index in
    let pools = c.args.choosing.now.subnet.now.pools in
    let less : n < length pools = omega (arith, c.loop-pool-test.true, ap length c.as_slice-pool-items.ensures) in
    let is : pool ≡ get_or pools n pool = c.pool-item.is ∙ ap (λ (xs : List Pool). get_or xs n pool) c.as_slice-pool-items.ensures in
    rw c.newer-best.ensures (pool_more q c.args.sought.now c.args.choosing.now n pool c.loop-pool.best c.newest_given-found.result less is c.loop-pool.invariant c.newest_given-found.ensures)

pub returns : goal.returns
returns c = all_pools (asking c.args.question.now) c.args.sought.now c.args.choosing.now c.loop-pool.pool-index c.loop-pool.best (omega (arith, c.loop-pool-test.false, ap length c.as_slice-pool-items.ensures)) c.loop-pool.invariant
