use Rattle.std.proofs.Common.{◌≡◌, ◌<◌, List, length, get_or, ap, arith, ◌∙◌}
use Rattle.kd_config.specs.declared.pool.Pool.{Pool}
use Rattle.kd_lease.specs.Rules.{asking}
use Rattle.kd_lease.proofs.Pools.{first_open, next_pool, no_open}
use Rattle.kd_lease.proofs.pool_search.pool_choice.Goals as goal

pub returns-in-Some : goal.returns-in-Some
returns-in-Some c =
    let pool = c.pool-item.result in
    let n = c.loop-pool.pool-index in
    let pools = c.args.choosing.now.subnet.now.pools in
    let less : n < length pools = omega (arith, c.loop-pool-test.true, ap length c.as_slice-pool-items.ensures) in
    let is : pool ≡ get_or pools n pool = c.pool-item.is ∙ ap (λ (xs : List Pool). get_or xs n pool) c.as_slice-pool-items.ensures in
    first_open (asking c.args.choosing.now.question.now) c.args.choosing.now.subnet.now c.args.new n pool c.in-Some.address less is c.loop-pool.invariant c.in-Some.ensures

pub loop-pool-preserved : goal.loop-pool-preserved
loop-pool-preserved c =
    let pool = c.pool-item.result in
    let n = c.loop-pool.pool-index in
    let pools = c.args.choosing.now.subnet.now.pools in
    let less : n < length pools = omega (arith, c.loop-pool-test.true, ap length c.as_slice-pool-items.ensures) in
    let is : pool ≡ get_or pools n pool = c.pool-item.is ∙ ap (λ (xs : List Pool). get_or xs n pool) c.as_slice-pool-items.ensures in
    next_pool (asking c.args.choosing.now.question.now) c.args.choosing.now.subnet.now c.args.new n pool less is c.loop-pool.invariant c.in-None.ensures

pub returns : goal.returns
returns c = no_open (asking c.args.choosing.now.question.now) c.args.choosing.now.subnet.now c.args.new c.loop-pool.pool-index (omega (arith, c.loop-pool-test.false, ap length c.as_slice-pool-items.ensures)) c.loop-pool.invariant
