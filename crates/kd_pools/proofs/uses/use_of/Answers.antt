use Rattle.std.proofs.Common.{◌≡◌, ◌<◌, ◌≤◌, ◌*◌, List, length, get_or, refl, ap, ◌∙◌, arith}
use Rattle.kd_config.specs.declared.pool.Pool.{Pool}
use Rattle.kd_pools.specs.Uses.{pool_use}
use Rattle.kd_pools.specs.Walking.{is_listed}
use Rattle.kd_pools.specs.declared.uses.PoolUse.{PoolUse}
use Rattle.kd_pools.proofs.Counting.{at_most}
use Rattle.kd_pools.proofs.Together.{next_made, next_most, next_sums, whole_subnet}
use Rattle.kd_pools.proofs.uses.use_of.Goals as goal

pub loop-pool-preserved : goal.loop-pool-preserved
loop-pool-preserved c =
    let pool = c.pool-item.result in
    let n = c.loop-pool.pool-index in
    let pools = c.args.subnet.now.pools in
    let used : PoolUse = record { range = pool.range; counts = c.counts_in-here.result } in
    let less : n < length pools = omega (arith, c.loop-pool-test.true, ap (length {A = Pool}) c.as_slice-pool-items.ensures) in
    let at : pool ≡ get_or pools n pool = c.pool-item.is ∙ ap (λ (xs : List Pool). get_or xs n pool) c.as_slice-pool-items.ensures in
    let is : used ≡ pool_use (is_listed c.args.reserved.now) c.args.rows.now.rows c.args.now pool =
    λ i. record { range = pool.range; counts = c.counts_in-here.ensures.counts i } in
    record {
      pools = next_made (pool_use (is_listed c.args.reserved.now) c.args.rows.now.rows c.args.now) pools n pool c.loop-pool.pools.items c.push.new.self.items used less at c.loop-pool.invariant.pools is c.in_ok-push.ensures.items;
      counts = next_sums c.loop-pool.pools.items c.push.new.self.items used c.loop-pool.counts c.and-counts.result c.loop-pool.invariant.counts c.in_ok-push.ensures.items c.and-counts.ensures;
      few = next_most n c.loop-pool.counts c.counts_in-here.result c.and-counts.result c.loop-pool.invariant.few c.counts_in-here.ensures.few c.and-counts.ensures;
      within = omega (arith, less);
    }

pub returns : goal.returns
returns c =
    let pools : length c.args.subnet.now.pools ≤ 64 = c.requires.subnet.few_pools in
    let within = c.loop-pool.invariant.within in
    record {
      same =
          whole_subnet (is_listed c.args.reserved.now) c.args.rows.now.rows c.args.now c.args.subnet.now c.loop-pool.pools.items c.loop-pool.counts _ c.loop-pool.pool-index refl
          c.loop-pool.invariant.pools c.loop-pool.invariant.counts (omega (arith, c.loop-pool-test.false, ap (length {A = Pool}) c.as_slice-pool-items.ensures));
      few = at_most (65536 * c.loop-pool.pool-index) 4194304 c.loop-pool.counts (omega (arith, pools, within)) c.loop-pool.invariant.few;
    }
