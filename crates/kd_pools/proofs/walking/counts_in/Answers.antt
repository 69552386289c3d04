use Rattle.std.proofs.Common.{◌≡◌, ◌+◌, ◌-◌, arith, option_copied}
use Rattle.kd_pools.specs.Counts.{addresses_of_range, counts_of}
use Rattle.kd_pools.specs.Walking.{is_listed}
use Rattle.kd_pools.proofs.Counting.{few_counted, stepped}
use Rattle.kd_pools.proofs.walking.counts_in.Goals as goal

pub and-counts-requires-clause-left : goal.and-counts-requires-clause-left
and-counts-requires-clause-left c =
    few_counted (is_listed c.args.reserved.now) c.args.rows.now.rows c.args.now c.args.range.first (c.walk.address - c.args.range.first) _ c.walk.counts c.walk.invariant.counts (omega arith)

pub walk-preserved : goal.walk-preserved
walk-preserved c = record {
  from = omega arith;
  within = omega arith;
  below = record { in_range = c.place_from-place.ensures.in_range; below = λ i less. omega (arith, c.place_from-place.ensures.below i) };
  next = c.next_after-next.ensures;
  counts =
      stepped (is_listed c.args.reserved.now) c.args.rows.now.rows c.args.now c.args.range.first c.walk.address (c.walk.address + 1 - c.args.range.first)
      c.walk.counts c.of_one-one.result c.and-counts.result c.is_at.result (option_copied c.here.result) (omega arith) (omega arith) c.walk.invariant.counts
      c.is_at.ensures c.here.ensures c.of_one-one.ensures c.and-counts.ensures;
}

pub and-requires-clause-left : goal.and-requires-clause-left
and-requires-clause-left c =
    few_counted (is_listed c.args.reserved.now) c.args.rows.now.rows c.args.now c.args.range.first (c.walk.address - c.args.range.first) _ c.walk.counts c.walk.invariant.counts (omega arith)

pub returns-clause-counts : goal.returns-clause-counts
returns-clause-counts c =
    let end : c.walk.address ≡ c.args.range.last = omega arith in
    stepped (is_listed c.args.reserved.now) c.args.rows.now.rows c.args.now c.args.range.first c.walk.address (c.args.range.last - c.args.range.first + 1)
    c.walk.counts c.of_one-one-2.result c.and.result c.is_at-2.result (option_copied c.here-2.result) (omega arith) (omega arith) c.walk.invariant.counts
    c.is_at-2.ensures c.here-2.ensures c.of_one-one-2.ensures c.and.ensures

pub returns-clause-few : goal.returns-clause-few
returns-clause-few c =
    let end : c.walk.address ≡ c.args.range.last = omega arith in
    let counts : c.and.result ≡ counts_of (is_listed c.args.reserved.now) c.args.rows.now.rows c.args.now (addresses_of_range c.args.range) =
    stepped (is_listed c.args.reserved.now) c.args.rows.now.rows c.args.now c.args.range.first c.walk.address (c.args.range.last - c.args.range.first + 1)
    c.walk.counts c.of_one-one-2.result c.and.result c.is_at-2.result (option_copied c.here-2.result) (omega arith) (omega arith) c.walk.invariant.counts
    c.is_at-2.ensures c.here-2.ensures c.of_one-one-2.ensures c.and.ensures in
    few_counted (is_listed c.args.reserved.now) c.args.rows.now.rows c.args.now c.args.range.first (c.args.range.last - c.args.range.first + 1) _ c.and.result counts (omega arith)
