use Rattle.std.proofs.Common.{ℕ, List, arith, ltb, rules}
use Rattle.std.proofs.lemmas.Bool.{ltb-false, ltb-true}
use Rattle.std.proofs.lemmas.List.{length-map}
use Rattle.std.proofs.lemmas.List.Sorted.{IsPartitionPoint-from_clause, IsPartitionedBy-ltb}
use Rattle.kd_rows.specs.Open.{address_row}
use Rattle.kd_rows.proofs.Listed.{address_at, non_decreasing_rise}
use Rattle.kd_rows.proofs.addresses.place_in.Goals as goal

pub returns : goal.returns
returns c =
    let xs : List ℕ = c.args.addresses.now in
    let a : ℕ = c.args.address in
    let long = length-map xs address_row in
    let parted = IsPartitionedBy-ltb (λ x. x) xs a (non_decreasing_rise xs c.requires) in
    let point = IsPartitionPoint-from_clause (λ x. ltb x a) xs _ c.partition_point.ensures.partitioned parted (λ a r q k. search rules) in
    record {
      in_range = omega (arith, c.partition_point.ensures.bound, long);
      below = λ i d before. omega (arith, address_at xs i d (omega (arith, c.partition_point.ensures.bound)), ltb-true _ _ (point.0 i 0 (omega arith) before));
      above = λ i d after inside. omega (arith, address_at xs i d (omega (arith, long)), ltb-false _ _ (point.1 i 0 after (omega (arith, long))));
    }
