use Rattle.std.proofs.Common.{ℕ, List, arith, ltb, rules}
use Rattle.std.proofs.lemmas.Bool.{ltb-false, ltb-true}
use Rattle.std.proofs.lemmas.List.Sorted.{IsPartitionPoint-from_clause, IsPartitionedBy-ltb}
use Rattle.kd_pools.proofs.reserved.place_of.Goals as goal

pub returns : goal.returns
returns c =
    let list : List ℕ = c.args.list.now in
    let point = IsPartitionPoint-from_clause (λ x. ltb x c.args.address) list _ c.partition_point.ensures.partitioned (IsPartitionedBy-ltb (λ x. x) list c.args.address c.requires) (λ a r q k. search rules) in
    record {
      in_range = c.partition_point.ensures.bound;
      below = λ i before. ltb-true _ _ (point.0 i 0 (omega arith) before);
      above = λ i after inside. ltb-false _ _ (point.1 i 0 after inside);
    }
