use Rattle.std.proofs.Common.{ap, sym, ◌∙◌, ◌==◌, ℕ, List}
use Rattle.std.proofs.lemmas.List.Sorted.{IsNonDecreasingBy-from_sort, list_any-IsPermutation}
use Rattle.kd_config.specs.declared.subnet.Subnet.{Subnet}
use Rattle.kd_pools.specs.Walking.{subnets_reserved, is_listed}
use Rattle.kd_pools.proofs.Listed.{all_listed}
use Rattle.kd_pools.proofs.reserved.reserved_addresses.Goals as goal

pub returns-clause-rising : goal.returns-clause-rising
returns-clause-rising c = IsNonDecreasingBy-from_sort (λ x. x) c.sort.new.self.items c.in_ok-sort.ensures.sorted

pub returns-clause-same : goal.returns-clause-same
returns-clause-same c = λ a. sym (list_any-IsPermutation (λ b. b == a) c.in_ok-list.list.items c.sort.new.self.items c.in_ok-sort.ensures.permutation)
    ∙ ap (λ (list : List ℕ). is_listed list a) c.in_ok-list.ensures ∙ ap (λ (subnets : List Subnet). is_listed (subnets_reserved subnets) a) c.subnets.ensures.same
    ∙ all_listed c.args.config.now a
