use Rattle.std.proofs.Common.{ℕ, ◌+◌, ◌++◌, List, [], ◌∷◌, ap, sym, ◌∙◌, arith}
use Rattle.std.proofs.lemmas.List.FromFn.{map-range_with_len_more}
use Rattle.kd_pools.specs.Uses.{network_use}
use Rattle.kd_pools.specs.declared.uses.NetworkUse.{NetworkUse}
use Rattle.kd_pools.proofs.uses.networks_used.Goals as goal

pub loop-i-preserved : goal.loop-i-preserved
loop-i-preserved c =
    let i = c.loop-i.i in
    let f : ℕ → NetworkUse = λ n. network_use c.args.uses.now (n + 1) in
    c.in_ok-push.ensures.items
    ∙ (λ j. c.loop-i.networks.items ++ record { prefix = c.prefix_within.ensures j; counts = c.counts_within.ensures j } ∷ [])
    ∙ ap (λ (xs : List NetworkUse). xs ++ f i ∷ []) c.loop-i.invariant
    ∙ sym (map-range_with_len_more f 0 i i (omega arith))
