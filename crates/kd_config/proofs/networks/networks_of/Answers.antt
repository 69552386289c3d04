use Rattle.std.proofs.Common.{ℕ, ◌+◌, ◌++◌, List, [], ◌∷◌, ap, sym, ◌∙◌, arith}
use Rattle.std.proofs.lemmas.List.FromFn.{map-range_with_len_more}
use Rattle.kd_config.specs.Networks.{network_of}
use Rattle.kd_config.specs.declared.subnet.Subnet.{Subnet}
use Rattle.kd_config.proofs.networks.networks_of.Goals as goal

pub loop-i-preserved : goal.loop-i-preserved
loop-i-preserved c =
    let i = c.loop-i.i in
    let f : ℕ → Subnet = λ n. network_of c.args.subnets.now (n + 1) in
    c.in_ok-push.ensures.items
    ∙ ap (λ (s : Subnet). c.loop-i.networks.items ++ s ∷ []) c.in_ok-joined.ensures
    ∙ ap (λ (xs : List Subnet). xs ++ f i ∷ []) c.loop-i.invariant
    ∙ sym (map-range_with_len_more f 0 i i (omega arith))
