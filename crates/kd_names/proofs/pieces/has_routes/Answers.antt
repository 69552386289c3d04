use Rattle.std.proofs.Common.{◌≡◌, ◌∙◌, ◌+◌, ◌∷◌, ◌&&◌, ap, get_or, rules, sym, true}
use Rattle.std.specs.List.{list_all}
use Rattle.kd_names.specs.Pieces.{bytes_of_bits, is_route, routes_of}
use Rattle.kd_names.proofs.Cuts.{cut_first}
use Rattle.kd_names.proofs.pieces.has_routes.Goals as goal

pub loop-left-preserved : goal.loop-left-preserved
loop-left-preserved c =
    let at = c.loop-left in
    let behind = c.split_up_to.result.1.now in
    let cut = cut_first (λ bits. bytes_of_bits bits + 4) at.left.now c.split_up_to.result.0.now behind _ c.in-len1-up.len_at_least (ap (λ n. n + 4) c.reach_of.ensures) c.split_up_to.ensures.front c.split_up_to.ensures.behind in
    let others = list_all is_route (routes_of behind) in
    let this : is_route (get_or at.left.now 0 0 ∷ c.split_up_to.result.0.now) ≡ true = search rules in
    sym (ap (list_all is_route) cut ∙ ap (λ b. b && others) this) ∙ at.invariant
