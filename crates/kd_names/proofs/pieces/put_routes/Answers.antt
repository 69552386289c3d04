use Rattle.std.proofs.Common.{[], if◌then◌else◌, length, ◌≡◌, ◌∙◌, ◌+◌, ◌∷◌, ◌++◌, get_or, ap, append_assoc, string_bytes, sym}
use Rattle.std.specs.Prelude.{◌==◌}
use Rattle.kd_names.specs.Pieces.{bytes_of_bits, routes_of}
use Rattle.kd_names.specs.Values.{comma, comma_before, route_text, routes_text}
use Rattle.kd_names.proofs.Cuts.{comma_is, cut_first}
use Rattle.kd_names.proofs.pieces.put_routes.Goals as goal

pub loop-left-preserved : goal.loop-left-preserved
loop-left-preserved c =
    let at = c.loop-left in
    let behind = c.split_up_to.result.1.now in
    let cut = cut_first (λ bits. bytes_of_bits bits + 4) at.left.now c.split_up_to.result.0.now behind _ c.in-len1-up.len_at_least (ap (λ n. n + 4) c.reach_of.ensures) c.split_up_to.ensures.front c.split_up_to.ensures.behind in
    let text = route_text (get_or at.left.now 0 0 ∷ c.split_up_to.result.0.now) in
    let last = comma_before (routes_of behind) in
    let others = routes_text (routes_of behind) in
    let put : string_bytes c.put_comma_before.new.out ≡ (string_bytes at.out ++ text) ++ last =
    rw (comma_is (λ bits. bytes_of_bits bits + 4) behind) (c.in_ok-put_comma_before.ensures ∙ ap (λ t. t ++ (if length behind == 0 then [] else comma)) c.in_ok-put_route.ensures) in
    let grouped : ((string_bytes at.out ++ text) ++ last) ++ others ≡ string_bytes at.out ++ ((text ++ last) ++ others) = simp append_assoc in
    ap (λ t. t ++ others) put ∙ grouped ∙ ap (λ routes. string_bytes at.out ++ routes_text routes) (sym cut) ∙ at.invariant
