use Rattle.std.proofs.Common.{◌∙◌, ◌++◌, ap, append_assoc, string_bytes, sym}
use Rattle.kd_names.specs.Pieces.{labels_of}
use Rattle.kd_names.specs.Values.{names_text}
use Rattle.kd_names.proofs.Cuts.{cut_first}
use Rattle.kd_names.proofs.pieces.put_names.Goals as goal

pub loop-left-preserved : goal.loop-left-preserved
loop-left-preserved c =
    let at = c.loop-left in
    let behind = c.split_up_to.result.1.now in
    let cut = cut_first (λ n. n) at.left.now c.split_up_to.result.0.now behind _ c.in-len1-up.len_at_least c.from.ensures c.split_up_to.ensures.front c.split_up_to.ensures.behind in
    ap (λ t. t ++ names_text (labels_of behind)) c.in_ok-put_label.ensures
    ∙ append_assoc (string_bytes at.out) _ (names_text (labels_of behind))
    ∙ ap (λ labels. string_bytes at.out ++ names_text labels) (sym cut)
    ∙ at.invariant
