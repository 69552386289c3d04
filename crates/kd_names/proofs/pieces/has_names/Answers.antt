use Rattle.std.proofs.Common.{◌∙◌, ap, sym}
use Rattle.kd_names.specs.Pieces.{go_on_as_names, labels_of}
use Rattle.kd_names.proofs.Cuts.{cut_first}
use Rattle.kd_names.proofs.pieces.has_names.Goals as goal

pub loop-left-preserved : goal.loop-left-preserved
loop-left-preserved c =
    let at = c.loop-left in
    let behind = c.split_up_to.result.1.now in
    let cut = cut_first (λ n. n) at.left.now c.split_up_to.result.0.now behind _ c.in-len1-up.len_at_least c.from.ensures c.split_up_to.ensures.front c.split_up_to.ensures.behind in
    let step = c.in-Some.ensures (labels_of behind) in
    (step.0, sym step.1 ∙ ap (go_on_as_names at.size) (sym cut) ∙ at.invariant.1)
