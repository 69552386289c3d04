use Rattle.std.proofs.Common.{◌++◌, sym, ap, ◌∙◌, append_assoc, take}
use Rattle.std.proofs.KnownBytes.{Appends-trans}
use Rattle.std.proofs.lemmas.List.{take-append-drop}
use Rattle.kd_loops.proofs.writing.write_all.Goals as goal

pub loop-rest-preserved : goal.loop-rest-preserved
loop-rest-preserved g c =
    let i = c.loop-rest.invariant in
    let rest = c.loop-rest.rest.now in
    let front = take c.in_ok-count.count rest in
    let behind = c.split_at.result.1.now in (
      i.0 ++ front,
      i.1 ∙ ap (λ r. i.0 ++ r) (sym (take-append-drop c.in_ok-count.count rest) ∙ ap (λ r. front ++ r) (sym c.split_at.ensures.back))
          ∙ sym (append_assoc i.0 front behind),
      Appends-trans _ _ _ i.0 front i.2 c.in_ok-count.ensures.bytes,
    )
