use Rattle.std.proofs.Common.{◌++◌, ◌∷◌, [], ap, sym, take, ◌∙◌}
use Rattle.kd_listing.proofs.Taken.{all_taken, one_taken}
use Rattle.kd_rows.specs.declared.row.Row.{Row}
use Rattle.kd_server.proofs.trial.list_rows.Goals as goal

pub loop-row-preserved : goal.loop-row-preserved
loop-row-preserved c =
    let rows = c.args.rows.now.rows in
    c.in_ok-push.ensures.items ∙ ap (λ x. x ++ c.in_ok-try_clone.field-0 ∷ []) c.loop-row.invariant
    ∙ ap (λ (r : Row). take c.loop-row.index rows ++ r ∷ []) c.in_ok-try_clone.ensures
    ∙ sym (one_taken rows c.loop-row.index c.in-Some.row.now c.in-Some.ensures)

pub returns : goal.returns
returns c = c.loop-row.invariant ∙ all_taken c.args.rows.now.rows c.loop-row.index c.in_default.ensures
