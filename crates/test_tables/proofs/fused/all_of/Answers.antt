use Rattle.std.proofs.Common.{List, [], ◌∷◌, ◌++◌, ap, sym, take, ◌∙◌}
use Rattle.kd_rows.specs.declared.row.Row.{Row}
use Rattle.test_tables.proofs.Copies.{one_more}
use Rattle.test_tables.proofs.fused.all_of.Goals as goal

pub loop-i-preserved : goal.loop-i-preserved
loop-i-preserved c =
    let copy = c.in_ok-try_clone-in-Some.field-0 in
    let rows = c.args.rows.now.rows in
    c.in_ok-push-in-Some.ensures.items ∙ ap (λ (xs : List Row). xs ++ copy ∷ []) c.loop-i.invariant
    ∙ ap (λ (r : Row). take c.loop-i.i rows ++ r ∷ []) c.in_ok-try_clone-in-Some.ensures ∙ sym (one_more rows c.loop-i.i c.in-Some.row.now (sym c.in-Some.ensures))
