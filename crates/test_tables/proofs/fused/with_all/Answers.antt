use Rattle.std.proofs.Common.{List, [], ◌∷◌, ◌++◌, ap, arith, sym, take, ◌∙◌}
use Rattle.std.proofs.lemmas.List.{take_more}
use Rattle.kd_rows.proofs.Several.{with_rows_push}
use Rattle.kd_rows.specs.Table.{with_row, with_rows}
use Rattle.kd_rows.specs.declared.row.Row.{Row}
use Rattle.test_tables.proofs.fused.with_all.Goals as goal

pub loop-row-preserved : goal.loop-row-preserved
loop-row-preserved c =
    let rows = c.args.rows.now in
    let i = c.loop-row.row-index in
    let row = c.row-item.result in
    let table = c.args.table.now.rows in
    c.in_ok-set_copy.ensures.put ∙ ap (with_row row) c.loop-row.invariant ∙ sym (with_rows_push (take i rows) row table)
    ∙ ap (λ (r : Row). with_rows (take i rows ++ r ∷ []) table) c.row-item.is
    ∙ ap (λ (set : List Row). with_rows set table) (sym (take_more rows i row (omega (arith, c.loop-row-test.true))))
