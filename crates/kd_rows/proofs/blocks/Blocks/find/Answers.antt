use Rattle.std.proofs.Common.{Some, ap, arith, option_map, sym, ◌∙◌}
use Rattle.kd_rows.specs.declared.row.Row.{Row}
use Rattle.kd_rows.specs.Index.{bound_row}
use Rattle.kd_rows.proofs.Places.{absent_at, is_at, read_at}
use Rattle.kd_rows.proofs.blocks.Blocks.find.Goals as goal
use Rattle.kd_rows.proofs.blocks.Blocks.find.Goals.{else-place-len-via-then-place-len+else-at-block, else-place-len-via-else-place-len}

pub returns-then-at-block : goal.returns-then-at-block
returns-then-at-block c =
    let rows = c.args.self.now.rows in
    let at = is_at rows c.args.block c.place_of-place.result c.requires (omega arith) (λ d. read_at rows c.place_of-place.result (bound_row c.at.result) d (omega arith) c.at.ensures ∙ c.if-at-block.true) in
    sym (ap (option_map (λ (r : Row). r.ends)) (at.found (bound_row c.at-then-at-block.result) ∙ ap Some (sym c.at-then-at-block.ensures)))

pub returns-else-place-len : goal.returns-else-place-len
returns-else-place-len c = sym (ap (option_map (λ (r : Row). r.ends)) (absent_at c.args.self.now.rows c.args.block c.place_of-place.result c.requires c.place_of-place.ensures
    (λ d within e. elim c.else-place-len.branch [ else-place-len-via-then-place-len+else-at-block w ↦ w.if-at-block.false (sym (read_at c.args.self.now.rows c.place_of-place.result (bound_row w.at.result) d within w.at.ensures) ∙ e) | else-place-len-via-else-place-len w ↦ absurd (omega arith) ])))
