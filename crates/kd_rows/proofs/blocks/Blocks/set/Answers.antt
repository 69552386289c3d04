use Rattle.std.proofs.Common.{◌≡◌, None, ap, arith, is_some, sym, ◌∙◌}
use Rattle.kd_rows.specs.Index.{bound_row}
use Rattle.kd_rows.specs.Table.{row_at}
use Rattle.kd_rows.proofs.Places.{absent_at, is_at, read_at}
use Rattle.kd_rows.proofs.blocks.Blocks.set.Goals as goal
use Rattle.kd_rows.proofs.blocks.Blocks.set.Goals.{else-place-len-via-then-place-len+else-at-bound, else-place-len-via-else-place-len}

pub replace-requires : goal.replace-requires
replace-requires c =
    let rows = c.args.self.now.rows in
    let place = c.place_of-place.result in
    is_at rows c.args.bound.block place c.requires.rise (omega arith) (λ d. read_at rows place (bound_row c.at.result) d (omega arith) c.at.ensures ∙ c.if-at-bound.true)

pub returns-then-at-bound-clause-room : goal.returns-then-at-bound-clause-room
returns-then-at-bound-clause-room c =
    let rows = c.args.self.now.rows in
    let place = c.place_of-place.result in
    let at = is_at rows c.args.bound.block place c.requires.rise (omega arith) (λ d. read_at rows place (bound_row c.at.result) d (omega arith) c.at.ensures ∙ c.if-at-bound.true) in
    rw (ap is_some (at.found (bound_row c.at.result))) (omega (arith, c.replace.ensures.room))

pub insert_bound-requires-clause-none : goal.insert_bound-requires-clause-none
insert_bound-requires-clause-none c =
    let rows = c.args.self.now.rows in
    let place = c.place_of-place.result in
    absent_at rows c.args.bound.block place c.requires.rise c.place_of-place.ensures
    (λ d within e. elim c.else-place-len.branch [ else-place-len-via-then-place-len+else-at-bound w ↦ w.if-at-bound.false (sym (read_at rows place (bound_row w.at.result) d within w.at.ensures) ∙ e) | else-place-len-via-else-place-len w ↦ absurd (omega arith) ])

pub insert_bound-requires-clause-room : goal.insert_bound-requires-clause-room
insert_bound-requires-clause-room c =
    let rows = c.args.self.now.rows in
    let place = c.place_of-place.result in
    c.requires.room (absent_at rows c.args.bound.block place c.requires.rise c.place_of-place.ensures
    (λ d within e. elim c.else-place-len.branch [ else-place-len-via-then-place-len+else-at-bound w ↦ w.if-at-bound.false (sym (read_at rows place (bound_row w.at.result) d within w.at.ensures) ∙ e) | else-place-len-via-else-place-len w ↦ absurd (omega arith) ]))

pub returns-else-place-len-clause-room : goal.returns-else-place-len-clause-room
returns-else-place-len-clause-room c =
    let rows = c.args.self.now.rows in
    let place = c.place_of-place.result in
    let none : row_at rows c.args.bound.block ≡ None = absent_at rows c.args.bound.block place c.requires.rise c.place_of-place.ensures
    (λ d within e. elim c.else-place-len.branch [ else-place-len-via-then-place-len+else-at-bound w ↦ w.if-at-bound.false (sym (read_at rows place (bound_row w.at.result) d within w.at.ensures) ∙ e) | else-place-len-via-else-place-len w ↦ absurd (omega arith) ]) in
    rw (ap is_some none) (omega (arith, c.insert_bound.ensures.room))
