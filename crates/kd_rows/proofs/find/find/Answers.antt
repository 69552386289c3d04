use Rattle.std.proofs.Common.{arith, sym, ◌∙◌}
use Rattle.kd_rows.specs.Index.{row_in}
use Rattle.kd_rows.proofs.Places.{absent_at, is_at, read_at}
use Rattle.kd_rows.proofs.Slots.{slot_at}
use Rattle.kd_rows.proofs.find.find.Goals as goal
use Rattle.kd_rows.proofs.find.find.Goals.{else-place-len-via-then-place-len+else-address, else-place-len-via-else-place-len}

pub returns-then-address : goal.returns-then-address
returns-then-address c =
    is_at _ _ _ c.requires (omega arith) (λ d. read_at c.args.rows.now.rows c.place_of-place.result (row_in c.args.rows.now.rows c.place_of-place.result) d (omega arith) (slot_at c.args.rows.now.rows c.place_of-place.result _ (omega arith)) ∙ sym c.address.ensures ∙ c.if-address.true)

pub returns-else-place-len : goal.returns-else-place-len
returns-else-place-len c = absent_at _ _ _ c.requires c.place_of-place.ensures
    (λ d within e. elim c.else-place-len.branch [ else-place-len-via-then-place-len+else-address w ↦ w.if-address.false (w.address.ensures ∙ sym (read_at c.args.rows.now.rows c.place_of-place.result (row_in c.args.rows.now.rows c.place_of-place.result) d within (slot_at c.args.rows.now.rows c.place_of-place.result _ within)) ∙ e) | else-place-len-via-else-place-len w ↦ absurd (omega arith) ])
