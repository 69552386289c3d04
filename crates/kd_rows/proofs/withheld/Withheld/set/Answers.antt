use Rattle.std.proofs.Common.{◌≡◌, ◌+◌, ◌-◌, ◌||◌, Bool, List, None, ap, arith, false, if◌then◌else◌, is_some, nat_lt, subst, sym, true, ℕ, ◌∙◌}
use Rattle.kd_rows.specs.declared.row.Row.{Row}
use Rattle.kd_rows.specs.Index.{IsBounded, IsNow, block_number, bound_row, end_at}
use Rattle.kd_rows.specs.Open.{AreBare, open_rows}
use Rattle.kd_rows.specs.Table.{room_for_row, row_at, with_row}
use Rattle.kd_rows.specs.Withheld.{WithheldTable, is_withheld}
use Rattle.kd_rows.proofs.Bounds.{enough_after, room_for, some_end}
use Rattle.kd_rows.proofs.Guards.{bare_kept, bare_set, open_bounded, room_back, room_kept}
use Rattle.kd_rows.proofs.Opens.{open_at, open_without}
use Rattle.kd_rows.proofs.withheld.Withheld.set.Goals as goal

pub invariant_of-self : goal.invariant_of-self
invariant_of-self c =
    let row = c.args.row in
    let rows = c.self.inside.rows.rows in
    let list = c.self.inside.list.items in
    let within : is_withheld list row.address ≡ true = ap (λ (xs : List ℕ). is_withheld xs row.address) (sym c.as_slice.ensures.value) ∙ sym c.is_among.ensures ∙ c.if-is_among.true in
    let there : is_some c.exchange-replaced.result ≡ is_some (row_at rows row.address) = ap is_some c.exchange-replaced.ensures.replaced ∙ some_end rows row.address in
    record {
      listed = c.self.invariant.listed;
      rise = c.take_out.ensures.rise;
      bare = subst (λ (xs : List Row). AreBare xs list c.take_out.new.addresses.items) (sym c.exchange-replaced.ensures.rows) (bare_set row rows list c.self.inside.bare.items c.take_out.new.addresses.items c.self.invariant.bare c.take_out.ensures.others);
      bounded = subst (λ (xs : List Row). IsBounded xs c.self.inside.others.rows) (sym (ap (open_rows list) c.exchange-replaced.ensures.rows ∙ open_without list rows row within)) c.self.invariant.bounded;
      enough = room_kept (is_some (row_at rows row.address)) c.self.inside.room c.self.inside.rows.room c.self.inside.others.room c.room_after-self-inside.result c.exchange-replaced.new.self.room c.self.invariant.enough
          (c.room_after-self-inside.ensures ∙ ap (λ (b : Bool). c.self.inside.room - (if b then 0 else 1)) there) c.exchange-replaced.ensures.room;
    }

pub set-requires-clause-room : goal.set-requires-clause-room
set-requires-clause-room c = λ none.
    let row = c.args.row in
    let rows = c.self.inside.rows.rows in
    let list = c.self.inside.list.items in
    let out : is_withheld list row.address ≡ false = ap (λ (xs : List ℕ). is_withheld xs row.address) (sym c.as_slice.ensures.value) ∙ sym c.is_among.ensures ∙ c.if-is_among.false in
    let able : (is_some (row_at rows row.address) || nat_lt 0 c.self.inside.room) ≡ true = subst (λ (t : WithheldTable). room_for_row t.table row ≡ true) (sym c.self.view_is) c.requires.spare in
    let open_able : (is_some (row_at (open_rows list rows) row.address) || nat_lt 0 c.self.inside.room) ≡ true = ap (λ o. is_some o || nat_lt 0 c.self.inside.room) (open_at list rows row.address out) ∙ able in
    let left = room_for (open_rows list rows) c.self.inside.others.rows row c.self.inside.room c.self.invariant.bounded open_able (subst (λ block. row_at c.self.inside.others.rows block ≡ None) c.block_of-block.ensures none) in
    omega (arith, left, c.self.invariant.enough)

pub invariant_of-self-else-is_among : goal.invariant_of-self-else-is_among
invariant_of-self-else-is_among c =
    let row = c.args.row in
    let rows = c.self.inside.rows.rows in
    let list = c.self.inside.list.items in
    let bounds = c.self.inside.others.rows in
    let block = c.block_of-block.ensures in
    let bound : Row = bound_row (record { block = c.block_of-block.result; least = c.bound_now-least.result }) in
    let out : is_withheld list row.address ≡ false = ap (λ (xs : List ℕ). is_withheld xs row.address) (sym c.as_slice.ensures.value) ∙ sym c.is_among.ensures ∙ c.if-is_among.false in
    let able : (is_some (row_at rows row.address) || nat_lt 0 c.self.inside.room) ≡ true = subst (λ (t : WithheldTable). room_for_row t.table row ≡ true) (sym c.self.view_is) c.requires.spare in
    let open_there : is_some (row_at rows row.address) ≡ is_some (row_at (open_rows list rows) row.address) = ap is_some (sym (open_at list rows row.address out)) in
    let there : is_some c.exchange-replaced.result ≡ is_some (row_at rows row.address) = ap is_some c.exchange-replaced.ensures.replaced ∙ some_end rows row.address in
    let now : IsNow (open_rows list (with_row row rows)) (block_number row.address) c.kept_bound-kept.result c.bound_now-least.result = subst (λ (xs : List Row). IsNow (open_rows list xs) (block_number row.address) c.kept_bound-kept.result c.bound_now-least.result) (c.as_sorted.ensures.rows ∙ c.exchange-replaced.ensures.rows)
    (subst (λ (xs : List ℕ). IsNow (open_rows xs c.as_sorted.result.now.rows) (block_number row.address) c.kept_bound-kept.result c.bound_now-least.result) c.as_slice-else-is_among.ensures.value (subst (λ (xs : List Row). IsNow xs (block_number row.address) c.kept_bound-kept.result c.bound_now-least.result) c.beside-rows.ensures c.bound_now-least.ensures)) in
    let bounded : IsBounded (open_rows list (with_row row rows)) (with_row bound bounds) = open_bounded list rows bounds row bound c.find.result c.kept_bound-kept.result c.exchange-replaced.ensures.rise out c.self.invariant.bounded block (c.find.ensures ∙ ap (end_at bounds) block) c.kept_bound-kept.ensures now in
    record {
      listed = c.self.invariant.listed;
      rise = c.self.invariant.rise;
      bare = subst (λ (xs : List Row). AreBare xs list c.self.inside.bare.items) (sym c.exchange-replaced.ensures.rows) (bare_kept row rows list c.self.inside.bare.items c.self.invariant.bare out);
      bounded = subst (λ (xs : List Row). IsBounded (open_rows list xs) c.set.new.self.rows) (sym c.exchange-replaced.ensures.rows) (subst (IsBounded (open_rows list (with_row row rows))) (sym c.set.ensures.rows) bounded);
      enough = enough_after (open_rows list rows) bounds row c.self.inside.room c.self.inside.rows.room c.self.inside.others.room c.room_after-self-inside.result c.exchange-replaced.new.self.room c.set.new.self.room c.self.invariant.bounded c.self.invariant.enough
          (c.room_after-self-inside.ensures ∙ ap (λ (b : Bool). c.self.inside.room - (if b then 0 else 1)) (there ∙ open_there))
          (subst (λ (b : Bool). c.exchange-replaced.new.self.room + (if b then 0 else 1) ≡ c.self.inside.rows.room) open_there (room_back (is_some (row_at rows row.address)) c.self.inside.room c.self.inside.rows.room c.exchange-replaced.new.self.room (omega (arith, c.self.invariant.enough)) able c.exchange-replaced.ensures.room))
          (subst (λ (n : ℕ). c.set.new.self.room + (if is_some (row_at bounds n) then 0 else 1) ≡ c.self.inside.others.room) block c.set.ensures.room);
    }
