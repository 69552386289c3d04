use Rattle.std.proofs.Common.{◌≡◌, ◌≤◌, ◌+◌, ◌-◌, true, None, Bool, ℕ, List, ap, arith, if◌then◌else◌, is_some, subst, sym, ◌∙◌}
use Rattle.std.specs.List.{All}
use Rattle.kd_rows.specs.declared.row.Row.{Row}
use Rattle.kd_rows.specs.Index.{IsBound, IsBounded, IsNow, block_number, bound_row, end_at}
use Rattle.kd_rows.specs.Full.{AreFull}
use Rattle.kd_rows.specs.Holds.{AreHolds}
use Rattle.kd_rows.specs.Row.{IsInRange}
use Rattle.kd_rows.specs.Table.{Rise, Table, latest_of, row_at, room_for_row, with_row}
use Rattle.kd_rows.proofs.Bounds.{bounded_set, enough_after, kept_is, room_for, some_end}
use Rattle.kd_rows.proofs.Fulls.{full_after, has_set}
use Rattle.kd_rows.proofs.Held.{held_after}
use Rattle.kd_rows.proofs.Sets.{all-with_row, latest_of-with_row, rise-with_row}
use Rattle.kd_rows.proofs.rows.Rows.exchange.Goals as goal

pub all-requires : goal.all-requires
all-requires c = subst Rise (sym c.put_row.ensures.rows) (rise-with_row c.args.row c.self.inside.rows.rows c.self.invariant.rise)

pub set-requires-clause-room : goal.set-requires-clause-room
set-requires-clause-room c = λ none.
    let able = subst (λ (t : Table). room_for_row t c.args.row ≡ true) (sym c.self.view_is) c.requires.spare in
    let least = room_for c.self.inside.rows.rows c.self.inside.blocks.rows c.args.row c.self.inside.room c.self.invariant.bounded able (subst (λ block. row_at c.self.inside.blocks.rows block ≡ None) c.block_of-block.ensures none) in
    omega (arith, least, c.self.invariant.enough)

pub invariant_of-self : goal.invariant_of-self
invariant_of-self c =
    let e = sym c.put_row.ensures.rows in
    let late = subst (λ (t : Table). latest_of t.rows ≤ c.args.row.changed) (sym c.self.view_is) c.requires.changed in
    let old = c.self.inside.rows.rows in
    let bounds = c.self.inside.blocks.rows in
    let bound : Row = bound_row (record { block = c.block_of-block.result; least = c.bound_now-least.result }) in
    let block = c.block_of-block.ensures in
    let now = subst (λ (rows : List Row). IsNow rows (block_number c.args.row.address) c.kept_bound-kept.result c.bound_now-least.result) (c.all.ensures ∙ c.put_row.ensures.rows) c.bound_now-least.ensures in
    let held = c.find.ensures ∙ ap (end_at bounds) block in
    let is = subst (λ (n : ℕ). IsBound (with_row c.args.row old) n c.bound_now-least.result) (sym block) (kept_is old bounds c.args.row c.find.result c.kept_bound-kept.result c.bound_now-least.result c.self.invariant.bounded held c.kept_bound-kept.ensures now) in
    record {
      rise = subst Rise e (rise-with_row c.args.row old c.self.invariant.rise);
      ranged = subst (All IsInRange) e (all-with_row IsInRange c.args.row old c.requires.range c.self.invariant.ranged);
      newest = sym (latest_of-with_row c.args.row old late) ∙ ap latest_of e;
      ends = subst (All (λ (row : Row). c.min-self-inside.result ≤ row.ends)) e (all-with_row (λ (row : Row). c.min-self-inside.result ≤ row.ends) c.args.row old (omega (arith, c.min-self-inside.ensures)) (λ k d within. let h = c.self.invariant.ends k d within in omega (arith, c.min-self-inside.ensures)));
      held = subst (AreHolds c.with-self-inside.result) e (held_after c.args.row old c.self.inside.holds c.with-self-inside.result c.self.invariant.held c.with-self-inside.ensures);
      indexed = c.put_row.ensures.indexed;
      aged = c.put_row.ensures.aged;
      bounded = subst (λ (rows : List Row). IsBounded rows c.set.new.self.rows) e (subst (IsBounded (with_row c.args.row old)) (sym c.set.ensures.rows) (bounded_set old bounds c.args.row bound c.self.invariant.bounded block is));
      full = subst (λ (rows : List Row). AreFull rows c.add.new.self) e (c.add.ensures (with_row c.args.row old) (full_after c.args.row old c.self.inside.full c.self.invariant.full) (has_set c.args.row old));
      enough = enough_after old bounds c.args.row c.self.inside.room c.self.inside.rows.room c.self.inside.blocks.room c.room_after-self-inside.result c.put_row.new.rows.room c.set.new.self.room c.self.invariant.bounded c.self.invariant.enough
          (c.room_after-self-inside.ensures ∙ ap (λ (b : Bool). c.self.inside.room - (if b then 0 else 1)) (ap is_some c.ends_at-replaced.ensures ∙ some_end old c.args.row.address)) c.put_row.ensures.room
          (subst (λ (n : ℕ). c.set.new.self.room + (if is_some (row_at bounds n) then 0 else 1) ≡ c.self.inside.blocks.room) block c.set.ensures.room);
    }
