use Rattle.std.proofs.Common.{◌≡◌, ◌≤◌, ◌∙◌, ap, ap₂, List, ◌∷◌, [], ◌++◌, sym, subst, map, refl, rules, arith, length-append}
use Rattle.std.proofs.lemmas.List.{map_push}
use Rattle.std.proofs.lemmas.List.Elements.{All-push}
use Rattle.std.specs.List.{All}
use Rattle.sqlite.specs.Order.{Row as Columns}
use Rattle.sqlite.specs.Held.{state}
use Rattle.sqlite.proofs.StateLemmas.{survives_then}
use Rattle.sqlite.proofs.Callers.{unchanged_then}
use Rattle.kd_rows.specs.Row.{IsInRange}
use Rattle.kd_rows.specs.Table.{Rise}
use Rattle.kd_store.specs.Fault.{IsLease, first_five}
use Rattle.kd_store.specs.Lease.{columns_of}
use Rattle.kd_store.proofs.Strange.{end_of, end_push, rise_push, strange_order}
use Rattle.kd_store.proofs.Streaming.{next_unread, shown_since, strange_since}
use Rattle.kd_store.proofs.statement.gather.Goals as goal

pub returns-in-Err-clause-read : goal.returns-in-Err-clause-read
returns-in-Err-clause-read g c clean had opened =
    let one = c.rows.invariant.1 in
    let was = c.rows.invariant.2 (omega (arith, c.next.ensures.survives.clean, clean)) had opened in
    next_unread g.S.Store c.args.shown.now.conn.now c.rows.shown.conn.now c.next.new.shown.conn.now was.0 c.in-Err.fault was.3 one.counts one.limit (c.in-Err.ensures.next clean was.0 was.2)

pub returns-in-Ok-None-clause-read : goal.returns-in-Ok-None-clause-read
returns-in-Ok-None-clause-read g c clean had opened =
    let old = state g.S.Store c.args.shown.now.conn.now in
    let mid = state g.S.Store c.rows.shown.conn.now in
    let new = state g.S.Store c.next.new.shown.conn.now in
    let was = c.rows.invariant.2 (omega (arith, c.next.ensures.survives.clean, clean)) had opened in
    let shown = rw c.in-Ok-None.field-0-is at (c.in-Ok-None.ensures.next clean was.0 was.2) in
    (was.0, shown_since old mid new was.3 was.0 shown, was.1)

pub returns-then-address-least-clause-read : goal.returns-then-address-least-clause-read
returns-then-address-least-clause-read g c clean had opened =
    let first = c.args.shown.now.conn.now in
    let last = c.next.new.shown.conn.now in
    let row = c.in-Ok-Some.row in
    let was = c.rows.invariant.2 (omega (arith, c.next.ensures.survives.clean, clean)) had opened in
    let moved = rw c.in-Ok-Some.field-0-is at (c.in-Ok-Some.ensures.next clean was.0 was.2) in
    strange_since g.S.Store first last (was.0 ++ moved.0 ∷ []) (unchanged_then (state g.S.Store first) (state g.S.Store c.rows.shown.conn.now) (state g.S.Store last) was.3 moved.3) moved.2
    (strange_order c.rows.rows.items row was.0 moved.0 was.1 moved.1 (omega (arith, c.rows.invariant.5, c.from-address.ensures, c.if-address-least.true)))

pub rows-preserved : goal.rows-preserved
rows-preserved g c =
    let old = state g.S.Store c.args.shown.now.conn.now in
    let mid = state g.S.Store c.rows.shown.conn.now in
    let new = state g.S.Store c.next.new.shown.conn.now in
    let row = c.in-Ok-Some.row in
    let items : c.push.new.self.items ≡ c.rows.rows.items ++ row ∷ [] = search rules in
    let lease : IsLease row = rw c.in-Ok-Some.field-0-is at c.in-Ok-Some.ensures.range in
    let last = end_push 0 c.rows.rows.items row in
    let above : end_of 0 c.rows.rows.items ≤ row.address = omega (arith, c.rows.invariant.5, c.from-address.ensures, c.if-address-least.false) in (
      c.next.ensures.same_reference ∙ c.rows.invariant.0,
      survives_then old mid new _ _ _ (λ _ db none. none) (λ _ db none. none) c.rows.invariant.1 c.next.ensures.survives,
      λ clean had opened.
          let was = c.rows.invariant.2 (omega (arith, c.next.ensures.survives.clean, clean)) had opened in
          let moved = rw c.in-Ok-Some.field-0-is at (c.in-Ok-Some.ensures.next clean was.0 was.2) in (
            was.0 ++ moved.0 ∷ [],
            ap (map columns_of) items ∙ map_push columns_of c.rows.rows.items row ∙ ap₂ (λ (a : List Columns) (b : Columns). a ++ b ∷ []) was.1 moved.1
                ∙ sym (map_push first_five was.0 moved.0),
            moved.2,
            unchanged_then old mid new was.3 moved.3,
          ),
      subst Rise (sym items) (rise_push 0 c.rows.rows.items row c.rows.invariant.3 above),
      subst (All IsInRange) (sym items) (All-push IsInRange c.rows.rows.items row c.rows.invariant.4 lease.1),
      rw (items, last, c.from-address.ensures) refl,
      omega (arith, c.from-address.ensures, lease.0),
      rw (items, length-append) (omega (arith, c.rows.invariant.7)),
    )
