-- The rows that the query shows.
use Rattle.std.proofs.Common.{◌≡◌, inl, inr, List, [], ◌∷◌, map, Ok, Err, Result, IfOk, IfErr, IsTrue, refl, sym, ap, subst, ◌∙◌}
use Rattle.std.specs.Prelude.{IsPermutation, flat_map}
use Rattle.std.proofs.lemmas.List.Sorted.{IsPermutation-sym, IsPermutation-map}
use Rattle.sqlite_value.specs.declared.value.Value.TheVariants.{Null}
use Rattle.sqlite_value.specs.Order.{Row as Columns}
use Rattle.sqlite.specs.Effect as effect
use Rattle.sqlite.specs.Effect.{Database}
use Rattle.sqlite.specs.Query.{IsAnswer, Output, output}
use Rattle.sqlite.specs.Program.{overlay}
use Rattle.sqlite.specs.Term.{Env}
use Rattle.sqlite.specs.Command.TheVariants.{Select}
use Rattle.sqlite.specs.State.{State, HasCleanDisk, Survives}
use Rattle.sqlite.proofs.Callers.{reads_as}
use Rattle.kd_keeps.specs.Moves.{MovesTable}
use Rattle.kd_keeps.specs.declared.fault.StoreFault.{StoreFault}
use Rattle.kd_rows.specs.declared.row.Row.{Row}
use Rattle.kd_rows.specs.Table.{Rise}
use Rattle.kd_store.specs.Fault.{AreUnread, first_five}
use Rattle.kd_store.specs.Lease.{lease_schema, rows_text, columns_of}
use Rattle.kd_store.specs.Stands.{columns_in, Lists, Stands, Leaves}
use Rattle.kd_store.specs.Statement.{AreShown, ReadsTable}
use Rattle.kd_store.proofs.Texts.{select, selects, names, rows_is, rows_plain, rows_unlisted}
use Rattle.kd_store.proofs.Tables.{one_table}
use Rattle.kd_store.proofs.States.{IsReady, Rests, Settles, left_of, leaves_one, after_query_error, stands_rests, stands_same}
use Rattle.kd_store.proofs.Streaming.{shown_same}

-- each row is shown once
all_shown : (rows : List Columns) → map (λ (o : Output). o.1) (map (output select) (flat_map (λ (r : Columns). let env : Env = [] ∷ r ∷ [] in env ∷ []) rows)) ≡ map columns_in rows
all_shown [] = refl
all_shown (r ∷ rows) = ap (λ l. columns_in r ∷ l) (all_shown rows)

five_of_shown : (rows : List Columns) → map first_five (map columns_in rows) ≡ map columns_in rows
five_of_shown [] = refl
five_of_shown (r ∷ rows) = ap (λ l. columns_in r ∷ l) (five_of_shown rows)

pub read_shows : (db : Database) (rows : List Columns) → effect.Reads (Select selects names) db [] rows → IsPermutation (map columns_in (db.trees 0)) rows
read_shows db rows reads =
    let a : IsAnswer select (overlay db.trees []) [] rows = reads.answer Null in
    let same = IsPermutation-map (λ (o : Output). o.1) _ _ a.same in
    let kept : map (λ (o : Output). o.1) a.kept ≡ map columns_in (db.trees 0) = ap (map (λ (o : Output). o.1)) (a.distinct ∙ ap (map (output select)) a.grouped) ∙ all_shown (db.trees 0) in
    subst (IsPermutation (map columns_in (db.trees 0))) (sym a.shown) (subst (λ l. IsPermutation l (map (λ (o : Output). o.1) a.ordered)) kept same)

-- rows that are read from the trees, in ascending order, are what the trees list
pub lists_read : (db : Database) (found : List Columns) (rows : List Row) → effect.Reads (Select selects names) db [] found → map columns_of rows ≡ map first_five found → Rise rows → Lists db.trees rows
lists_read db found rows reads are rise = record {
  rise = rise;
  same =
      subst (λ l. IsPermutation l (map columns_in (db.trees 0))) (sym are)
      (subst (IsPermutation (map first_five found)) (five_of_shown (db.trees 0)) (IsPermutation-sym _ _ (IsPermutation-map first_five _ _ (read_shows db found reads))));
}

-- what is read from a connection at a table is that table
pub reads_table : (old new : State) (rows table : List Row) → Stands old table → AreShown old new rows → Rise rows → rows ≡ table
reads_table old new rows table h is rise =
    let reads = reads_as rows_text [] old new lease_schema h.schema _ rows_is rows_plain rows_unlisted is.0 is.1 in
    one_table old.now.trees rows table (lists_read old.now is.0 rows reads is.2 rise) h.holds.1

-- if the connection is ready, what is read is the table that it is at
pub finds_table : (old new : State) (rows : List Row) → IsReady old → AreShown old new rows → Rise rows → Stands old rows
finds_table old new rows h is rise =
    let reads = reads_as rows_text [] old new lease_schema h.schema _ rows_is rows_plain rows_unlisted is.0 is.1 in
    record { is_open = h.is_open; ready = h.ready; schema = h.schema; holds = (h.sound, lists_read old.now is.0 rows reads is.2 rise); settled = h.settled }

-- if rows are not read, the connection is as before, or has gone back to its last commit
pub unread_rests : (old new : State) (fault : StoreFault) → AreUnread old new fault → Rests old new
unread_rests old new fault (inl h) = after_query_error old new rows_text [] h.0 h.2
unread_rests old new fault (inr h) = inl h.0

-- a query commits nothing
pub read_leaves : (old new : State) (table : List Row) → Settles old → HasCleanDisk new → Stands old table → Survives old new (λ _. ⊥) → Leaves new table table
read_leaves old new table law clean h survives db may = elim (survives.crash clean db may) [ inl before ↦ inl (left_of old table law h db before) | inr none ↦ absurd none ]

module _ {V : Type 0} (items : V → List Row) (old new : State) (table : List Row) (law : Settles old) (after : Settles new) (clean : HasCleanDisk new) (h : Stands old table) (survives : Survives old new (λ _. ⊥)) where
  -- a read leaves a connection at the table that it was at
  pub reading_moves : (r : Result V StoreFault) → ReadsTable items old new r → MovesTable (Stands new) (Leaves new) (IsTrue new.is_open) table table r
  reading_moves (Ok v) is =
      let stands = stands_same old new table h (shown_same old new (items v) is) in
      record { done = stands; settled = leaves_one new table after stands; failed = tt; crash = read_leaves old new table law clean h survives }
  reading_moves (Err e) is = record { done = tt; settled = tt; failed = stands_rests old new table h (unread_rests old new e is); crash = read_leaves old new table law clean h survives }

  -- and gives that table
  pub reading_finds : (r : Result V StoreFault) → ReadsTable items old new r → IfOk r (λ v. Rise (items v)) → IfOk r (λ v. items v ≡ table)
  reading_finds (Ok v) is rise = reads_table old new (items v) table h is rise
  reading_finds (Err e) is rise = tt
