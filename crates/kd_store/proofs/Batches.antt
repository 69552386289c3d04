-- What is true of a connection at a table after rows are set in one transaction.
use Rattle.std.proofs.Common.{◌≡◌, inl, inr, ℕ, suc, ◌+◌, ◌<◌, false, List, [], ◌∷◌, ◌++◌, length, take, drop, get_or, Ok, Err, IsTrue, refl, sym, ap, subst, ◌∙◌, arith}
use Rattle.std.proofs.Math.Seq.{drop-cons}
use Rattle.std.proofs.lemmas.Bool.{both_ways}
use Rattle.std.proofs.lemmas.List.{take_more, take-append-drop}
use Rattle.sqlite_catalog.specs.Listing.{IsSound}
use Rattle.sqlite_trees.specs.Tree.{Trees}
use Rattle.sqlite_trees.specs.declared.store.Store.{Ghosts}
use Rattle.sqlite.specs.Effect.{Database}
use Rattle.sqlite.specs.Held.{Held, state}
use Rattle.sqlite.specs.Listing.{understood}
use Rattle.sqlite.specs.State.{State, ExecutesInside, HasCleanDisk, IsRolledBack, KeepsCommit, Survives}
use Rattle.sqlite.specs.declared.error.Error.{Error}
use Rattle.sqlite.proofs.Callers.{runs_as, statement_of, survives_begin}
use Rattle.sqlite.proofs.InsideLemmas.{inside_keeps, keeps_then}
use Rattle.sqlite.proofs.StateLemmas.{survives_then}
use Rattle.kd_rows.specs.Table.{with_row, with_rows}
use Rattle.kd_rows.specs.declared.row.Row.{Row}
use Rattle.kd_store.specs.Batch.{FailsTogether, SetsEach, StopsAt, begun}
use Rattle.kd_store.specs.Lease.{columns_of, lease_schema, put_text}
use Rattle.kd_store.specs.Staging.{CommitsTogether, SetsTogether}
use Rattle.kd_store.specs.Stands.{Holds, Leaves, Stands}
use Rattle.kd_store.proofs.Puts.{does}
use Rattle.kd_store.proofs.States.{Settles, left_of}
use Rattle.kd_store.proofs.Texts.{put_is, put_plain}

-- what holds of a connection holds of the same one after it is given back
pub given_back : {S : Type 0} (P : Held S → Type 0) (end new : Held S) → P end → end ≡ new → P new
given_back P end new h same = subst P same h

-- ---- the rows at an index

-- some rows and the next one
pub one_more : (rows : List Row) (i : ℕ) (row : Row) → i < length rows → row ≡ get_or rows i row → take (i + 1) rows ≡ take i rows ++ row ∷ []
one_more rows i row within is = take_more rows i row within ∙ ap (λ (r : Row). take i rows ++ r ∷ []) (sym is)

-- the rows before an index, the one at it, and those after it
pub parted : (rows : List Row) (i : ℕ) (row : Row) → i < length rows → row ≡ get_or rows i row → rows ≡ take i rows ++ row ∷ drop (suc i) rows
parted rows i row within is =
    sym (take-append-drop i rows) ∙ ap (λ (l : List Row). take i rows ++ l) (drop-cons rows i row within ∙ ap (λ (r : Row). r ∷ drop (suc i) rows) (sym is))

-- ---- a row within a transaction

-- within a transaction a connection shows a table
record Stages (s : State) (table : List Row) : Type 0 where
  is_open : IsTrue s.is_open
  inside : IsTrue s.in_transaction
  schema : s.now.schema ≡ lease_schema
  holds : Holds s.now.trees table

-- the statement shows it with the row
stages_one : (old new : State) (row : Row) (count : ℕ) (table : List Row) → Stages old table → ExecutesInside 0 put_text (columns_of row) old new (Ok count) → Stages new (with_row row table)
stages_one old new row count table h ran =
    let w = runs_as put_text (columns_of row) old new lease_schema h.schema _ put_is put_plain count ran.0 in
    let made = does old.step_limit row old.now new.now (statement_of put_text (understood lease_schema put_text)) w.tally table h.schema h.holds.1 w.changed in
    record { is_open = ran.1.is_open; inside = ran.1.mode; schema = made.0; holds = (subst (λ s. IsSound s new.now.trees) made.0 w.sound, made.1) }

module _ {S : Type 0} (g : Ghosts S) where
  begins : (old : Held S) (table : List Row) → Stands (state g old) table → Stages (state g (begun old)) table
  begins old table h = record { is_open = h.is_open; inside = refl; schema = h.schema; holds = h.holds }

  stages_each : (rows : List Row) (old new : Held S) (table : List Row) → Stages (state g old) table → SetsEach g rows old new → Stages (state g new) (with_rows rows table)
  stages_each [] old new table h same = subst (λ (c : Held S). Stages (state g c) table) (sym same) h
  stages_each (row ∷ rows) old new table h set = stages_each rows set.0 new (with_row row table) (stages_one (state g old) (state g set.0) row set.1 table h set.2) set.3

  -- ---- the rows so far

  pub inside_each : (rows : List Row) (old new : Held S) → IsTrue (state g old).in_transaction → SetsEach g rows old new → IsTrue (state g new).in_transaction
  inside_each [] old new inside same = subst (λ (c : Held S). IsTrue c.in_transaction) (sym same) inside
  inside_each (row ∷ rows) old new inside set = inside_each rows set.0 new set.2.1.mode set.3

  pub each_push : (rows : List Row) (row : Row) (old mid new : Held S) (count : ℕ) → SetsEach g rows old mid → ExecutesInside 0 put_text (columns_of row) (state g mid) (state g new) (Ok count) → SetsEach g (rows ++ row ∷ []) old new
  each_push [] row old mid new count same ran = (new, count, subst (λ (c : Held S). ExecutesInside 0 put_text (columns_of row) (state g c) (state g new) (Ok count)) same ran, refl)
  each_push (first ∷ rows) row old mid new count set ran = (set.0, set.1, set.2, each_push rows row set.0 mid new count set.3 ran)

  -- ---- nothing is committed on the way

  keeps_each : (rows : List Row) (old new : Held S) → SetsEach g rows old new → KeepsCommit (state g old) (state g new)
  keeps_each [] old new same = subst (λ (c : Held S). KeepsCommit (state g old) (state g c)) (sym same) (record { was_open = λ h. h; committed = λ _. refl })
  keeps_each (row ∷ rows) old new set =
      keeps_then (state g old) (state g set.0) (state g new) (inside_keeps (state g old) (state g set.0) 0 false put_text (columns_of row) (Ok set.1) set.2) (keeps_each rows set.0 new set.3)

  keeps_stopped : (rows : List Row) (old new : Held S) (error : Error) → StopsAt g rows old new error → KeepsCommit (state g old) (state g new)
  keeps_stopped rows old new error stop =
      keeps_then (state g old) (state g stop.mid) (state g new) (keeps_each stop.done old stop.mid stop.set)
      (inside_keeps (state g stop.mid) (state g new) 0 false put_text (columns_of stop.row) (Err error) stop.refused)

  -- ---- from the connection on which the transaction began

  module _ (rows : List Row) (old first mid : Held S) (is : first ≡ begun old) where
    pub set_within : (IsTrue first.in_transaction → SetsEach g rows first mid) → SetsEach g rows (begun old) mid
    set_within set = subst (λ (c : Held S). SetsEach g rows c mid) is (set (ap (λ (c : Held S). c.in_transaction) is))

    pub stop_within : (error : Error) → (IsTrue first.in_transaction → StopsAt g rows first mid error) → StopsAt g rows (begun old) mid error
    stop_within error stop = subst (λ (c : Held S). StopsAt g rows c mid error) is (stop (ap (λ (c : Held S). c.in_transaction) is))

    pub survives_together : (new : State) → (HasCleanDisk (state g mid) → IsTrue first.in_transaction → SetsEach g rows first mid) → Survives (state g first) (state g mid) (λ _. ⊥)
        → Survives (state g mid) new (λ db. db ≡ (state g mid).now.trees) → Survives (state g old) new (CommitsTogether g rows old)
    survives_together new set inside end =
        survives_then (state g old) (state g mid) new _ _ (CommitsTogether g rows old) (λ _ db none. absurd none) (λ clean db same. (mid, set_within (set (omega (arith, end.clean, clean))), same))
        (survives_begin g old (state g mid) _ (subst (λ (c : Held S). Survives (state g c) (state g mid) (λ _. ⊥)) is inside)) end

  -- ---- the transaction ends

  module _ (rows : List Row) (old new : Held S) (table : List Row) (h : Stands (state g old) table) where
    pub together_stands : SetsTogether g rows old new → Stands (state g new) (with_rows rows table)
    together_stands it =
        let last = stages_each rows (begun old) it.mid table (begins old table h) it.set in
        let shown = it.committed.0 in
        record {
          is_open = shown.is_open;
          ready = shown.mode;
          schema = ap (λ (d : Database). d.schema) shown.now_is ∙ last.schema;
          holds = subst (λ (d : Database). Holds d.trees (with_rows rows table)) (sym shown.now_is) last.holds;
          settled = shown.committed_is ∙ sym shown.now_is;
        }

    undone : (mid : State) → KeepsCommit (state g (begun old)) mid → IsRolledBack mid (state g new) → IsTrue (state g new).is_open → Stands (state g new) table
    undone mid keeps back is_open =
        let both = back.undone is_open in
        let now = both.0 ∙ keeps.committed (back.was_open is_open) ∙ h.settled in
        record {
          is_open = is_open;
          ready = back.autocommit;
          schema = ap (λ (d : Database). d.schema) now ∙ h.schema;
          holds = subst (λ (d : Database). Holds d.trees table) (sym now) h.holds;
          settled = both.1 ∙ sym both.0;
        }

    pub failed_stands : (error : Error) → FailsTogether g rows old new error → IsTrue (state g new).is_open → Stands (state g new) table
    failed_stands error (inl outside) is_open = absurd (both_ways _ h.ready outside.0)
    failed_stands error (inr (mid, inl stop)) is_open = undone (state g mid) (keeps_stopped rows (begun old) mid error stop.0) stop.1 is_open
    failed_stands error (inr (mid, inr fails)) is_open = elim fails.1 [
      | inl failed ↦ undone (state g mid) (keeps_each rows (begun old) mid fails.0) failed.3 is_open
      | inr outside ↦ absurd (both_ways _ outside.1 (inside_each rows (begun old) mid refl fails.0))
    ]

    pub together_leaves : Settles (state g old) → HasCleanDisk (state g new) → Survives (state g old) (state g new) (CommitsTogether g rows old) → Leaves (state g new) table (with_rows rows table)
    together_leaves law clean survives db may = elim (survives.crash clean db may) [
      | inl before ↦ inl (left_of (state g old) table law h db before)
      | inr it ↦ inr (subst (λ (trees : Trees). Holds trees (with_rows rows table)) (sym it.2) (stages_each rows (begun old) it.0 table (begins old table h) it.1).holds)
    ]
