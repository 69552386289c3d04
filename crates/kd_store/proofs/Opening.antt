-- What a connection is after a store was opened over it, or was not.
use Rattle.std.proofs.Common.{◌≡◌, inl, inr, ℕ, false, List, [], Ok, Err, refl, subst, arith}
use Rattle.std.proofs.Math.Logic.{⊎_elim}
use Rattle.sqlite.specs.declared.error.Error.{Error}
use Rattle.sqlite.specs.Effect.{Database}
use Rattle.sqlite.specs.Held.{Held, state}
use Rattle.sqlite.specs.State.{State, CommitsBy, Executes, HasCleanDisk, IsLive, Survives}
use Rattle.sqlite_trees.specs.declared.store.Store.{Ghosts}
use Rattle.kd_keeps.specs.declared.fault.StoreFault.{StoreFault}
use Rattle.kd_keeps.specs.declared.fault.StoreFault.TheVariants.{Sql}
use Rattle.kd_rows.specs.declared.row.Row.{Row}
use Rattle.kd_rows.specs.Table.{Rise}
use Rattle.kd_store.specs.Fault.{AreUnread, cause_of}
use Rattle.kd_store.specs.Lease.{lease_schema, make_text}
use Rattle.kd_store.specs.Opening.{GivesBack, OpensAt}
use Rattle.kd_store.specs.Stands.{Finds, Holds, Leaves, Stands}
use Rattle.kd_store.specs.Statement.{AreShown, IsSettled}
use Rattle.kd_store.proofs.Beside.{stays, stays_same}
use Rattle.kd_store.proofs.Making.{again, fails_found, make_leaves, makes_found}
use Rattle.kd_store.proofs.Reading.{finds_table, read_leaves, reads_table, unread_rests}
use Rattle.kd_store.proofs.States.{Settles, after_error, leaves_one, same_back, stands_rests, stands_same}
use Rattle.kd_store.proofs.Streaming.{shown_same}

-- the rows that were read are those of the table that a connection is at
pub rows_are : (made new : State) (rows table : List Row) → Settles new → AreShown made new rows → Rise rows → Stands new table → (rows ≡ table) × Leaves new table table
rows_are made new rows table law shown rise h =
    let before = stands_same new made table h (same_back made new (shown_same made new rows shown)) in
    (reads_table made new rows table before shown rise, leaves_one new table law h)

module _ {S : Type 0} (g : Ghosts S) (old made : Held S) (ready : old.in_transaction ≡ false) (live : IsLive (state g old)) (settled : IsSettled (state g old))
    (first : Survives (state g old) (state g made) (CommitsBy make_text [] (state g old))) where
  pub makes_none : (error : Error) → (HasCleanDisk (state g made) → Executes make_text [] (state g old) (state g made) (Err error)) → GivesBack g (Sql (cause_of error)) old made
  makes_none error ran = record {
    clean = λ clean. omega (arith, first.clean, clean);
    found = λ clean table h. fails_found (state g old) (state g made) table error settled h (ran clean);
    crash = λ clean table h. make_leaves (state g old) (state g made) table live clean h first;
    stays = λ clean is_open. inl (stays_same (state g old) (state g made) settled (after_error (state g old) (state g made) make_text [] error (ran clean)) is_open);
    why = λ clean. inl (error, refl, ran clean);
  }

  module _ (count : ℕ) (ran : HasCleanDisk (state g made) → Executes make_text [] (state g old) (state g made) (Ok count)) (new : Held S) (second : Survives (state g made) (state g new) (λ _. ⊥)) where
    abbrev mid : HasCleanDisk (state g new) → HasCleanDisk (state g made)
    mid clean = omega (arith, second.clean, clean)

    made_at : (table : List Row) → HasCleanDisk (state g new) → Finds (state g old) table → Stands (state g made) table
    made_at table clean h = makes_found (state g old) (state g made) count table ready live settled h (ran (mid clean))

    ours : (rows : List Row) → AreShown (state g made) (state g new) rows → Rise rows → HasCleanDisk (state g new) → (state g old).now.schema ≡ lease_schema → Finds (state g old) rows
    ours rows shown rise clean has =
        let it = again (state g old) (state g made) count ready has live settled (ran (mid clean)) in
        let stands = finds_table (state g made) (state g new) rows it.0 shown rise in
        inr (it.1.0.was_open, subst (λ (d : Database). Holds d.trees rows) it.1.0.now_is stands.holds)

    pub opens_at : (rows : List Row) → (HasCleanDisk (state g new) → AreShown (state g made) (state g new) rows) → Rise rows → OpensAt (state g old) (state g new)
    opens_at rows shown rise = record {
      clean = λ clean. omega (arith, first.clean, second.clean, clean);
      stands = λ clean table h. stands_same (state g made) (state g new) table (made_at table clean h) (shown_same (state g made) (state g new) rows (shown clean));
      finds = λ clean has. elim has [ inl none ↦ ([], inl (none, refl)) | inr is ↦ (rows, ours rows (shown clean) rise clean is) ];
    }

    pub reads_none : (fault : StoreFault) → (HasCleanDisk (state g new) → AreUnread (state g made) (state g new) fault) → Settles (state g made) → GivesBack g fault old new
    reads_none fault unread law = record {
      clean = λ clean. omega (arith, first.clean, second.clean, clean);
      found = λ clean table h is_open.
          let s = stands_rests (state g made) (state g new) table (made_at table clean h) (unread_rests (state g made) (state g new) fault (unread clean)) is_open in
          inr (s.is_open, s.holds);
      crash = λ clean table h db may. inr (⊎_elim (λ x. x) (λ x. x) (read_leaves (state g made) (state g new) table law clean (made_at table clean h) second db may));
      stays = λ clean is_open. stays (state g old) (state g made) count ready settled (ran (mid clean)) (state g new) (unread_rests (state g made) (state g new) fault (unread clean)) is_open;
      why = λ clean. inr (made, count, ran (mid clean), unread clean);
    }
