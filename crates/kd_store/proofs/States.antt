-- What is true of a connection at a table after a call.
use Rattle.std.proofs.Common.{◌≡◌, ◌⊎◌, inl, inr, ℕ, false, List, Some, None, Option, Ok, Err, IsTrue, sym, ap, subst, ◌∙◌, append-nil}
use Rattle.std.proofs.lemmas.Bool.{cases_Bool}
use Rattle.sqlite_value.specs.Order.{Row as Columns}
use Rattle.sqlite_trees.specs.Tree.{Trees}
use Rattle.sqlite_catalog.specs.Listing.{IsSound}
use Rattle.sqlite_schema.specs.declared.command.Returning.{Returning}
use Rattle.sqlite_resolve.specs.declared.compiled.Compiled.{Compiled}
use Rattle.sqlite.specs.declared.error.Error.{Error}
use Rattle.sqlite.specs.Effect.{Database}
use Rattle.sqlite.specs.Clock.{timed}
use Rattle.sqlite.specs.Listing.{understood}
use Rattle.sqlite.specs.State.{State, HasCleanDisk, IsUnchanged, IsRolledBack, Survives, IsNotRun, ExecutesIn, Executes, CommitsBy, MayCommit, text_of, shows_rows, RunsCommand, FailsToQuery, FailsToShow}
use Rattle.sqlite.proofs.Callers.{IsPlain, command_of, statement_of, runs_as}
use Rattle.kd_rows.specs.declared.row.Row.{Row}
use Rattle.kd_rows.specs.Table.{with_row}
use Rattle.kd_store.specs.Lease.{lease_schema, put_text, columns_of}
use Rattle.kd_store.specs.Stands.{Holds, Stands, Leaves}
use Rattle.kd_store.proofs.Texts.{put_is, put_plain}
use Rattle.kd_store.proofs.Puts.{does}

-- while the connection is open, a crash leaves what is committed
abbrev pub Settles : State → Type 0
Settles s = (db : Trees) → IsTrue s.is_open → s.may_leave db → db ≡ s.committed.trees

pub left_of : (s : State) (table : List Row) → Settles s → Stands s table → (db : Trees) → s.may_leave db → Holds db table
left_of s table law h db may = subst (λ trees. Holds trees table) (sym (law db h.is_open may ∙ ap (λ (d : Database). d.trees) h.settled)) h.holds

-- if it is at a table, a crash leaves only that table
pub leaves_one : (s : State) (table : List Row) → Settles s → Stands s table → Leaves s table table
leaves_one s table law h db may = inl (left_of s table law h db may)

-- a connection is open, in no transaction, and what it has committed is a database with our schema
pub record IsReady (s : State) : Type 0 where
  pub is_open : IsTrue s.is_open
  pub ready : s.in_transaction ≡ false
  pub schema : s.now.schema ≡ lease_schema
  pub sound : IsSound lease_schema s.now.trees
  pub settled : s.committed ≡ s.now

-- ---- nothing has changed, or all is undone

pub stands_same : (old new : State) (table : List Row) → Stands old table → IsUnchanged old new → Stands new table
stands_same old new table h u = record {
  is_open = u.0.is_open;
  ready = u.0.mode ∙ h.ready;
  schema = ap (λ (d : Database). d.schema) u.0.now_is ∙ h.schema;
  holds = subst (λ (d : Database). Holds d.trees table) (sym u.0.now_is) h.holds;
  settled = u.0.committed_is ∙ h.settled ∙ sym u.0.now_is;
}

-- if nothing has changed forwards, nothing has changed backwards
pub same_back : (old new : State) → IsUnchanged old new → IsUnchanged new old
same_back old new u = (
  record { was_open = u.0.is_open; is_open = u.0.was_open; now_is = sym u.0.now_is; committed_is = sym u.0.committed_is; mode = sym u.0.mode },
  record { changes = sym u.1.changes; last_rowid = sym u.1.last_rowid },
  sym u.2,
)

pub stands_back : (old new : State) (table : List Row) → Stands old table → IsRolledBack old new → IsTrue new.is_open → Stands new table
stands_back old new table h u is_open =
    let undone = u.undone is_open in
    let now = undone.0 ∙ h.settled in
    record {
      is_open = is_open;
      ready = u.autocommit;
      schema = ap (λ (d : Database). d.schema) now ∙ h.schema;
      holds = subst (λ (d : Database). Holds d.trees table) (sym now) h.holds;
      settled = undone.1 ∙ sym undone.0;
    }

abbrev pub Rests : State → State → Type 0
Rests old new = IsUnchanged old new ⊎ IsRolledBack old new

pub stands_rests : (old new : State) (table : List Row) → Stands old table → Rests old new → IsTrue new.is_open → Stands new table
stands_rests old new table h (inl same) is_open = stands_same old new table h same
stands_rests old new table h (inr back) is_open = stands_back old new table h back is_open

not_run : (old new : State) (sql : List ℕ) (params : Columns) (e : Error) → IsNotRun old new sql params e → Rests old new
unfolding IsNotRun
not_run old new sql params e (inl h) = inl h.1
not_run old new sql params e (inr h) = inr h.3

refused : (old new : State) (sql : List ℕ) (c : Compiled) (params : Columns) (e : Error) → RunsCommand old new sql c params (Err e) → Rests old new
refused old new sql c params e (inl h) = inl h.1
refused old new sql c params e (inr h) = inr h.3

pub after_error : (old new : State) (sql : List ℕ) (params : Columns) (e : Error) → Executes sql params old new (Err e) → Rests old new
unfolding ExecutesIn
after_error old new sql params e (inl h) = not_run old new sql params e h
after_error old new sql params e (inr h) = elim (cases_Bool (shows_rows false h.0)) [
  | inl shows ↦ inl (rw shows at h.2).1
  | inr runs ↦ refused old new sql h.0 _ e (rw runs at h.2)
]

pub after_query_error : (old new : State) (sql : List ℕ) (params : Columns) (e : Error) → FailsToQuery sql params old new e → Rests old new
unfolding FailsToQuery
after_query_error old new sql params e (inl h) = not_run old new sql params e h
after_query_error old new sql params e (inr h) = by h.0.returning h.2
  where
    by : (returning : Option Returning) → FailsToShow old new sql h.0 (timed params h.0.formats h.1.now) e returning → Rests old new
    by None k = inl k.3
    by (Some what) k = refused old new sql h.0 _ e k

-- ---- a row is set

pub put_stands : (old new : State) (row : Row) (count : ℕ) (table : List Row) → Stands old table → Executes put_text (columns_of row) old new (Ok count) → Stands new (with_row row table)
put_stands old new row count table h ran =
    let w = runs_as put_text (columns_of row) old new lease_schema h.schema _ put_is put_plain count ran in
    let made = does old.step_limit row old.now new.now (statement_of put_text (understood lease_schema put_text)) w.tally table h.schema h.holds.1 w.changed in
    record {
      is_open = w.shown.is_open;
      ready = w.shown.mode ∙ h.ready;
      schema = made.0;
      holds = (subst (λ s. IsSound s new.now.trees) made.0 w.sound, made.1);
      settled = rw h.ready at w.shown.committed_is;
    }

pub put_commits : (old : State) (row : Row) (table : List Row) (db : Trees) → Stands old table → CommitsBy put_text (columns_of row) old db → Holds db (with_row row table)
unfolding CommitsBy
put_commits old row table db s h =
    let known = sym h.1.is ∙ ap (λ x. understood x put_text) s.schema in
    let bare = subst IsPlain (sym known) put_plain in
    let m = rw (bare.0, bare.1, append-nil (columns_of row)) at h.2 in
    let may = subst (λ k. MayCommit old None k (text_of put_text h.0) (columns_of row) db) (ap command_of known ∙ put_is) m in
    elim may [
      | inl other ↦ absurd (elim other.0 [ inl commits ↦ (let e = commits in cc) | inr releases ↦ (let e = releases.2 in cc) ])
      | inr w ↦ let made = does old.step_limit row old.now w.2 (text_of put_text h.0) w.1 table s.schema s.holds.1 w.3 in
          subst (λ trees. Holds trees (with_row row table)) (sym w.5) (subst (λ k. IsSound k w.2.trees) made.0 w.4, made.1)
    ]

pub put_leaves : (old new : State) (row : Row) (table : List Row) → Settles old → HasCleanDisk new → Stands old table → Survives old new (CommitsBy put_text (columns_of row) old) → Leaves new table (with_row row table)
put_leaves old new row table law clean h survives db may = elim (survives.crash clean db may) [ inl before ↦ inl (left_of old table law h db before) | inr commits ↦ inr (put_commits old row table db h commits) ]
