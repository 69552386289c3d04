-- The query's rows, read one at a time.
use Rattle.std.proofs.Common.{◌≡◌, ◌≤◌, inl, inr, ℕ, true, false, Bool, List, [], ◌∷◌, ◌++◌, Some, None, Option, Ok, Err, Result, IfOk, IsTrue, refl, sym, subst, ◌∙◌, if◌then◌else◌}
use Rattle.std.specs.Prelude.{IsSome}
use Rattle.sqlite_value.specs.Order.{Row as Columns}
use Rattle.sqlite_trees.specs.Tree.{Trees}
use Rattle.sqlite_trees.specs.declared.store.Store.{Ghosts}
use Rattle.sqlite_schema.specs.declared.schema.Schema.{Schema}
use Rattle.sqlite_schema.specs.declared.command.Command.{Command}
use Rattle.sqlite_schema.specs.declared.command.Returning.{Returning}
use Rattle.sqlite_resolve.specs.declared.compiled.Compiled.{Compiled}
use Rattle.sqlite_resolve.specs.declared.error.CompileError.TheVariants.{NoSuchTable}
use Rattle.sqlite_resolve.specs.Lowering.{Checked, and_then}
use Rattle.sqlite_resolve.specs.Compile.{first, returning, planned, meaning, with_command, compiled}
use Rattle.sqlite_tied.specs.Compute.{everything}
use Rattle.sqlite.specs.declared.error.Error.{Error}
use Rattle.sqlite.specs.Effect.{Database, RefusesToRead}
use Rattle.sqlite.specs.Clock.{timed}
use Rattle.sqlite.specs.Held.{Held, state}
use Rattle.sqlite.specs.Given.{Returns, HasGiven, HasBegun}
use Rattle.sqlite.specs.Listing.{listing_schema, is_select, if_select, reads_listing, understood, IsSourceOf}
use Rattle.sqlite.specs.State.{State, IsUnchanged, Survives, IsStatement, IsNotRun, FailsToShow, FailsToQuery, Shown, ShowsRows, Begins, CommitsShowing}
use Rattle.sqlite.proofs.Callers.{given_begin, unchanged_then}
use Rattle.sqlite.proofs.StateLemmas.{survives_then, survives_weaker}
use Rattle.sqlite.proofs.StreamLemmas.{fails_since}
use Rattle.kd_keeps.specs.declared.fault.StoreFault.{StoreFault}
use Rattle.kd_rows.specs.declared.row.Row.{Row}
use Rattle.kd_store.specs.Lease.{rows_text}
use Rattle.kd_keeps.specs.declared.fault.StoreFault.TheVariants as faults
use Rattle.kd_store.specs.Fault.{IsStrange, AreUnread}
use Rattle.kd_store.specs.Statement.{AreShown, GoesOn, ReadsTable}
use Rattle.kd_store.proofs.Strange.{strange_row}

-- ---- whatever the schema is, the query's text is not a write

abbrev Plan : Type 0
Plan = List (List ℕ) × (Command × Option Returning)

abbrev ShowsNone : Checked Plan → Type 0
ShowsNone (Ok plan) = plan.1.1 ≡ None
ShowsNone (Err e) = Unit {0}

rows_query : IfOk (first rows_text) (λ p. (schema : Schema) (base : ℕ) → returning schema base p.statement ≡ Ok None)
unfolding everything
rows_query schema base = refl

meaning_none : (shown : Checked (Option Returning)) → shown ≡ Ok None → (found : Checked Command) (formats : List (List ℕ))
    → ShowsNone (and_then (and_then shown (λ o. and_then found (λ c. Ok (c, o)))) (λ both. Ok (formats, both)))
meaning_none (Ok o) is (Ok c) formats = cc
meaning_none (Ok o) is (Err e) formats = tt
meaning_none (Err e) is found formats = absurd cc

weaker : {P E : Type 0} (A B : P → Type 0) (r : Result P E) → ((p : P) → A p → B p) → IfOk r A → IfOk r B
weaker A B (Ok p) f h = f p h
weaker A B (Err e) f h = tt

planned_none : (schema : Schema) → IfOk (first rows_text) (λ p. ShowsNone (planned schema p))
unfolding planned meaning
planned_none schema = weaker _ _ (first rows_text) (λ p query. meaning_none _ (query schema _) _ _) rows_query

compiled_so : {P : Type 0} (r : Checked P) (plans : P → Checked Plan) (with : P → Plan → Compiled) → ((p : P) (plan : Plan) → (with p plan).returning ≡ plan.1.1)
    → IfOk r (λ p. ShowsNone (plans p)) → ¬ Returns (and_then r (λ p. and_then (plans p) (λ plan. Ok (with p plan))))
compiled_so (Ok p) plans with keeps none = by (plans p) none
  where
    by : (r : Checked Plan) → ShowsNone r → ¬ Returns (and_then r (λ plan. Ok (with p plan)))
    by (Ok plan) is h = absurd (let none = subst IsSome (keeps p plan ∙ is) h in cc)
    by (Err e) is h = h
compiled_so (Err e) plans with keeps none = λ h. h

compiled_none : (schema : Schema) → ¬ Returns (compiled schema rows_text)
unfolding compiled
compiled_none schema = compiled_so (first rows_text) (planned schema) with_command (λ p plan. refl) (planned_none schema)

only_select : (r : Checked Compiled) → ¬ Returns r → ¬ Returns (if_select r)
only_select (Ok c) none h = by (is_select c.command) h
  where
    by : (b : Bool) → ¬ Returns (if b then Ok c else Err NoSuchTable)
    by true k = none k
    by false k = k
only_select (Err e) none h = h

either : (b : Bool) (r q : Checked Compiled) → ¬ Returns r → ¬ Returns q → ¬ Returns (if b then r else q)
either true r q one two = one
either false r q one two = two

pub rows_only_read : (schema : Schema) → ¬ Returns (understood schema rows_text)
unfolding understood
rows_only_read schema = either _ _ _ (only_select _ (compiled_none listing_schema)) (compiled_none schema)

no_rows_of : (o : Option Returning) → ¬ IsSome o → o ≡ None
no_rows_of None h = refl
no_rows_of (Some r) h = absurd (h refl)

none_returned : (schema : Schema) (c : Compiled) → understood schema rows_text ≡ Ok c → c.returning ≡ None
none_returned schema c is = no_rows_of c.returning (λ some. rows_only_read schema (subst Returns (sym is) some))

-- so it commits nothing
no_commit : (old : State) (db : Trees) → ¬ CommitsShowing rows_text [] old db
unfolding CommitsShowing
no_commit old db h = rows_only_read old.now.schema (subst Returns (sym h.1.is) h.2)

pub rows_survive : (old new : State) → Survives old new (CommitsShowing rows_text [] old) → Survives old new (λ _. ⊥)
rows_survive old new = survives_weaker old new _ _ (λ _ db h. no_commit old db h)

-- and it begins with nothing given
pub rows_begun : {S : Type 0} (g : Ghosts S) (old new : Held S) → HasBegun g rows_text [] old new → HasGiven g rows_text [] new [] × IsUnchanged (state g old) (state g new)
rows_begun g old new (inl h) = h
rows_begun g old new (inr h) = absurd (rows_only_read old.schema h.0)

-- ---- what it shows after calls that changed nothing, it also shows of the connection before them

module _ (old mid new : State) (same : IsUnchanged old mid) where
  abbrev since : (c : Compiled) → IsStatement mid rows_text [] c → IsStatement old rows_text [] c
  since c h = record { is = subst (λ (d : Database). understood d.schema rows_text ≡ Ok c) same.0.now_is h.is; whole = h.whole; given = h.given; now = h.now }

  source_since : (db : Database) → IsSourceOf (reads_listing mid.now.schema rows_text) mid.now db → IsSourceOf (reads_listing old.now.schema rows_text) old.now db
  source_since db = subst (λ (d : Database). IsSourceOf (reads_listing d.schema rows_text) d db) same.0.now_is

  pub shown_since : (rows : List Columns) → Shown rows_text [] mid new rows → Shown rows_text [] old new rows
  unfolding Shown
  shown_since rows h =
      let none = none_returned mid.now.schema h.0 h.1.is in
      let full = timed [] h.0.formats h.1.now in
      let it = subst (ShowsRows mid new rows_text h.0 full rows) none h.2 in
      (h.0, since h.0 h.1, subst (ShowsRows old new rows_text h.0 full rows) (sym none) (it.0, source_since it.0 it.1, it.2, unchanged_then old mid new same it.3))

  pub begins_since : (rows : List Columns) → Begins rows_text [] mid rows → Begins rows_text [] old rows
  unfolding Begins
  begins_since rows h = (h.0, since h.0 h.1, h.2, h.3, source_since h.3 h.4, h.5)

  module _ (counts : old.faults ≤ mid.faults) (limit : mid.step_limit ≡ old.step_limit) where
    pub fails_to_query_since : (e : Error) → FailsToQuery rows_text [] mid new e → FailsToQuery rows_text [] old new e
    unfolding FailsToQuery IsNotRun
    fails_to_query_since e (inl (inl h)) = inl (inl (rw (← same.0.now_is) h.0, unchanged_then old mid new same h.1))
    fails_to_query_since e (inl (inr h)) = inl (inr (fails_since old mid new same counts e h))
    fails_to_query_since e (inr h) =
        let none = none_returned mid.now.schema h.0 h.1.is in
        let full = timed [] h.0.formats h.1.now in
        let it = subst (FailsToShow mid new rows_text h.0 full e) none h.2 in
        inr (
          h.0,
          since h.0 h.1,
          subst (FailsToShow old new rows_text h.0 full e) (sym none)
              (it.0, source_since it.0 it.1, subst (λ l. RefusesToRead l h.0.command it.0 full e) limit it.2, unchanged_then old mid new same it.3),
        )

    pub all_since : {V : Type 0} (items : V → List Row) (r : Result V StoreFault) → ReadsTable items mid new r → ReadsTable items old new r
    all_since items (Ok v) h = (h.0, shown_since h.0 h.1, h.2)
    all_since items (Err fault) (inl h) = inl (h.0, h.1, fails_to_query_since h.0 h.2)
    all_since items (Err fault) (inr h) = inr (unchanged_then old mid new same h.0, elim h.1 [ inl memory ↦ inl memory | inr strange ↦ inr (strange.0, strange.1, begins_since strange.1 strange.2, strange.3) ])

-- rows that it gives first, since which nothing has changed, and that are not the beginning of any
-- table of leases
pub strange_since : {S : Type 0} (g : Ghosts S) (old new : Held S) (given : List Columns) → IsUnchanged (state g old) (state g new) → HasGiven g rows_text [] new given → IsStrange given
    → AreUnread (state g old) (state g new) faults.Schema
strange_since g old new given same has strange = inr (same, inr (refl, given, begins_since (state g old) (state g new) (state g new) same given (given_begin g rows_text [] new given has), strange))

-- the next row is not read
pub next_unread : {S : Type 0} (g : Ghosts S) (old mid new : Held S) (given : List Columns) (fault : StoreFault) → IsUnchanged (state g old) (state g mid) → (state g old).faults ≤ (state g mid).faults
    → (state g mid).step_limit ≡ (state g old).step_limit → GoesOn g mid new given (Err fault) → AreUnread (state g old) (state g new) fault
next_unread g old mid new given fault same counts limit (inl h) = inl (h.0, h.1, fails_to_query_since (state g old) (state g mid) (state g new) same counts limit h.0 h.2)
next_unread g old mid new given fault same counts limit (inr h) =
    let still = unchanged_then (state g old) (state g mid) (state g new) same h.3 in
    elim h.1 [
      | inl memory ↦ inr (still, inl memory)
      | inr strange ↦ subst (AreUnread (state g old) (state g new)) (sym strange.0) (strange_since g old new (given ++ h.0 ∷ []) still h.2 (strange_row given h.0 strange.1))
    ]

-- reading the query's rows changes nothing
pub shown_same : (old new : State) (rows : List Row) → AreShown old new rows → IsUnchanged old new
unfolding Shown
shown_same old new rows h =
    let it = h.1 in
    let none = none_returned old.now.schema it.0 it.1.is in
    (subst (ShowsRows old new rows_text it.0 (timed [] it.0.formats it.1.now) h.0) none it.2).3

-- ---- all the rows of a query that has just begun

pub all_read : {S V : Type 0} (g : Ghosts S) (items : V → List Row) (r : Result V StoreFault) (old mid new : Held S) → HasBegun g rows_text [] old mid
    → Survives (state g old) (state g mid) (CommitsShowing rows_text [] (state g old))
    → (HasGiven g rows_text [] mid [] → IsTrue (state g mid).is_open → ReadsTable items (state g mid) (state g new) r) → ReadsTable items (state g old) (state g new) r
all_read g items r old mid new begun one h =
    let has = rows_begun g old mid begun in
    all_since (state g old) (state g mid) (state g new) has.1 one.counts one.limit items r (h has.0 has.1.0.is_open)

-- it commits nothing
pub rows_survive_all : (old mid new : State) → Survives old mid (CommitsShowing rows_text [] old) → Survives mid new (λ _. ⊥) → Survives old new (λ _. ⊥)
rows_survive_all old mid new one two = survives_then old mid new _ _ _ (λ _ db none. none) (λ _ db none. none) (rows_survive old mid one) two
