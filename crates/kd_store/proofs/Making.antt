-- What the statement that makes the table does to a connection.
use Rattle.std.proofs.Common.{◌≡◌, ◌⊎◌, inl, inr, ℕ, false, List, [], map, None, Ok, Err, Result, IsTrue, refl, sym, ap, subst, ◌∙◌}
use Rattle.std.specs.Prelude.{IsPermutation}
use Rattle.std.proofs.lemmas.List.Sorted.{IsPermutation-refl}
use Rattle.sqlite_trees.specs.Tree.{Trees}
use Rattle.sqlite_catalog.specs.Listing.{IsSound}
use Rattle.sqlite_catalog.proofs.ReadLemmas.{lists_once}
use Rattle.sqlite.specs.Change.{created, next_tree}
use Rattle.sqlite.specs.Effect.{Database}
use Rattle.sqlite.specs.Does.{Tally, Does, lacks_sequence}
use Rattle.sqlite.specs.Command.TheVariants.{CreateTable, Nothing}
use Rattle.sqlite.specs.Listing.{understood}
use Rattle.sqlite.specs.State.{State, HasCleanDisk, IsLive, IsUnchanged, Survives, Executes, CommitsBy, MayCommit, mode_of, text_of, Writes}
use Rattle.sqlite.proofs.Callers.{IsPlain, command_of, statement_of, runs_as}
use Rattle.kd_rows.specs.declared.row.Row.{Row}
use Rattle.kd_store.specs.Lease.{lease, lease_schema, no_schema, make_text}
use Rattle.kd_store.specs.Stands.{columns_in, Lists, Holds, Stands, Finds}
use Rattle.kd_store.specs.Statement.{IsSettled}
use Rattle.kd_store.proofs.Texts.{make_is, make_again, make_plain, again_plain}
use Rattle.kd_store.proofs.Puts.{went, same_value}
use Rattle.kd_store.proofs.States.{IsReady, Rests, after_error}

-- if there is no schema, the text makes ours, and an empty table
made_of : (old : State) (after : Database) (text : List ℕ) (tally : Tally) → text ≡ make_text → old.now.schema ≡ no_schema → Does old.step_limit (mode_of old) [] old.now text None CreateTable (Ok (tally, after))
    → (after.schema ≡ lease_schema) × (after.trees 0 ≡ [])
made_of old after text tally same has does =
    let all = went (subst (λ t. Does old.step_limit (mode_of old) [] old.now t None CreateTable (Ok (tally, after))) same does) in
    let first = went all.1 in
    let made = first.1 in
    let both : ◌≡◌ {A = Result _ _} (Ok made.table) (Ok lease) = sym made.defined ∙ make_is.2 in
    let same : made.table ≡ lease = cc in
    let schema : first.0.schema ≡ lease_schema = made.is ∙ ap (λ s. created s made.table) has ∙ ap (created no_schema) same in
    let plain : lacks_sequence first.0.schema ≡ false = ap lacks_sequence schema in
    let now : after ≡ first.0 = ap (λ (p : Tally × Database). p.1) (same_value all.2) ∙ same_value (rw plain at first.2) in
    (ap (λ (d : Database). d.schema) now ∙ schema, ap (λ (d : Database). d.trees 0) now ∙ subst (λ s. first.0.trees (next_tree s) ≡ []) has made.empty)

lists_none : (trees : Trees) → trees 0 ≡ [] → Lists trees []
lists_none trees none = record { rise = tt; same = subst (λ l. IsPermutation [] (map columns_in l)) (sym none) (IsPermutation-refl []) }

pub makes : (old new : State) (count : ℕ) → old.in_transaction ≡ false → old.now.schema ≡ no_schema → Executes make_text [] old new (Ok count) → Stands new []
makes old new count ready has ran =
    let w = subst (λ t. Writes old new None CreateTable t [] count) make_is.1 (runs_as make_text [] old new no_schema has CreateTable make_is.0 make_plain count ran) in
    let made = made_of old new.now make_text w.tally refl has w.changed in
    record {
      is_open = w.shown.is_open;
      ready = w.shown.mode ∙ ready;
      schema = made.0;
      holds = (subst (λ s. IsSound s new.now.trees) made.0 w.sound, lists_none new.now.trees made.1);
      settled = rw ready at w.shown.committed_is;
    }

pub again : (old new : State) (count : ℕ) → old.in_transaction ≡ false → old.now.schema ≡ lease_schema → IsLive old → IsSettled old → Executes make_text [] old new (Ok count) → IsReady new × IsUnchanged old new
again old new count ready has live settled ran =
    let u = (runs_as make_text [] old new lease_schema has Nothing make_again again_plain count ran).0 in (
      record {
        is_open = u.0.is_open;
        ready = u.0.mode ∙ ready;
        schema = ap (λ (d : Database). d.schema) u.0.now_is ∙ has;
        sound = subst (λ (d : Database). IsSound lease_schema d.trees) (sym u.0.now_is) (subst (λ s. IsSound s old.now.trees) has (live u.0.was_open).0);
        settled = u.0.committed_is ∙ sym (settled u.0.was_open) ∙ sym u.0.now_is;
      },
      u,
    )

-- a connection whose trees hold a table has our schema
pub ours : (s : State) (table : List Row) → IsLive s → IsTrue s.is_open → Holds s.now.trees table → s.now.schema ≡ lease_schema
ours s table live is_open h = lists_once _ s.now.schema lease_schema (live is_open).0.lists h.0.lists

pub makes_found : (old new : State) (count : ℕ) (table : List Row) → old.in_transaction ≡ false → IsLive old → IsSettled old → Finds old table → Executes make_text [] old new (Ok count) → Stands new table
makes_found old new count table ready live settled (inl none) ran = subst (Stands new) (sym none.1) (makes old new count ready none.0 ran)
makes_found old new count table ready live settled (inr there) ran =
    let it = again old new count ready (ours old table live there.0 there.1) live settled ran in
    record { is_open = it.0.is_open; ready = it.0.ready; schema = it.0.schema; holds = subst (λ (d : Database). Holds d.trees table) (sym it.1.0.now_is) there.1; settled = it.0.settled }

-- after a statement that failed, the same table is found
finds_same : (old new : State) (table : List Row) → Finds old table → new.now ≡ old.now → IsTrue new.is_open → Finds new table
finds_same old new table (inl none) same is_open = inl (ap (λ (d : Database). d.schema) same ∙ none.0, none.1)
finds_same old new table (inr there) same is_open = inr (is_open, subst (λ (d : Database). Holds d.trees table) (sym same) there.1)

rests_found : (old new : State) (table : List Row) → IsSettled old → Finds old table → Rests old new → IsTrue new.is_open → Finds new table
rests_found old new table settled h (inl u) is_open = finds_same old new table h u.0.now_is is_open
rests_found old new table settled h (inr u) is_open = finds_same old new table h ((u.undone is_open).0 ∙ sym (settled (u.was_open is_open))) is_open

pub fails_found : (old new : State) (table : List Row) (e : _) → IsSettled old → Finds old table → Executes make_text [] old new (Err e) → IsTrue new.is_open → Finds new table
fails_found old new table e settled h ran = rests_found old new table settled h (after_error old new make_text [] e ran)

make_commits : (old : State) (table : List Row) (db : Trees) → IsLive old → Finds old table → CommitsBy make_text [] old db → Holds db table
unfolding CommitsBy
make_commits old table db live (inl none) h =
    let known = sym h.1.is ∙ ap (λ x. understood x make_text) none.0 in
    let bare = subst IsPlain (sym known) make_plain in
    let m = rw (bare.0, bare.1) at h.2 in
    let may = subst (λ k. MayCommit old None k (text_of make_text h.0) [] db) (ap command_of known ∙ make_is.0) m in
    elim may [
      | inl other ↦ absurd (elim other.0 [ inl commits ↦ (let e = commits in cc) | inr releases ↦ (let e = releases.2 in cc) ])
      | inr w ↦ let made = made_of old w.2 (text_of make_text h.0) w.1 (ap (statement_of make_text) known ∙ make_is.1) none.0 w.3 in
          subst (λ t. Holds db t) (sym none.1) (subst (λ trees. Holds trees []) (sym w.5) (subst (λ k. IsSound k w.2.trees) made.0 w.4, lists_none w.2.trees made.1))
    ]
make_commits old table db live (inr there) h =
    let known = sym h.1.is ∙ ap (λ x. understood x make_text) (ours old table live there.0 there.1) in
    let bare = subst IsPlain (sym known) again_plain in
    let m = rw (bare.0, bare.1) at h.2 in
    let may = subst (λ k. MayCommit old None k (text_of make_text h.0) [] db) (ap command_of known ∙ make_again) m in
    elim may [
      | inl other ↦ absurd (elim other.0 [ inl commits ↦ (let e = commits in cc) | inr releases ↦ (let e = releases.2 in cc) ])
      | inr w ↦ absurd (let e = w.3 in cc)
    ]

pub make_leaves : (old new : State) (table : List Row) → IsLive old → HasCleanDisk new → Finds old table → Survives old new (CommitsBy make_text [] old) → (db : Trees) → new.may_leave db → old.may_leave db ⊎ Holds db table
make_leaves old new table live clean h survives db may = elim (survives.crash clean db may) [ inl before ↦ inl before | inr commits ↦ inr (make_commits old table db live h commits) ]
