-- What a connection finds that is opened on what a crash left.
use Rattle.std.proofs.Common.{◌≡◌, ◌⊎◌, inl, inr, ℕ, Bool, true, false, ◌&&◌, ◌==◌, List, [], ◌∷◌, length, refl, sym, ap, ap₂, subst, ◌∙◌, true≢false, arith}
use Rattle.std.proofs.Math.Logic.{∥∥₁_elim, ∥∥₁_map, ⊎_elim}
use Rattle.std.proofs.lemmas.Bool.Decides.{nat_tests}
use Rattle.sqlite_disk.specs.declared.Disk.{Ghosts}
use Rattle.sqlite_catalog.proofs.ReadLemmas.{lists_once}
use Rattle.std.specs.Coded.{Coded-set}
use Rattle.sqlite_schema.specs.contracts.schema.Schema as schema
use Rattle.sqlite_schema.specs.declared.schema.Schema.{Schema}
use Rattle.sqlite.specs.Effect.{Database}
use Rattle.sqlite.specs.State.{State, IsLive, Opens}
use Rattle.sqlite.specs.Held.{AreDatabases}
use Rattle.sqlite_store.specs.FileStore as files
use Rattle.sqlite.proofs.Theorems.{next_run}
use Rattle.kd_rows.specs.declared.row.Row.{Row}
use Rattle.kd_rows.specs.Row.{state_number}
use Rattle.kd_store.specs.Lease.{lease_schema, no_schema}
use Rattle.kd_store.specs.Stands.{Holds, Finds, Stands}
use Rattle.kd_store.specs.Laws.{Reopens}
use Rattle.kd_store.proofs.Tables.{one_table, state_once}

-- what is found is what is held
found_held : (s : State) (found table : List Row) → Opens s → IsLive s → Finds s found → Holds s.committed.trees table → found ≡ table
found_held s found table opens live (inl none) h =
    let now : Holds s.now.trees table = subst (λ (d : Database). Holds d.trees table) (sym opens.clean) h in
    let same : lease_schema ≡ no_schema = sym (lists_once _ s.now.schema lease_schema (live opens.is_open).0.lists now.0.lists) ∙ none.0 in
    absurd (omega (arith, ap (λ (k : Schema). length k.tables) same))
found_held s found table opens live (inr there) h =
    one_table s.now.trees found table there.1.1 (subst (λ (d : Database). Holds d.trees table) (sym opens.clean) h).1

-- ---- whether two tables are the same

same_bytes : List ℕ → List ℕ → Bool
same_bytes [] [] = true
same_bytes [] (y ∷ ys) = false
same_bytes (x ∷ xs) [] = false
same_bytes (x ∷ xs) (y ∷ ys) = (x == y) && same_bytes xs ys

same_rows : List Row → List Row → Bool
same_rows [] [] = true
same_rows [] (y ∷ ys) = false
same_rows (x ∷ xs) [] = false
same_rows (x ∷ xs) (y ∷ ys) =
    (x.address == y.address) && (same_bytes x.client y.client && ((state_number x.state == state_number y.state) && ((x.changed == y.changed) && ((x.ends == y.ends) && same_rows xs ys))))

bytes_are : (xs ys : List ℕ) → same_bytes xs ys ≡ true → xs ≡ ys
unfolding same_bytes
bytes_are [] [] e = refl
bytes_are [] (y ∷ ys) e = absurd (true≢false (sym e))
bytes_are (x ∷ xs) [] e = absurd (true≢false (sym e))
bytes_are (x ∷ xs) (y ∷ ys) e =
    let head : x ≡ y = grind (arith, nat_tests) in
    let tail : same_bytes xs ys ≡ true = grind (arith, nat_tests) in
    ap₂ (λ a b. a ∷ b) head (bytes_are xs ys tail)

bytes_same : (xs : List ℕ) → same_bytes xs xs ≡ true
unfolding same_bytes
bytes_same [] = refl
bytes_same (x ∷ xs) = let rest = bytes_same xs in grind (arith, nat_tests)

rows_are : (xs ys : List Row) → same_rows xs ys ≡ true → xs ≡ ys
unfolding same_rows
rows_are [] [] e = refl
rows_are [] (y ∷ ys) e = absurd (true≢false (sym e))
rows_are (x ∷ xs) [] e = absurd (true≢false (sym e))
rows_are (x ∷ xs) (y ∷ ys) e =
    let address : x.address ≡ y.address = grind (arith, nat_tests) in
    let bytes : same_bytes x.client y.client ≡ true = grind (arith, nat_tests) in
    let number : state_number x.state ≡ state_number y.state = grind (arith, nat_tests) in
    let changed : x.changed ≡ y.changed = grind (arith, nat_tests) in
    let ends : x.ends ≡ y.ends = grind (arith, nat_tests) in
    let tail : same_rows xs ys ≡ true = grind (arith, nat_tests) in
    let client = bytes_are x.client y.client bytes in
    let state = state_once x.state y.state number in
    let head : x ≡ y = λ i. record { address = address i; client = client i; state = state i; changed = changed i; ends = ends i } in
    ap₂ (λ a b. a ∷ b) head (rows_are xs ys tail)

rows_same : (xs : List Row) → same_rows xs xs ≡ true
unfolding same_rows
rows_same [] = refl
rows_same (x ∷ xs) = let rest = rows_same xs in let client = bytes_same x.client in grind (arith, nat_tests)

-- one of two tables, if it is known to be one of them
one_of : (found before after : List Row) → ∥ (found ≡ before) ⊎ (found ≡ after) ∥₁ → (found ≡ before) ⊎ (found ≡ after)
one_of found before after some = by (same_rows found before) refl (same_rows found after) refl where
  other : (table : List Row) → same_rows found table ≡ false → found ≡ table → ⊥
  other table differs is = true≢false (sym (ap (same_rows found) (sym is) ∙ rows_same found) ∙ differs)

  by : (b : Bool) → same_rows found before ≡ b → (c : Bool) → same_rows found after ≡ c → (found ≡ before) ⊎ (found ≡ after)
  by true is c e = inl (rows_are found before is)
  by false differs true is = inr (rows_are found after is)
  by false differs false too = absurd (∥∥₁_elim some (λ a b. absurd a) (λ one. ⊎_elim (other before differs) (other after too) one))

-- what holds a table has our schema
ours_held : (s : State) (table : List Row) → Opens s → IsLive s → Holds s.committed.trees table → s.now.schema ≡ lease_schema
ours_held s table opens live h = lists_once _ s.now.schema lease_schema (live opens.is_open).0.lists (subst (λ (d : Database). Holds d.trees table) (sym opens.clean) h).0.lists

pub reopens : {D E : Type 0} (g : Ghosts D) (h : Ghosts E) → Reopens g h
reopens g h it before after numbered one image may opened is finds_in =
    let sound : AreDatabases (files.recovers it) = λ db from. (lease_schema, ⊎_elim (λ was. was.0) (λ now. now.0) (one db from)) in
    let left = next_run it numbered sound image may _ finds_in in (
      ∥∥₁_elim left (Coded-set schema.the_row.coded _ _) (λ db. ⊎_elim (ours_held _ before is.0 is.1) (ours_held _ after is.0 is.1) (one _ db)),
      λ found finds.
          one_of found before after (∥∥₁_map left (λ db. ⊎_elim (λ was. inl (found_held _ found before is.0 is.1 finds was)) (λ now. inr (found_held _ found after is.0 is.1 finds now)) (one _ db))),
    )

-- a connection is at only one table
pub stands_once : (s : State) (table other : List Row) → Stands s table → Stands s other → table ≡ other
stands_once s table other a b = one_table s.now.trees table other a.holds.1 b.holds.1
