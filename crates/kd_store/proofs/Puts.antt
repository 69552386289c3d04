-- What the statement that sets a row does to the trees.
use Rattle.std.proofs.Common.{◌≡◌, ◌⊎◌, inl, inr, ℕ, ℤ, pos, Bool, true, false, not, cond, List, [], ◌∷◌, ◌++◌, map, length, ◌&&◌, ◌||◌, drop, refl, sym, ap, ap₂, subst, subst₂, ◌∙◌, arith, ◌==◌, Some, None, Option, Ok, Err, Result, true≢false}
use Rattle.std.specs.Prelude.{flat_map}
use Rattle.std.specs.List.{AllByRecursion, list_any}
use Rattle.std.specs.Ordering.{is_eq}
use Rattle.std.proofs.lemmas.Bool.Decides.{nat_tests}
use Rattle.std.proofs.lemmas.List.{length-map}
use Rattle.std.proofs.lemmas.List.Sorted.{length_permutation, list_any-IsPermutation}
use Rattle.sqlite_value.specs.declared.value.Value.{Value}
use Rattle.sqlite_value.specs.declared.value.Value.TheVariants.{Null, Int, Blob as Bytes}
use Rattle.sqlite_value.specs.Order.{Row as Columns, value_cmp}
use Rattle.sqlite_value.specs.Keys.{first_key}
use Rattle.sqlite_sql.specs.Ops.{unary, binary, is_true, from_truth}
use Rattle.sqlite_sql.specs.declared.ops.BinaryOp.TheVariants.{Compare}
use Rattle.sqlite_sql.specs.declared.ops.CompareOp.TheVariants.{Eq}
use Rattle.sqlite.specs.Collation.TheVariants.{Binary}
use Rattle.sqlite.specs.Kind.TheVariants.{Integer}
use Rattle.sqlite.specs.Cast.{cast, cast_row}
use Rattle.sqlite_trees.specs.Tree.{Trees, rowid, has_rowid, put_row, without_rowid}
use Rattle.sqlite_trees.proofs.ListLemmas.{all_of, all_weaker, all_from_map, all-map, all-permutation, all-flat_map}
use Rattle.sqlite_rules.specs.Lists.{Has}
use Rattle.sqlite_rules.specs.Keys.{AreConflicts, conflicts}
use Rattle.sqlite_rules.specs.Calls.{ids_of}
use Rattle.sqlite_rules.specs.Edit.{Edit, edit_of, with_rowid, is_taken, are_fresh, Applies}
use Rattle.sqlite_schema.specs.declared.schema.Keys.TheVariants.{Enforced}
use Rattle.sqlite.specs.Rowids.TheVariants.{Given, Chosen}
use Rattle.sqlite.specs.Effect.{Database}
use Rattle.sqlite.specs.Query.{IsAnswer, Output, output}
use Rattle.sqlite.specs.Term.{Env}
use Rattle.sqlite.specs.Program.{overlay}
use Rattle.sqlite.specs.Rows.{Then, TriesEach, count_of, higher, joined, nothing, shown as shown_of, Task, Written, Puts, Clears, Resolves, Meets, Upserts, Judged, Tries}
use Rattle.sqlite.specs.Does.{Tally, Does}
use Rattle.sqlite.specs.Source.TheVariants.{Values}
use Rattle.sqlite.specs.Command.TheVariants.{InsertOr}
use Rattle.sqlite_schema.specs.declared.command.Conflict.TheVariants.{Abort}
use Rattle.sqlite_rules.specs.declared.error.Refusal.{Refusal}
use Rattle.sqlite.proofs.Callers.{one_step}
use Rattle.kd_rows.specs.declared.row.Row.{Row}
use Rattle.kd_rows.specs.Row.{state_number}
use Rattle.kd_rows.specs.Table.{with_row}
use Rattle.kd_store.specs.Lease.{lease, lease_schema, columns_of}
use Rattle.kd_store.specs.Stands.{columns_in, Lists}
use Rattle.kd_store.proofs.Texts.{terms, update, updates, clause}
use Rattle.kd_store.proofs.Tables.{stored, lists_put, one_more, number_of}

either : {X : Type 0} (b : Bool) (x : X) → cond b x x ≡ x
either true x = refl
either false x = refl

cast_int : (n : ℤ) → cast Integer (Int n) ≡ Int n
unfolding unary
cast_int n = either _ (Int n)

cast_null : cast Integer Null ≡ Null
unfolding unary
cast_null = either _ Null

-- the columns take a row as it is
pub cast_is : (row : Row) → cast_row lease (stored row) ≡ stored row
cast_is row =
    ap₂ (λ (a : Value) (b : Columns). a ∷ b) (cast_int (pos row.address))
    (ap₂ (λ (a : Value) (b : Columns). a ∷ Bytes row.client ∷ b) cast_null
    (ap₂ (λ (a : Value) (b : Columns). a ∷ b) (cast_int (pos (state_number row.state)))
    (ap₂ (λ (a b : Value). a ∷ b ∷ []) (cast_int (pos row.changed)) (cast_int (pos row.ends)))))

-- ---- the rows at an address

-- two rowids are one number
same_number : (m n : ℕ) → is_true (binary (Compare Eq Binary) (Int (pos m)) (Int (pos n))) ≡ (m == n)
unfolding binary
same_number m n = as_test (is_eq (value_cmp (Int (pos m)) (Int (pos n)))) ∙ ap is_eq (number_of m n) ∙ grind (arith, nat_tests)
  where
    as_test : (b : Bool) → is_true (from_truth (Some b)) ≡ b
    as_test true = refl
    as_test false = refl

-- a row is kept by a number
abbrev pub IsKeyed : Columns → Type 0
IsKeyed r = (n : ℕ) × (rowid r ≡ Int (pos n))

pub keyed : (trees : Trees) (table : List Row) → Lists trees table → AllByRecursion IsKeyed (trees 0)
keyed trees table h =
    let first : AllByRecursion IsKeyed (map columns_of table) = all-map IsKeyed columns_of table (all_of _ (λ row. (row.address, refl)) table) in
    all_from_map IsKeyed columns_in (trees 0) (all-permutation IsKeyed _ _ h.same first)

all_has : {X : Type 0} (P : X → Type 0) (xs : List X) (x : X) → AllByRecursion P xs → Has xs x → P x
all_has P [] x all h = absurd h
all_has P (y ∷ ys) x all (inl e) = subst P (sym e) all.0
all_has P (y ∷ ys) x all (inr h) = all_has P ys x all.1 h

-- a row that meets the key of the new one has its rowid
met : (row : Row) (r : Columns) → IsKeyed r → conflicts (Some (0 ∷ [])) [] lease (stored row) r ≡ true → rowid r ≡ Int (pos row.address)
unfolding first_key
met row r key h =
    let e = rw (key.1, same_number) at h in
    let at : key.0 ≡ row.address = grind (arith, nat_tests) in
    key.1 ∙ ap (λ n. Int (pos n)) at

-- ---- the update in place

-- what the update reads: the parameters, the existing rowid, and the new row
abbrev given : Row → Columns
given row =
    Int (pos row.address) ∷ Bytes row.client ∷ Int (pos (state_number row.state)) ∷ Int (pos row.changed) ∷ Int (pos row.ends)
    ∷ Int (pos row.address) ∷ Int (pos row.address) ∷ Int (pos row.address) ∷ Bytes row.client ∷ Int (pos (state_number row.state)) ∷ Int (pos row.changed) ∷ Int (pos row.ends) ∷ []

abbrev hits : Row → Columns → Bool
hits row r = is_true (binary (Compare Eq Binary) (rowid r) (Int (pos row.address))) && true

abbrev made_of : Row → Output
made_of row = ([], Int (pos row.address) ∷ stored row)

abbrev steps : Row → Columns → List Env
steps row r = cond (hits row r) ((given row ∷ r ∷ []) ∷ []) []

-- each row that is found gives the new one
each_is : (row : Row) (r : Columns) → IsKeyed r → AllByRecursion (λ env. output update env ≡ made_of row) (steps row r)
each_is row r key = by (hits row r) refl where
  by : (b : Bool) → hits row r ≡ b → AllByRecursion (λ env. output update env ≡ made_of row) (cond b ((given row ∷ r ∷ []) ∷ []) [])
  by false e = tt
  by true e =
      let f = rw (key.1, same_number) at e in
      let at : key.0 ≡ row.address = grind (arith, nat_tests) in
      let id : rowid r ≡ Int (pos row.address) = key.1 ∙ ap (λ n. Int (pos n)) at in
      (rw id refl, tt)

first_none : {A : Type 0} (xs ys : List A) → xs ++ ys ≡ [] → xs ≡ []
first_none [] ys e = refl
first_none (x ∷ xs) ys e = absurd cc

second_none : {A : Type 0} (xs ys : List A) → xs ++ ys ≡ [] → ys ≡ []
second_none [] ys e = e
second_none (x ∷ xs) ys e = absurd cc

none_of : {A B : Type 0} (f : A → List B) (xs : List A) (x : A) → flat_map f xs ≡ [] → Has xs x → f x ≡ []
none_of f [] x e h = absurd h
none_of f (y ∷ ys) x e (inl same) = rw same (first_none (f y) _ e)
none_of f (y ∷ ys) x e (inr h) = none_of f ys x (second_none (f y) _ e) h

-- the update finds rows, and each becomes the new one under its old rowid
pub updates_to : (row : Row) (db : Trees) (rows : List Columns) → AllByRecursion IsKeyed (db 0) → IsAnswer update db (given row) rows → AllByRecursion (λ x. x ≡ Int (pos row.address) ∷ stored row) rows × (length rows ≡ length (flat_map (steps row) (db 0)))
updates_to row db rows keys a =
    let staged : a.staged ≡ flat_map (steps row) (db 0) = a.grouped in
    let all : AllByRecursion (λ env. output update env ≡ made_of row) a.staged = subst (AllByRecursion (λ env. output update env ≡ made_of row)) (sym staged) (all-flat_map _ (steps row) (db 0) (all_weaker IsKeyed _ (each_is row) (db 0) keys)) in
    let kept : AllByRecursion (λ o. o ≡ made_of row) a.kept = subst (AllByRecursion (λ o. o ≡ made_of row)) (sym a.distinct) (all-map _ (output update) a.staged all) in
    let ordered = all-permutation (λ o. o ≡ made_of row) _ _ a.same kept in
    let shows : rows ≡ map (λ (o : Output). o.1) a.ordered = a.shown in (
      subst (AllByRecursion (λ x. x ≡ Int (pos row.address) ∷ stored row)) (sym shows) (all-map _ (λ (o : Output). o.1) a.ordered (all_weaker _ (λ (o : Output). o.1 ≡ Int (pos row.address) ∷ stored row) (λ o e. ap (λ (o : Output). o.1) e) a.ordered ordered)),
      ap length shows ∙ length-map a.ordered (λ (o : Output). o.1) ∙ length_permutation _ _ a.same ∙ ap length a.distinct ∙ length-map a.staged (output update) ∙ ap length staged,
    )

-- ---- the rows that the statement writes

-- a rowid is taken if its row has been put
taken_put : (row : Row) (rows : List Columns) → is_taken rows (stored row) ≡ false → is_taken (put_row (stored row) rows) (stored row) ≡ true
taken_put row rows free =
    let there : is_eq (value_cmp (Int (pos row.address)) (Int (pos row.address))) ≡ true = ap is_eq (number_of row.address row.address) ∙ grind (arith, nat_tests) in
    list_any-IsPermutation (λ r. is_eq (value_cmp (rowid r) (Int (pos row.address)))) _ _ (one_more (stored row) rows free) ∙ ap (λ b. b || is_taken rows (stored row)) there

-- the remaining rows if none has the rowid
none_gone : (id : ℤ) (rows : List Columns) → list_any (has_rowid id) rows ≡ false → without_rowid id rows ≡ rows
none_gone id [] free = refl
none_gone id (r ∷ rows) free = by (has_rowid id r) free (none_gone id rows) where
  by : (b : Bool) → (b || list_any (has_rowid id) rows) ≡ false → (list_any (has_rowid id) rows ≡ false → without_rowid id rows ≡ rows) → cond (not b) (r ∷ without_rowid id rows) (without_rowid id rows) ≡ r ∷ rows
  by true free more = absurd (true≢false free)
  by false free more = ap (λ l. r ∷ l) (more free)

-- the edit that removes these rowids and puts one row
abbrev pub edit : List ℤ → Columns → Edit
edit gone new = record { table = lease; gone = gone; news = new ∷ [] }

first_fresh : (base : List Columns) (new : Columns) (more : List Columns) → are_fresh base (new ∷ more) ≡ true → is_taken base new ≡ false
first_fresh base new more fresh = by (is_taken base new) fresh where
  by : (b : Bool) → (not b && are_fresh (put_row new base) more) ≡ true → b ≡ false
  by true e = absurd (true≢false (sym e))
  by false e = refl

later_fresh : (base : List Columns) (new : Columns) (more : List Columns) → are_fresh base (new ∷ more) ≡ true → are_fresh (put_row new base) more ≡ true
later_fresh base new more fresh = by (is_taken base new) fresh where
  by : (b : Bool) → (not b && are_fresh (put_row new base) more) ≡ true → are_fresh (put_row new base) more ≡ true
  by true e = absurd (true≢false (sym e))
  by false e = e

-- no row is put twice
never_twice : (row : Row) (base : List Columns) (a b : Columns) (more : List Columns) → a ≡ stored row → b ≡ stored row → are_fresh base (a ∷ b ∷ more) ≡ true → ⊥
never_twice row base a b more first second fresh =
    let both = subst₂ (λ (x y : Columns). are_fresh base (x ∷ y ∷ more) ≡ true) first second fresh in
    let free = first_fresh base (stored row) (stored row ∷ more) both in
    let again = first_fresh (put_row (stored row) base) (stored row) more (later_fresh base (stored row) (stored row ∷ more) both) in
    true≢false (sym (taken_put row base free) ∙ again)

pub inserted : (old new : Trees) (row : Row) (table : List Row) → Lists old table → Applies lease_schema Enforced old (edit_of old lease [] Given 0 (stored row ∷ [])) new → Lists new (with_row row table)
inserted old new row table h a =
    let b : Applies lease_schema Enforced old (edit [] (stored row)) new = subst (λ c. Applies lease_schema Enforced old (edit [] c) new) (cast_is row) a in
    let free = first_fresh (old 0) (stored row) [] b.fresh in
    lists_put old new row table (old 0) h (sym (none_gone (pos row.address) (old 0) free)) free b.rows

pub updated : (old new : Trees) (row : Row) (table : List Row) (rows : List Columns) → Lists old table → AllByRecursion (λ x. x ≡ Int (pos row.address) ∷ stored row) rows → (rows ≡ [] → ⊥)
    → Applies lease_schema Enforced old (edit_of old lease (ids_of rows) Given 1 rows) new → Lists new (with_row row table)
updated old new row table [] h all some a = absurd (some refl)
updated old new row table (x ∷ []) h all some a =
    let at : Applies lease_schema Enforced old (edit_of old lease (pos row.address ∷ []) Given 1 ((Int (pos row.address) ∷ stored row) ∷ [])) new =
    subst (λ (y : Columns). Applies lease_schema Enforced old (edit_of old lease (ids_of (y ∷ [])) Given 1 (y ∷ [])) new) all.0 a in
    let b : Applies lease_schema Enforced old (edit (pos row.address ∷ []) (stored row)) new = subst (λ c. Applies lease_schema Enforced old (edit (pos row.address ∷ []) c) new) (cast_is row) at in
    let free = first_fresh (without_rowid (pos row.address) (old 0)) (stored row) [] b.fresh in
    lists_put old new row table (without_rowid (pos row.address) (old 0)) h refl free b.rows
updated old new row table (x ∷ y ∷ more) h all some a =
    absurd (never_twice row _ _ _ _ (ap (λ (c : Columns). cast_row lease (drop 1 c)) all.0 ∙ cast_is row) (ap (λ (c : Columns). cast_row lease (drop 1 c)) all.1.0 ∙ cast_is row) a.fresh)

-- ---- the statement

-- a part that gave a value did not stop on the way
pub went : {B E R : Type 0} {b : B} {Stops : E → Type 0} → ((stop : E) × Stops stop × (Ok b ≡ Err stop)) ⊎ R → R
went (inl stopped) = absurd (let e = stopped.2 in cc)
went (inr on) = on

pub same_value : {B E : Type 0} {a b : B} → ◌≡◌ {A = Result B E} (Ok a) (Ok b) → a ≡ b
same_value e = cc

nothing_in : {A : Type 0} (xs : List A) → length xs ≡ 0 → xs ≡ []
nothing_in [] e = refl
nothing_in (x ∷ xs) e = absurd (omega arith)

no_step : (row : Row) (there : Columns) → rowid there ≡ Int (pos row.address) → steps row there ≡ [] → ⊥
no_step row there at none =
    let hit : hits row there ≡ true = rw (at, same_number) (grind (arith, nat_tests)) in
    let one : (given row ∷ there ∷ []) ∷ [] ≡ [] = rw hit at none in
    absurd cc

module _ (limit : Option ℕ) (row : Row) where
  abbrev pub task : Task
  task = record { limit = limit; keys = Enforced; schema = lease_schema; table = lease; params = columns_of row }

  puts : (db : Trees) (table : List Row) (w : Written) → Lists db table → Puts task (stored row) db (Ok w) → Lists w.trees (with_row row table)
  puts db table w h p =
      let it = went p in
      let is : w.trees ≡ it.0 = ap (λ (w : Written). w.trees) (same_value it.2) in
      subst (λ trees. Lists trees (with_row row table)) (sym is) (inserted db it.0 row table h (one_step lease_schema Enforced db it.0 _ refl it.1))

  clears : (db : Trees) (table : List Row) (w : Written) (found : List Columns) → Lists db table → Clears task Abort (stored row) db found (Ok w) → Lists w.trees (with_row row table)
  clears db table w [] h p = puts db table w h p
  clears db table w (x ∷ more) h p = puts db table w h p

  resolves : (db : Trees) (table : List Row) (w : Written) (there : Columns) → Lists db table → rowid there ≡ Int (pos row.address) → Has (db 0) there → Resolves task (stored row) db (rowid there ∷ []) (Some updates) (Ok w) → Lists w.trees (with_row row table)
  resolves db table w there h at has p =
      let it = went p in
      let rows = it.0 in
      let a : IsAnswer update (overlay db []) (given row) rows =
      subst (λ (v : Value). IsAnswer update (overlay db []) (columns_of row ++ v ∷ shown_of lease (stored row)) rows) at (it.1.answer Null) in
      let to = updates_to row (overlay db []) rows (keyed db table h) a in
      let some : rows ≡ [] → ⊥ = λ none. no_step row there at (none_of (steps row) (db 0) there (nothing_in _ (sym to.1 ∙ ap length none)) has) in
      let next = went it.2 in
      let is : w.trees ≡ next.0 = ap (λ (w : Written). w.trees) (same_value next.2) in
      subst (λ trees. Lists trees (with_row row table)) (sym is) (updated db next.0 row table rows h to.0 some (one_step lease_schema Enforced db next.0 _ refl next.1))

  meets : (db : Trees) (table : List Row) (w : Written) (found : List Columns) → Lists db table → AreConflicts (Some (0 ∷ [])) [] lease (db 0) (stored row) found
      → Meets task (Upserts task Abort (stored row) db []) (stored row) db clause found (Ok w) → Lists w.trees (with_row row table)
  meets db table w [] h are p = clears db table w p.0 h p.2
  meets db table w (x ∷ more) h are p =
      let it = are.sound x (inl refl) in
      let key = all_has IsKeyed (db 0) it.0 (keyed db table h) it.1 in
      resolves db table w it.0 h (met row it.0 key it.2) it.1 (subst (λ y. Resolves task (stored row) db y (Some updates) (Ok w)) it.3 p)

  tries : (db : Trees) (table : List Row) (w : Written) → Lists db table → Tries task Abort (clause ∷ []) (stored row) db (Ok w) → Lists w.trees (with_row row table)
  tries db table w h (inl none) = absurd (let e = none.1 in cc)
  tries db table w h (inr it) = judged it.0 it.2
    where
      judged : (verdict : Option Refusal) → Judged task Abort (clause ∷ []) (stored row) db verdict (Ok w) → Lists w.trees (with_row row table)
      judged None u = meets db table w u.0 h u.1 u.2
      judged (Some why) u = absurd (let e = u in cc)

  -- a database with our schema has the row afterwards
  pub does : (db after : Database) (text : List ℕ) (tally : Tally) (table : List Row) → db.schema ≡ lease_schema → Lists db.trees table
      → Does limit (record { keys = Enforced; in_doubt = false; may_wait = false }) (columns_of row) db text None (InsertOr 0 Abort (Values terms 6) (clause ∷ [])) (Ok (tally, after))
      → (after.schema ≡ lease_schema) × Lists after.trees (with_row row table)
  does db after text tally table has h d =
      let command = InsertOr 0 Abort (Values terms 6) (clause ∷ []) in
      let all = went (subst (λ s. Does limit (record { keys = Enforced; in_doubt = false; may_wait = false }) (columns_of row) (record { schema = s; trees = db.trees }) text None command (Ok (tally, after))) has d) in
      let sourced = went all.1 in
      let numbered = went sourced.2 in
      let each = went numbered.2 in
      let counted = went each.2 in
      let top = count_of numbered.0 in
      let start = nothing db.trees in
      let P = λ (c : Columns). let new = with_rowid Chosen (db.trees 0) c in
      Then (Tries task Abort (clause ∷ []) new db.trees) (λ one. TriesEach task Abort (clause ∷ []) [] (higher top new) (joined start one)) (Ok each.0) in
      let one = went (subst P (cast_is row) (subst (λ (rows : List Columns). TriesEach task Abort (clause ∷ []) rows top start (Ok each.0)) sourced.1.1 each.1)) in
      let listed = tries db.trees table one.0 h one.1 in
      let put : each.0.0.trees ≡ one.0.trees = ap (λ (p : Written × ℤ). p.0.trees) (same_value one.2) in
      let last : all.0.trees ≡ each.0.0.trees = ap (λ (w : Written). w.trees) (same_value counted.2) ∙ same_value counted.1 in
      let is : after ≡ record { schema = lease_schema; trees = all.0.trees } = ap (λ (p : Tally × Database). p.1) (same_value (went (went all.2).2).2) in
      (ap (λ (d : Database). d.schema) is, subst (λ trees. Lists trees (with_row row table)) (sym (ap (λ (d : Database). d.trees) is ∙ last ∙ put)) listed)
