-- Lists of rows in ascending order of address, and the columns by which they are stored.
use Rattle.std.proofs.Common.{◌^◌, ◌≡◌, ℕ, ◌+◌, ◌<◌, pos, Bool, true, false, not, List, [], ◌∷◌, map, refl, sym, ap, ap₂, subst, subst₂, ◌∙◌, arith, if◌then◌else◌, ◌==◌, nat_lt, Ordering, Less, Equal, Greater, nat_cmp, true≢false}
use Rattle.std.specs.Prelude.{IsPermutation, filter}
use Rattle.std.specs.Ordering.{is_eq, match_ordering}
use Rattle.std.proofs.lemmas.Bool.Decides.{nat_tests}
use Rattle.std.proofs.lemmas.List.Sorted.{IsPermutation-refl, IsPermutation-trans, IsPermutation-sym, IsPermutation-cons, IsPermutation-map, IsPermutation-middle, length_permutation}
use Rattle.sqlite_value.specs.declared.value.Value.TheVariants.{Null, Int, Blob as Bytes}
use Rattle.sqlite_value.specs.Order.{Row as Columns, value_cmp}
use Rattle.sqlite_value.proofs.OrderLemmas.{value_cmp-Int}
use Rattle.sqlite_trees.specs.Tree.{Trees, rowid, has_rowid, put_row, without_rowid}
use Rattle.sqlite_trees.proofs.ListLemmas.{filter-map, IsPermutation-filter}
use Rattle.sqlite_rules.specs.Edit.{is_taken}
use Rattle.sqlite.proofs.Callers.{one_permutation}
use Rattle.kd_rows.specs.declared.row.Row.{Row}
use Rattle.kd_rows.specs.declared.row.State.{State}
use Rattle.kd_rows.specs.declared.row.State.TheVariants.{Offered, Bound, Released, Declined}
use Rattle.kd_rows.specs.Row.{state_number}
use Rattle.kd_rows.specs.Table.{RiseFrom, with_row}
use Rattle.kd_rows.proofs.Sets.{rise_from-with_row}
use Rattle.kd_store.specs.Lease.{columns_of}
use Rattle.kd_store.specs.Stands.{columns_in, Lists}

-- the first two elements change places
swapped : {X : Type 0} (x y : X) (xs : List X) → IsPermutation (x ∷ y ∷ xs) (y ∷ x ∷ xs)
swapped x y xs = IsPermutation-middle (x ∷ []) y xs

pub number_of : (a b : ℕ) → value_cmp (Int (pos a)) (Int (pos b)) ≡ nat_cmp a b
number_of a b = value_cmp-Int (pos a) (pos b) ∙ grind (arith, nat_tests)

-- whether a row is stored under a number
pub at_address : (a : ℕ) (row : Row) → has_rowid (pos a) (columns_of row) ≡ (row.address == a)
at_address a row = ap is_eq (number_of row.address a) ∙ grind (arith, nat_tests)

-- ---- a row is set

-- rows above an address stay when that address is left out
kept_above : (a n : ℕ) (rows : List Row) → a < n → RiseFrom n rows → without_rowid (pos a) (map columns_of rows) ≡ map columns_of rows
kept_above a n [] lt rise = refl
kept_above a n (row ∷ rows) lt rise =
    let other : not (has_rowid (pos a) (columns_of row)) ≡ true = rw at_address (grind (arith, nat_tests, rise.0)) in
    rw (other, kept_above a (row.address + 1) rows (omega (arith, rise.0)) rise.1) refl

-- the rows after one is set are that row and those at other addresses
pub set_of : (row : Row) (n : ℕ) (rows : List Row) → RiseFrom n rows → IsPermutation (map columns_of (with_row row rows)) (columns_of row ∷ without_rowid (pos row.address) (map columns_of rows))
set_of row n [] rise = IsPermutation-refl _
set_of row n (r ∷ rows) rise = by (nat_lt row.address r.address) (r.address == row.address) refl refl (set_of row (r.address + 1) rows rise.1) where
  by : (b t : Bool) → nat_lt row.address r.address ≡ b → (r.address == row.address) ≡ t
      → IsPermutation (map columns_of (with_row row rows)) (columns_of row ∷ without_rowid (pos row.address) (map columns_of rows))
      → IsPermutation (map columns_of (if b then row ∷ r ∷ rows else if t then row ∷ rows else r ∷ with_row row rows)) (columns_of row ∷ without_rowid (pos row.address) (map columns_of (r ∷ rows)))
  by true t below same rest =
      let lt : row.address < r.address = grind (arith, nat_tests) in
      subst (λ l. IsPermutation (columns_of row ∷ columns_of r ∷ map columns_of rows) (columns_of row ∷ l)) (sym (kept_above row.address r.address (r ∷ rows) lt (omega arith, rise.1))) (IsPermutation-refl _)
  by false true below same rest =
      let it : has_rowid (pos row.address) (columns_of r) ≡ true = at_address row.address r ∙ same in
      let lt : row.address < r.address + 1 = grind (arith, nat_tests) in
      rw (it, kept_above row.address (r.address + 1) rows lt rise.1) (IsPermutation-refl _)
  by false false below same rest =
      let other : has_rowid (pos row.address) (columns_of r) ≡ false = at_address row.address r ∙ same in
      rw other (IsPermutation-trans _ _ _ (IsPermutation-cons (columns_of r) _ _ rest) (swapped (columns_of r) (columns_of row) _))

-- ---- a row is stored

-- a row as it is stored: the key's own place holds no value
abbrev pub stored : Row → Columns
stored row = Int (pos row.address) ∷ Null ∷ Bytes row.client ∷ Int (pos (state_number row.state)) ∷ Int (pos row.changed) ∷ Int (pos row.ends) ∷ []

-- a row whose rowid is not taken is one more
pub one_more : (new : Columns) (rows : List Columns) → is_taken rows new ≡ false → IsPermutation (put_row new rows) (new ∷ rows)
one_more new [] free = IsPermutation-refl _
one_more new (r ∷ rows) free = by (value_cmp (rowid r) (rowid new)) refl (one_more new rows) where
  by : (o : Ordering) → value_cmp (rowid r) (rowid new) ≡ o → (is_taken rows new ≡ false → IsPermutation (put_row new rows) (new ∷ rows))
      → IsPermutation (match_ordering o (r ∷ put_row new rows) (new ∷ rows) (new ∷ r ∷ rows)) (new ∷ r ∷ rows)
  by Less is rest = IsPermutation-trans _ _ _ (IsPermutation-cons r _ _ (rest (sym (rw is refl) ∙ free))) (swapped r new rows)
  by Equal is rest = absurd (true≢false (sym (rw is refl) ∙ free))
  by Greater is rest = IsPermutation-refl _

-- the rowid is shown first
shown_without : (a : ℕ) (rows : List Columns) → map columns_in (without_rowid (pos a) rows) ≡ without_rowid (pos a) (map columns_in rows)
shown_without a rows = sym (filter-map (λ r. not (has_rowid (pos a) r)) columns_in rows)

-- if a row is put among those of other rowids, and none has its rowid, the trees list the table
-- with it
pub lists_put : (old new : Trees) (row : Row) (table : List Row) (rest : List Columns) → Lists old table → rest ≡ without_rowid (pos row.address) (old 0) → is_taken rest (stored row) ≡ false → new 0 ≡ put_row (stored row) rest → Lists new (with_row row table)
lists_put old new row table rest h left free is = record {
  rise = rise_from-with_row row 0 table (omega arith) h.rise;
  same =
      let kept = IsPermutation-filter (λ r. not (has_rowid (pos row.address) r)) _ _ h.same in
      let now : IsPermutation (map columns_in (new 0)) (columns_of row ∷ without_rowid (pos row.address) (map columns_in (old 0))) =
      subst (λ l. IsPermutation (map columns_in (new 0)) (columns_of row ∷ l)) (ap (map columns_in) left ∙ shown_without row.address (old 0))
      (subst (λ l. IsPermutation (map columns_in l) (columns_of row ∷ map columns_in rest)) (sym is) (IsPermutation-map columns_in _ _ (one_more (stored row) rest free))) in
      IsPermutation-trans _ _ _ (set_of row 0 table h.rise) (IsPermutation-trans _ _ _ (IsPermutation-cons (columns_of row) _ _ kept) (IsPermutation-sym _ _ now));
}

-- ---- one table

pub state_once : (s t : State) → state_number s ≡ state_number t → s ≡ t
state_once Offered Offered e = refl
state_once Offered Bound e = absurd (omega arith)
state_once Offered Released e = absurd (omega arith)
state_once Offered Declined e = absurd (omega arith)
state_once Bound Offered e = absurd (omega arith)
state_once Bound Bound e = refl
state_once Bound Released e = absurd (omega arith)
state_once Bound Declined e = absurd (omega arith)
state_once Released Offered e = absurd (omega arith)
state_once Released Bound e = absurd (omega arith)
state_once Released Released e = refl
state_once Released Declined e = absurd (omega arith)
state_once Declined Offered e = absurd (omega arith)
state_once Declined Bound e = absurd (omega arith)
state_once Declined Released e = absurd (omega arith)
state_once Declined Declined e = refl

pub state_small : (s : State) → state_number s < 2 ^ 32
state_small Offered = omega arith
state_small Bound = omega arith
state_small Released = omega arith
state_small Declined = omega arith

pub row_once : (a b : Row) → columns_of a ≡ columns_of b → a ≡ b
row_once a b e =
    let address : a.address ≡ b.address = cc in
    let client : a.client ≡ b.client = cc in
    let state : a.state ≡ b.state = state_once a.state b.state cc in
    let changed : a.changed ≡ b.changed = cc in
    let ends : a.ends ≡ b.ends = cc in
    λ i. record { address = address i; client = client i; state = state i; changed = changed i; ends = ends i }

-- no row above an address has it
none_above : (a n : ℕ) (rows : List Row) → a < n → RiseFrom n rows → filter (has_rowid (pos a)) (map columns_of rows) ≡ []
none_above a n [] lt rise = refl
none_above a n (row ∷ rows) lt rise =
    let other : has_rowid (pos a) (columns_of row) ≡ false = rw at_address (grind (arith, nat_tests, rise.0)) in
    rw (other, none_above a (row.address + 1) rows (omega (arith, rise.0)) rise.1) refl

-- without its first row, a table in ascending order is the rest
without_first : (row : Row) (rows : List Row) → RiseFrom (row.address + 1) rows → without_rowid (pos row.address) (map columns_of (row ∷ rows)) ≡ map columns_of rows
without_first row rows rise =
    let it : has_rowid (pos row.address) (columns_of row) ≡ true = at_address row.address row ∙ grind (arith, nat_tests) in
    rw (it, kept_above row.address (row.address + 1) rows (omega arith) rise) refl

first_alone : (row : Row) (rows : List Row) → RiseFrom (row.address + 1) rows → filter (has_rowid (pos row.address)) (map columns_of (row ∷ rows)) ≡ columns_of row ∷ []
first_alone row rows rise =
    let it : has_rowid (pos row.address) (columns_of row) ≡ true = at_address row.address row ∙ grind (arith, nat_tests) in
    rw (it, none_above row.address (row.address + 1) rows (omega arith) rise) refl

-- the first address of one table is not below that of another
not_below : (x y : Row) (xs ys : List Row) (m : ℕ) → RiseFrom (x.address + 1) xs → RiseFrom m (y ∷ ys) → IsPermutation (map columns_of (x ∷ xs)) (map columns_of (y ∷ ys)) → x.address < y.address → ⊥
not_below x y xs ys m up over same lt =
    let kept = IsPermutation-filter (λ r. not (has_rowid (pos x.address) r)) _ _ same in
    let fewer = subst₂ IsPermutation (without_first x xs up) (kept_above x.address y.address (y ∷ ys) lt (omega arith, over.1)) kept in
    omega (arith, length_permutation _ _ fewer, length_permutation _ _ same)

-- a table has only one ascending order
pub one_order : (n m : ℕ) (xs ys : List Row) → RiseFrom n xs → RiseFrom m ys → IsPermutation (map columns_of xs) (map columns_of ys) → xs ≡ ys
one_order n m [] [] up over same = refl
one_order n m [] (y ∷ ys) up over same = absurd (omega (arith, length_permutation _ _ same))
one_order n m (x ∷ xs) [] up over same = absurd (omega (arith, length_permutation _ _ same))
one_order n m (x ∷ xs) (y ∷ ys) up over same =
    let low = not_below x y xs ys m up.1 over same in
    let high = not_below y x ys xs n over.1 up (IsPermutation-sym _ _ same) in
    let at : x.address ≡ y.address = grind (arith, low, high) in
    let more = subst (λ a. RiseFrom (a + 1) ys) (sym at) over.1 in
    let head : columns_of y ∷ [] ≡ columns_of x ∷ [] =
    one_permutation (columns_of x) _ (subst₂ IsPermutation (first_alone x xs up.1) (ap (λ (a : ℕ). filter (has_rowid (pos a)) (map columns_of (y ∷ ys))) at ∙ first_alone y ys over.1) (IsPermutation-filter (has_rowid (pos x.address)) _ _ same)) in
    let tail = subst₂ IsPermutation (without_first x xs up.1) (ap (λ (a : ℕ). without_rowid (pos a) (map columns_of (y ∷ ys))) at ∙ without_first y ys over.1) (IsPermutation-filter (λ r. not (has_rowid (pos x.address) r)) _ _ same) in
    ap₂ (λ a b. a ∷ b) (row_once x y cc) (one_order (x.address + 1) (y.address + 1) xs ys up.1 over.1 tail)

-- trees list only one table
pub one_table : (trees : Trees) (a b : List Row) → Lists trees a → Lists trees b → a ≡ b
one_table trees a b h k = one_order 0 0 a b h.rise k.rise (IsPermutation-trans _ _ _ h.same (IsPermutation-sym _ _ k.same))

-- ---- rows that are read in turn
