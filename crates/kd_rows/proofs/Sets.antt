-- The rows after one is set.
use Rattle.std.proofs.Common.{◌≡◌, ℕ, ◌+◌, ◌<◌, ◌≤◌, Bool, true, false, List, [], ◌∷◌, length, get_or, set, zero, suc, refl, sym, ap, ◌∙◌, ◌⊎◌, ◌^◌, ◌↔◌, IsTrue, inl, inr, lit<, subst, Option, Some, None, arith, if◌then◌else◌, is_some, ◌==◌, ◌||◌, nat_lt}
use Rattle.std.specs.List.{All, insert}
use Rattle.std.proofs.lemmas.Bool.{cases_lt, eq-eqb, eqb-true, le-ltb}
use Rattle.std.proofs.lemmas.Bool.Decides.{nat_tests}
use Rattle.std.proofs.lemmas.Option.{same_Some}
use Rattle.kd_rows.specs.declared.row.Row.{Row}
use Rattle.kd_rows.specs.Index.{IsRowPlace, IsPlace}
use Rattle.kd_rows.specs.Row.{IsInRange}
use Rattle.kd_rows.specs.Table.{Rise, RiseFrom, Table, latest_of, room_for_row, row_at, with_row}
use Rattle.kd_rows.proofs.Places.{none_below}

-- what is read after a row is set
pub row_at-with_row : (row : Row) (rows : List Row) (a : ℕ) → row_at (with_row row rows) a ≡ (if row.address == a then Some row else row_at rows a)
row_at-with_row row [] a = refl
row_at-with_row row (r ∷ rows) a = let h = row_at-with_row row rows a in grind (arith, nat_tests)

pub inserted_at : (row : Row) (rows : List Row) (place : ℕ) → place ≤ length rows → ((i : ℕ) (d : Row) → i < place → (get_or rows i d).address < row.address) → ((i : ℕ) (d : Row) → place ≤ i → i < length rows → row.address ≤ (get_or rows i d).address) → row_at rows row.address ≡ None → with_row row rows ≡ insert rows place row
inserted_at row [] zero within below above none = refl
inserted_at row [] (suc place) within below above none = absurd (omega arith)
inserted_at row (r ∷ rows) zero within below above none =
    let h : row.address ≤ r.address = above 0 r (omega arith) (omega arith) in
    grind (arith, nat_tests)
inserted_at row (r ∷ rows) (suc place) within below above none =
    let g : r.address < row.address = below 0 r (omega arith) in
    let n : row_at rows row.address ≡ None = grind (arith, nat_tests) in
    let h = inserted_at row rows place (omega arith) (λ i d before. below (suc i) d (omega arith)) (λ i d after inside. above (suc i) d (omega arith) (omega arith)) n in
    grind (arith, nat_tests)

-- a row whose address has no row is inserted at its index
pub inserted : (row : Row) (rows : List Row) (place : ℕ) → IsPlace rows row.address place → row_at rows row.address ≡ None → with_row row rows ≡ insert rows place row
inserted row rows place p none = inserted_at row rows place p.in_range p.below p.above none

pub replaced_at : (row : Row) (rows : List Row) (place : ℕ) → place < length rows → ((i : ℕ) (d : Row) → i < place → (get_or rows i d).address < row.address) → ((d : Row) → (get_or rows place d).address ≡ row.address) → with_row row rows ≡ set rows place row
replaced_at row [] place within below here = absurd (omega arith)
replaced_at row (r ∷ rows) zero within below here =
    let h : r.address ≡ row.address = here r in
    grind (arith, nat_tests)
replaced_at row (r ∷ rows) (suc place) within below here =
    let g : r.address < row.address = below 0 r (omega arith) in
    let h = replaced_at row rows place (omega arith) (λ i d before. below (suc i) d (omega arith)) here in
    grind (arith, nat_tests)

-- a row replaces the one at its address
pub replaced : (row : Row) (rows : List Row) (place : ℕ) → IsRowPlace rows row.address place → with_row row rows ≡ set rows place row
replaced row rows place at = replaced_at row rows place at.in_range at.below at.here

pub rise_from-with_row : (row : Row) (n : ℕ) (rows : List Row) → n ≤ row.address → RiseFrom n rows → RiseFrom n (with_row row rows)
rise_from-with_row row n [] le rise = (le, tt)
rise_from-with_row row n (r ∷ rows) le rise = by (nat_lt row.address r.address) (r.address == row.address) refl refl (rise_from-with_row row (r.address + 1) rows) where
  by : (b t : Bool) → nat_lt row.address r.address ≡ b → (r.address == row.address) ≡ t → (r.address + 1 ≤ row.address → RiseFrom (r.address + 1) rows → RiseFrom (r.address + 1) (with_row row rows))
      → RiseFrom n (if b then row ∷ r ∷ rows else if t then row ∷ rows else r ∷ with_row row rows)
  by true t below same rest = let h : row.address + 1 ≤ r.address = grind (arith, nat_tests) in (le, (h, rise.1))
  by false true below same rest = (le, subst (λ (a : ℕ). RiseFrom (a + 1) rows) (eqb-true r.address row.address same) rise.1)
  by false false below same rest = let h : r.address + 1 ≤ row.address = grind (arith, nat_tests) in (rise.0, rest h rise.1)

pub rise-with_row : (row : Row) (rows : List Row) → Rise rows → Rise (with_row row rows)
rise-with_row row rows rise = rise_from-with_row row 0 rows (omega arith) rise

-- a row that is set no earlier than the others is the latest
pub latest_of-with_row : (row : Row) (rows : List Row) → latest_of rows ≤ row.changed → latest_of (with_row row rows) ≡ row.changed
latest_of-with_row row [] late = omega arith
latest_of-with_row row (r ∷ rows) late =
    let h = latest_of-with_row row rows (omega arith) in
    grind (arith, nat_tests)

-- what is true of each row, one after another
abbrev pub Each : (Row → Type 0) → List Row → Type 0
Each P [] = Unit {0}
Each P (row ∷ rows) = P row × Each P rows

each : (P : Row → Type 0) (rows : List Row) → All P rows → Each P rows
each P [] all = tt
each P (row ∷ rows) all = (all 0 row (omega arith), each P rows (λ k d within. all (suc k) d (omega arith)))

all : (P : Row → Type 0) (rows : List Row) → Each P rows → All P rows
all P [] each k d within = absurd (omega arith)
all P (row ∷ rows) each zero d within = each.0
all P (row ∷ rows) each (suc k) d within = all P rows each.1 k d (omega arith)

each-with_row : (P : Row → Type 0) (row : Row) (rows : List Row) → P row → Each P rows → Each P (with_row row rows)
each-with_row P row [] this others = (this, tt)
each-with_row P row (r ∷ rows) this others = by (nat_lt row.address r.address) (r.address == row.address) (each-with_row P row rows this others.1) where
  by : (b t : Bool) → Each P (with_row row rows) → Each P (if b then row ∷ r ∷ rows else if t then row ∷ rows else r ∷ with_row row rows)
  by true t rest = (this, others)
  by false true rest = (this, others.1)
  by false false rest = (others.0, rest)

-- what is true of each row and of one that is set is true of each row afterwards
pub all-with_row : (P : Row → Type 0) (row : Row) (rows : List Row) → P row → All P rows → All P (with_row row rows)
all-with_row P row rows this others = all P (with_row row rows) (each-with_row P row rows this (each P rows others))

-- rows in range were set early
pub latest_early : (rows : List Row) → All IsInRange rows → latest_of rows < 2 ^ 40
latest_early [] ranged = lit< tt
latest_early (row ∷ rows) ranged =
    let h = latest_early rows (λ k d within. ranged (suc k) d (omega arith)) in
    let g : row.changed < 2 ^ 40 = (ranged 0 row (omega arith)).set_at in
    omega arith

-- setting a row that is already there changes nothing
pub unchanged_from : (row : Row) (n : ℕ) (rows : List Row) → RiseFrom n rows → row_at rows row.address ≡ Some row → with_row row rows ≡ rows
unchanged_from row n [] rise there = cc
unchanged_from row n (r ∷ rows) rise there = by (r.address == row.address) refl there (unchanged_from row (r.address + 1) rows rise.1) (none_below (r.address + 1) rows row.address rise.1) where
  late : (o : Option Row) → o ≡ Some row → (row.address < r.address + 1 → o ≡ None) → (row.address < r.address + 1) ⊎ (r.address + 1 ≤ row.address) → r.address + 1 ≤ row.address
  late o there none (inl l) = let h = none l in cc
  late o there none (inr l) = l

  by : (t : Bool) → (r.address == row.address) ≡ t → (if t then Some r else row_at rows row.address) ≡ Some row → (row_at rows row.address ≡ Some row → with_row row rows ≡ rows) → (row.address < r.address + 1 → row_at rows row.address ≡ None)
      → (if nat_lt row.address r.address then row ∷ r ∷ rows else if t then row ∷ rows else r ∷ with_row row rows) ≡ r ∷ rows
  by true e found rest none =
      let here : r ≡ row = cc in
      let same = eqb-true r.address row.address e in
      rw (le-ltb row.address r.address (omega arith)) (ap (λ (x : Row). x ∷ rows) (sym here))
  by false e found rest none =
      let after = late (row_at rows row.address) found none (cases_lt row.address (r.address + 1)) in
      rw (le-ltb row.address r.address (omega arith)) (ap (λ (xs : List Row). r ∷ xs) (rest found))

read_back : (row : Row) (rows : List Row) → with_row row rows ≡ rows → row_at rows row.address ≡ Some row
read_back row rows e = sym (ap (λ (xs : List Row). row_at xs row.address) e) ∙ row_at-with_row row rows row.address ∙ rw (eq-eqb row.address row.address refl) refl

-- setting a row changes nothing exactly when it is already there
pub unchanged_if : (row r : Row) (rows : List Row) (same : Bool) → Rise rows → row_at rows row.address ≡ Some r → (IsTrue same ↔ (r ≡ row)) → IsTrue same ↔ (with_row row rows ≡ rows)
unchanged_if row r rows same rise found is =
    (λ h. unchanged_from row 0 rows rise (found ∙ ap Some (is.0 h)), λ e. is.1 (same_Some r row (sym found ∙ read_back row rows e)))

pub changed_if : (row : Row) (rows : List Row) → row_at rows row.address ≡ None → with_row row rows ≡ rows → ⊥
changed_if row rows none e = let h = read_back row rows e in cc

-- where setting a row changes nothing, its address has a row: so it can be set without memory
pub stays_spare : (table : Table) (row : Row) → with_row row table.rows ≡ table.rows → room_for_row table row ≡ true
stays_spare table row same = ap (λ (b : Bool). b || nat_lt 0 table.room) (ap is_some (read_back row table.rows same))
