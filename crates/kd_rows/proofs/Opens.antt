-- The rows at addresses that are not withheld.
use Rattle.std.proofs.Common.{◌≡◌, ℕ, ◌+◌, ◌≤◌, Bool, true, false, not, cond, List, [], ◌∷◌, get_or, refl, sym, ap, ◌∙◌, Some, None, if◌then◌else◌, ◌==◌, nat_lt, arith}
use Rattle.std.specs.List.{All}
use Rattle.std.proofs.lemmas.Bool.{eqb-true}
use Rattle.std.proofs.lemmas.Bool.Decides.{nat_tests}
use Rattle.std.proofs.lemmas.List.Elements.{All-filter, filter_passes}
use Rattle.kd_rows.specs.declared.row.Row.{Row}
use Rattle.kd_rows.specs.Open.{open_rows}
use Rattle.kd_rows.specs.Table.{RiseFrom, row_at, with_row}
use Rattle.kd_rows.specs.Withheld.{is_withheld}
use Rattle.kd_rows.proofs.Listed.{rise_lower}

-- if no address is withheld, all rows are open
pub all_open : (rows : List Row) → open_rows [] rows ≡ rows
all_open [] = refl
all_open (r ∷ rows) = ap (λ (xs : List Row). r ∷ xs) (all_open rows)

-- what is read in the open rows
pub row_open : (withheld : List ℕ) (rows : List Row) (a : ℕ) → row_at (open_rows withheld rows) a ≡ (if is_withheld withheld a then None else row_at rows a)
row_open withheld [] a = by (is_withheld withheld a) where
  by : (b : Bool) → row_at [] a ≡ (if b then None else row_at [] a)
  by true = refl
  by false = refl
row_open withheld (r ∷ rows) a = by (is_withheld withheld r.address) (r.address == a) refl refl (row_open withheld rows a) where
  same : (b : Bool) → is_withheld withheld r.address ≡ b → (r.address == a) ≡ true → is_withheld withheld a ≡ b
  same b q e = ap (is_withheld withheld) (sym (eqb-true r.address a e)) ∙ q

  by : (b t : Bool) → is_withheld withheld r.address ≡ b → (r.address == a) ≡ t → row_at (open_rows withheld rows) a ≡ (if is_withheld withheld a then None else row_at rows a)
      → row_at (cond (not b) (r ∷ open_rows withheld rows) (open_rows withheld rows)) a ≡ (if is_withheld withheld a then None else if t then Some r else row_at rows a)
  by true true q e h = h ∙ rw (same true q e) refl
  by true false q e h = h
  by false true q e h = rw (e, same false q e) refl
  by false false q e h = rw e h

-- an open row is one of all rows, and is not withheld
pub open_is : (withheld : List ℕ) (rows : List Row) (a : ℕ) (row : Row) → row_at (open_rows withheld rows) a ≡ Some row → (is_withheld withheld a ≡ false) × (row_at rows a ≡ Some row)
open_is withheld rows a row found = by (is_withheld withheld a) (sym (row_open withheld rows a) ∙ found) where
  by : (b : Bool) → (if b then None else row_at rows a) ≡ Some row → (b ≡ false) × (row_at rows a ≡ Some row)
  by true e = cc
  by false e = (refl, e)

-- and vice versa
pub open_at : (withheld : List ℕ) (rows : List Row) (a : ℕ) → is_withheld withheld a ≡ false → row_at (open_rows withheld rows) a ≡ row_at rows a
open_at withheld rows a out = row_open withheld rows a ∙ rw out refl

-- what is true of each row that is not withheld
pub open_all : (P : Row → Type 0) (withheld : List ℕ) (rows : List Row) → All (λ (row : Row). is_withheld withheld row.address ≡ false → P row) rows → All P (open_rows withheld rows)
open_all P withheld rows all k d within =
    All-filter (λ (row : Row). not (is_withheld withheld row.address)) (λ (row : Row). is_withheld withheld row.address ≡ false → P row) rows all k d within
    (out (is_withheld withheld (get_or (open_rows withheld rows) k d).address) (filter_passes (λ (row : Row). not (is_withheld withheld row.address)) rows k d within)) where
      out : (b : Bool) → not b ≡ true → b ≡ false
      out true e = cc
      out false e = refl

rise_open : (withheld : List ℕ) (n : ℕ) (rows : List Row) → RiseFrom n rows → RiseFrom n (open_rows withheld rows)
rise_open withheld n [] rise = tt
rise_open withheld n (r ∷ rows) rise = by (not (is_withheld withheld r.address)) (rise_open withheld (r.address + 1) rows rise.1) where
  by : (b : Bool) → RiseFrom (r.address + 1) (open_rows withheld rows) → RiseFrom n (cond b (r ∷ open_rows withheld rows) (open_rows withheld rows))
  by true h = (rise.0, h)
  by false h = rise_lower n (r.address + 1) (open_rows withheld rows) (omega (arith, rise.0)) h

-- a row below all others is put before them
put_first : (row : Row) (rows : List Row) → RiseFrom (row.address + 1) rows → with_row row rows ≡ row ∷ rows
put_first row [] rise = refl
put_first row (r ∷ rows) rise = let h = rise.0 in grind (arith, nat_tests)

-- after a row that is not withheld is set, the open rows are the old ones with it set
pub open_with : (withheld : List ℕ) (n : ℕ) (rows : List Row) (row : Row) → RiseFrom n rows → is_withheld withheld row.address ≡ false → open_rows withheld (with_row row rows) ≡ with_row row (open_rows withheld rows)
open_with withheld n [] row rise out = rw out refl
open_with withheld n (r ∷ rows) row rise out =
    by (nat_lt row.address r.address) (r.address == row.address) (is_withheld withheld r.address) refl refl refl (open_with withheld (r.address + 1) rows row rise.1 out) where
      by : (b t q : Bool) → nat_lt row.address r.address ≡ b → (r.address == row.address) ≡ t → is_withheld withheld r.address ≡ q → open_rows withheld (with_row row rows) ≡ with_row row (open_rows withheld rows)
          → open_rows withheld (if b then row ∷ r ∷ rows else if t then row ∷ rows else r ∷ with_row row rows) ≡ with_row row (cond (not q) (r ∷ open_rows withheld rows) (open_rows withheld rows))
      by true t q below same kind h =
          let less : row.address + 1 ≤ r.address = grind (arith, nat_tests) in
          let high : RiseFrom (row.address + 1) (open_rows withheld (r ∷ rows)) = rise_open withheld (row.address + 1) (r ∷ rows) (less, rise.1) in
          rw out (sym (ap (λ (k : Bool). with_row row (cond (not k) (r ∷ open_rows withheld rows) (open_rows withheld rows))) (sym kind) ∙ put_first row (open_rows withheld (r ∷ rows)) high))
      by false true true below same kind h = let e : is_withheld withheld row.address ≡ true = ap (is_withheld withheld) (sym (eqb-true r.address row.address same)) ∙ kind in cc
      by false true false below same kind h = rw (out, below, same) refl
      by false false true below same kind h = rw kind h
      by false false false below same kind h = rw (kind, below, same) (ap (λ (xs : List Row). r ∷ xs) h)

-- after a row that is withheld is set, they are the same
pub open_without : (withheld : List ℕ) (rows : List Row) (row : Row) → is_withheld withheld row.address ≡ true → open_rows withheld (with_row row rows) ≡ open_rows withheld rows
open_without withheld [] row out = rw out refl
open_without withheld (r ∷ rows) row out =
    by (nat_lt row.address r.address) (r.address == row.address) refl (open_without withheld rows row out) where
      by : (b t : Bool) → (r.address == row.address) ≡ t → open_rows withheld (with_row row rows) ≡ open_rows withheld rows
          → open_rows withheld (if b then row ∷ r ∷ rows else if t then row ∷ rows else r ∷ with_row row rows) ≡ open_rows withheld (r ∷ rows)
      by true t same h = rw out refl
      by false true same h = let e : is_withheld withheld r.address ≡ true = ap (is_withheld withheld) (eqb-true r.address row.address same) ∙ out in rw (out, e) refl
      by false false same h = ap (λ (xs : List Row). cond (not (is_withheld withheld r.address)) (r ∷ xs) xs) h
