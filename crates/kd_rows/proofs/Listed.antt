-- Addresses in ascending order, each once, as rows.
use Rattle.std.proofs.Common.{◌≡◌, ℕ, ◌+◌, ◌<◌, ◌≤◌, Bool, true, false, ◌&&◌, ◌||◌, not, cond, List, [], ◌∷◌, length, get_or, zero, suc, refl, sym, ap, ◌∙◌, subst, Some, is_some, if◌then◌else◌, ◌==◌, eqb, nat_lt, ⊎_elim, arith}
use Rattle.std.specs.List.{dedup, dedup_from, filter, remove}
use Rattle.std.specs.List.Sorted.{IsNonDecreasing, IsStrictlyIncreasing}
use Rattle.std.proofs.lemmas.List.Sorted.{IsNonDecreasingBy-from_default}
use Rattle.std.proofs.lemmas.Bool.{cases_eq, eq-eqb, eqb-true, le-ltb, ne_eqb}
use Rattle.std.proofs.lemmas.List.{get_or-map, length-map}
use Rattle.kd_rows.specs.declared.row.Row.{Row}
use Rattle.kd_rows.specs.Index.{IsPlace}
use Rattle.kd_rows.specs.Open.{address_row, address_rows}
use Rattle.kd_rows.specs.Table.{Rise, RiseFrom, row_at}
use Rattle.kd_rows.specs.Withheld.{is_withheld}
use Rattle.kd_rows.proofs.Places.{absent_at, apart, from_on, is_at, none_below, read_at, rise_from_steps}

-- an address has a row among them if it is one of them
pub row_listed : (xs : List ℕ) (a : ℕ) → is_some (row_at (address_rows xs) a) ≡ is_withheld xs a
row_listed [] a = refl
row_listed (x ∷ xs) a = by (x == a) (row_listed xs a) where
  by : (b : Bool) → is_some (row_at (address_rows xs) a) ≡ is_withheld xs a → is_some (if b then Some (address_row x) else row_at (address_rows xs) a) ≡ (b || is_withheld xs a)
  by true h = refl
  by false h = h

-- what is read at an index
pub address_at : (xs : List ℕ) (i : ℕ) (d : Row) → i < length xs → (get_or (address_rows xs) i d).address ≡ get_or xs i 0
address_at xs i d within = ap (λ (r : Row). r.address) (get_or-map address_row xs i 0 d within)

pub rise_lower : (n m : ℕ) (rows : List Row) → n ≤ m → RiseFrom m rows → RiseFrom n rows
rise_lower n m [] le rise = tt
rise_lower n m (r ∷ rows) le rise = (omega (arith, rise.0), rise.1)

pub rise_increasing : (xs : List ℕ) → IsStrictlyIncreasing xs → Rise (address_rows xs)
rise_increasing xs rise = rise_from_steps 0 (address_rows xs) (λ d within. omega arith) steps where
  steps : (i j : ℕ) (d : Row) → i + 1 ≡ j → j < length (address_rows xs) → (get_or (address_rows xs) i d).address < (get_or (address_rows xs) j d).address
  steps i j d next within =
      let n = length-map xs address_row in
      let low = address_at xs i d (omega arith) in
      let high = address_at xs j d (omega arith) in
      let less = subst (λ (k : ℕ). get_or xs i 0 < get_or xs k 0) next (rise i (omega arith)) in
      omega arith

pub non_decreasing_rise : (xs : List ℕ) → Rise (address_rows xs) → IsNonDecreasing xs
non_decreasing_rise xs rise = IsNonDecreasingBy-from_default (λ x. x) xs 0 (λ i j order within. omega (arith, length-map xs address_row, address_at xs i (address_row 0) (omega arith), address_at xs j (address_row 0) within, apart (address_rows xs) rise i j (address_row 0) order (omega (arith, length-map xs address_row))))

-- if some are left out
pub rise_filter : (p : ℕ → Bool) (n : ℕ) (xs : List ℕ) → RiseFrom n (address_rows xs) → RiseFrom n (address_rows (filter p xs))
rise_filter p n [] rise = tt
rise_filter p n (x ∷ xs) rise = by (p x) (rise_filter p (x + 1) xs rise.1) where
  by : (b : Bool) → RiseFrom (x + 1) (address_rows (filter p xs)) → RiseFrom n (address_rows (cond b (x ∷ filter p xs) (filter p xs)))
  by true h = (rise.0, h)
  by false h = rise_lower n (x + 1) (address_rows (filter p xs)) (omega (arith, rise.0)) h

-- if one is removed
pub rise_remove : (n : ℕ) (xs : List ℕ) (place : ℕ) → place < length xs → RiseFrom n (address_rows xs) → RiseFrom n (address_rows (remove xs place))
rise_remove n [] place within rise = absurd (omega arith)
rise_remove n (x ∷ xs) zero within rise = rise_lower n (x + 1) (address_rows xs) (omega (arith, rise.0)) rise.1
rise_remove n (x ∷ xs) (suc place) within rise = (rise.0, rise_remove (x + 1) xs place (omega arith) rise.1)

-- addresses that ascend from above one do not contain it
none_listed : (n : ℕ) (xs : List ℕ) (a : ℕ) → RiseFrom n (address_rows xs) → a < n → is_withheld xs a ≡ false
none_listed n xs a rise low = sym (row_listed xs a) ∙ ap is_some (none_below n (address_rows xs) a rise low)

pub listed_remove : (n : ℕ) (xs : List ℕ) (place a : ℕ) → place < length xs → RiseFrom n (address_rows xs) → is_withheld (remove xs place) a ≡ (not (get_or xs place 0 == a) && is_withheld xs a)
listed_remove n [] place a within rise = absurd (omega arith)
listed_remove n (x ∷ xs) zero a within rise = by (x == a) refl where
  by : (b : Bool) → (x == a) ≡ b → is_withheld xs a ≡ (not b && (b || is_withheld xs a))
  by true e = none_listed (x + 1) xs a rise.1 (omega (arith, eqb-true x a e))
  by false e = refl
listed_remove n (x ∷ xs) (suc place) a within rise = by (x == a) (get_or xs place 0 == a) refl refl (listed_remove (x + 1) xs place a (omega arith) rise.1) where
  above : x < get_or xs place 0
  above = omega (arith, from_on (x + 1) (address_rows xs) rise.1 place (address_row 0) (omega (arith, length-map xs address_row)), address_at xs place (address_row 0) (omega arith))

  by : (b t : Bool) → (x == a) ≡ b → (get_or xs place 0 == a) ≡ t → is_withheld (remove xs place) a ≡ (not t && is_withheld xs a) → (b || is_withheld (remove xs place) a) ≡ (not t && (b || is_withheld xs a))
  by true true e f h = absurd (omega (arith, above, eqb-true x a e, eqb-true (get_or xs place 0) a f))
  by true false e f h = refl
  by false true e f h = h
  by false false e f h = h

-- if duplicates are dropped
listed_dedup_from : (k : ℕ) (xs : List ℕ) (a : ℕ) → is_withheld (dedup_from eqb k xs) a ≡ ((k == a) || is_withheld xs a)
listed_dedup_from k [] a = refl
listed_dedup_from k (x ∷ xs) a = by (x == k) refl (listed_dedup_from k xs a) (listed_dedup_from x xs a) where
  twice : (b c : Bool) → (b || c) ≡ (b || (b || c))
  twice true c = refl
  twice false c = refl

  by : (b : Bool) → (x == k) ≡ b → is_withheld (dedup_from eqb k xs) a ≡ ((k == a) || is_withheld xs a) → is_withheld (dedup_from eqb x xs) a ≡ ((x == a) || is_withheld xs a) → is_withheld (cond b (dedup_from eqb k xs) (k ∷ dedup_from eqb x xs)) a ≡ ((k == a) || ((x == a) || is_withheld xs a))
  by true e same next = same ∙ twice (k == a) (is_withheld xs a) ∙ ap (λ (n : ℕ). (k == a) || ((n == a) || is_withheld xs a)) (sym (eqb-true x k e))
  by false e same next = ap (λ (b : Bool). (k == a) || b) next

pub listed_dedup : (xs : List ℕ) (a : ℕ) → is_withheld (dedup eqb xs) a ≡ is_withheld xs a
listed_dedup [] a = refl
listed_dedup (x ∷ xs) a = listed_dedup_from x xs a

-- an address is one of them if it is at its index
pub listed_here : (xs : List ℕ) (a place x : ℕ) → Rise (address_rows xs) → IsPlace (address_rows xs) a place → place < length xs → address_row x ≡ get_or (address_rows xs) place (address_row x) → is_withheld xs a ≡ (x == a)
listed_here xs a place x rise p within is = sym (row_listed xs a) ∙ ⊎_elim
    (λ e. ap is_some ((is_at (address_rows xs) a place rise inside (λ d. read_at (address_rows xs) place (address_row x) d inside is ∙ e)).found (address_row x)) ∙ sym (eq-eqb x a e))
    (λ n. ap is_some (absent_at (address_rows xs) a place rise p (λ d within e. n (sym (read_at (address_rows xs) place (address_row x) d within is) ∙ e))) ∙ sym (ne_eqb x a n))
    (cases_eq x a) where
      inside : place < length (address_rows xs)
      inside = omega (arith, length-map xs address_row)

-- and is not one of them if there are no more from that index on
pub listed_past : (xs : List ℕ) (a place : ℕ) → Rise (address_rows xs) → IsPlace (address_rows xs) a place → length xs ≤ place → is_withheld xs a ≡ nat_lt place (length xs)
listed_past xs a place rise p past = sym (row_listed xs a) ∙ ap is_some (absent_at (address_rows xs) a place rise p (λ d within. absurd (omega (arith, length-map xs address_row)))) ∙ sym (le-ltb place (length xs) past)

-- the same for what is read there
pub listed_at : (xs : List ℕ) (a place : ℕ) → Rise (address_rows xs) → IsPlace (address_rows xs) a place → place < length xs → is_withheld xs a ≡ (get_or xs place 0 == a)
listed_at xs a place rise p within = listed_here xs a place (get_or xs place 0) rise p within (sym (get_or-map address_row xs place 0 (address_row (get_or xs place 0)) within))

-- if an address is not one of them, there is nothing to remove
pub listed_without : (xs : List ℕ) (address a : ℕ) → is_withheld xs address ≡ false → is_withheld xs a ≡ (not (address == a) && is_withheld xs a)
listed_without xs address a out = by (address == a) refl where
  by : (b : Bool) → (address == a) ≡ b → is_withheld xs a ≡ (not b && is_withheld xs a)
  by true e = subst (λ (n : ℕ). is_withheld xs n ≡ false) (eqb-true address a e) out
  by false e = refl
