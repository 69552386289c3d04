-- The numbers of rows in ascending order of address, sorted by key and then by number.
use Rattle.std.proofs.Common.{◌≡◌, ℕ, ◌+◌, ◌-◌, ◌<◌, ◌^◌, Bor, Bool, true, false, ◌&&◌, ◌||◌, not, List, [], ◌∷◌, ◌++◌, length, get_or, map, zero, suc, refl, sym, ap, ◌∙◌, subst, ⊎_elim, arith, ◌==◌, nat_lt}
use Rattle.std.specs.List.{All, IsDistinct, list_any, range_with_len}
use Rattle.std.specs.Cmp.Lexicographic.{slice_cmp}
use Rattle.std.specs.List.Sorted.{IsPermutation, IsSortedBy}
use Rattle.std.specs.Ordering.{is_lt, nat_cmp, ordering_then}
use Rattle.std.specs.declared.cmp.Ordering.{Ordering}
use Rattle.std.proofs.lemmas.Bool.{cases_eq, cases_lt, eq-eqb, ne_eqb, false≢true}
use Rattle.std.proofs.lemmas.Bool.Decides.{nat_tests}
use Rattle.std.proofs.lemmas.List.{get_or-map, get_or_default, length-map, map-append}
use Rattle.std.proofs.lemmas.List.Elements.{All-push}
use Rattle.std.proofs.lemmas.List.FromFn.{get_or-range_with_len, length-range_with_len, map-range_with_len_more}
use Rattle.std.proofs.lemmas.List.Sorted.{All-permutation, list_any-IsPermutation}
use Rattle.std.proofs.lemmas.Map.Keys.{IsDistinct-IsPermutation, IsDistinct-from_apart, apart_from_distinct}
use Rattle.kd_rows.specs.declared.row.Row.{Row}
use Rattle.kd_rows.specs.Index.{AreKeys, IsKeyBelow, IsByKey, Rises, age_key, age_of, key_in, key_order, lists, row_in}
use Rattle.kd_rows.specs.Zones.{group_in}
use Rattle.kd_rows.specs.Table.{Rise}
use Rattle.kd_rows.proofs.Ages.{age_order, sorted_alike}
use Rattle.kd_rows.proofs.Indexes.{at_lists}
use Rattle.kd_rows.proofs.Keys.{below_from, below_trans}
use Rattle.kd_rows.proofs.Places.{apart}

-- which numbers are among the first
lists_range : (start count n : ℕ) → lists (range_with_len start count) n ≡ (not (nat_lt n start) && nat_lt n (start + count))
lists_range start zero n = grind (arith, nat_tests)
lists_range start (suc count) n = let h = lists_range (start + 1) count n in grind (arith, nat_tests)

pub lists_first : (count n : ℕ) → lists (range_with_len 0 count) n ≡ nat_lt n count
lists_first count n = let h = lists_range 0 count n in grind (arith, nat_tests)

any_of : {X : Type 0} (number : X → ℕ) (keys : List X) (n : ℕ) → list_any (λ x. number x == n) keys ≡ lists (map number keys) n
any_of number [] n = refl
any_of number (x ∷ keys) n = by (number x == n) (any_of number keys n) where
  by : (b : Bool) → list_any (λ x. number x == n) keys ≡ lists (map number keys) n → (b || list_any (λ x. number x == n) keys) ≡ (b || lists (map number keys) n)
  by true h = refl
  by false h = h

-- if each key is below the next, it is below all after it
rises_by_steps : (f : ℕ → List ℕ × ℕ) (xs : List ℕ) → ((k : ℕ) → k + 1 < length xs → IsKeyBelow (f (get_or xs k 0)) (f (get_or xs (k + 1) 0))) → Rises f xs
rises_by_steps f xs steps i zero order within = absurd (omega arith)
rises_by_steps f xs steps i (suc j) order within = ⊎_elim
    (λ e. subst (λ (n : ℕ). IsKeyBelow (f (get_or xs n 0)) (f (get_or xs (suc j) 0))) (sym e) last)
    (λ n. below_trans (f (get_or xs i 0)) (f (get_or xs j 0)) (f (get_or xs (suc j) 0)) (rises_by_steps f xs steps i j (omega arith) (omega arith)) last)
    (cases_eq i j) where
      next : j + 1 ≡ suc j
      next = omega arith

      last : IsKeyBelow (f (get_or xs j 0)) (f (get_or xs (suc j) 0))
      last = subst (λ (n : ℕ). IsKeyBelow (f (get_or xs j 0)) (f (get_or xs n 0))) next (steps j (omega arith))

-- a row is at only one index
pub one : (slots : List Row) → Rise slots → (n m : ℕ) → n < length slots → m < length slots → (row_in slots n).address ≡ (row_in slots m).address → n ≡ m
one slots rise n m left right same = ⊎_elim
    (λ l. absurd (omega (arith, apart slots rise n m (row_in [] 0) (omega arith) right)))
    (λ l. ⊎_elim (λ e. e) (λ ne. absurd (omega (arith, apart slots rise m n (row_in [] 0) l left))) (cases_eq n m))
    (cases_lt n m)

-- one more key
pub keys_more : {X : Type 0} (key : X → List ℕ × ℕ) (number : X → ℕ) (of : Row → List ℕ) (slots : List Row) (i : ℕ) (keys : List X) (x : X) → AreKeys key number of slots i keys → number x ≡ i → key x ≡ key_in of slots i → AreKeys key number of slots (i + 1) (keys ++ x ∷ [])
keys_more key number of slots i keys x are is same_key = record {
  numbers = map-append number keys (x ∷ []) ∙ ap (λ (xs : List ℕ). xs ++ number x ∷ []) are.numbers ∙ ap (λ (n : ℕ). range_with_len 0 i ++ n ∷ []) is ∙ sym (range_more i);
  keyed = All-push (λ y. key y ≡ key_in of slots (number y)) keys x are.keyed (same_key ∙ ap (key_in of slots) (sym is));
} where
  same : (xs : List ℕ) → map (λ n. n) xs ≡ xs
  same [] = refl
  same (x ∷ xs) = ap (λ (ys : List ℕ). x ∷ ys) (same xs)

  range_more : (i : ℕ) → range_with_len 0 (i + 1) ≡ range_with_len 0 i ++ i ∷ []
  range_more i = sym (same (range_with_len 0 (i + 1))) ∙ map-range_with_len_more (λ n. n) 0 i i (omega arith) ∙ ap (λ (xs : List ℕ). xs ++ i ∷ []) (same (range_with_len 0 i))

-- what is read of a row is the key of its number
pub one_key : (of : Row → List ℕ) (slots : List Row) (i : ℕ) (row : Row) (order : List ℕ) (address : ℕ) → i < length slots → row ≡ get_or slots i row → order ≡ of row → address ≡ row.address → ◌≡◌ {A = List ℕ × ℕ} (order, address) (key_in of slots i)
one_key of slots i row order address within is theirs at =
    let here : row ≡ row_in slots i = is ∙ get_or_default slots i row (row_in [] 0) within in
    ap (λ (c : List ℕ). (c, address)) (theirs ∙ ap of here) ∙ ap (λ (a : ℕ). (of (row_in slots i), a)) (at ∙ ap (λ (r : Row). r.address) here)

-- no two keys have one number
keys_apart : {X : Type 0} (key : X → List ℕ × ℕ) (number : X → ℕ) (of : Row → List ℕ) (slots : List Row) (count : ℕ) (keys : List X) → AreKeys key number of slots count keys → IsDistinct (λ x y. number x == number y) keys
keys_apart {X} key number of slots count keys are = IsDistinct-from_apart (λ x y. number x == number y) keys
    (λ i j d order within. rw (here i d (omega arith), here j d within) (ne_eqb i j (λ e. omega arith))) where
      count_is : length keys ≡ count
      count_is = sym (length-map keys number) ∙ ap length are.numbers ∙ length-range_with_len 0 count

      here : (i : ℕ) (d : X) → i < length keys → number (get_or keys i d) ≡ i
      here i d within = sym (get_or-map number keys i d 0 within) ∙ ap (λ (xs : List ℕ). get_or xs i 0) are.numbers ∙ get_or-range_with_len 0 count i 0 (omega (arith, count_is)) ∙ (omega arith)

-- by key, then by number
abbrev pub whole_order : List ℕ × ℕ → ℕ → List ℕ × ℕ → ℕ → Ordering
whole_order k n l m = ordering_then (key_order k l) (nat_cmp n m)

below_whole : (k l : List ℕ × ℕ) (n m : ℕ) → IsKeyBelow k l → is_lt (whole_order k n l m) ≡ true
below_whole k l n m below = rw below refl

-- the numbers of sorted keys
pub sorted_numbers : {X : Type 0} (key : X → List ℕ × ℕ) (number : X → ℕ) (of : Row → List ℕ) (slots : List Row) (keys sorted : List X) → Rise slots → AreKeys key number of slots (length slots) keys → IsPermutation keys sorted
    → IsSortedBy (λ x y. is_lt (whole_order (key x) (number x) (key y) (number y))) sorted → IsByKey of slots (map number sorted)
sorted_numbers {X} key number of slots keys sorted rise are moved order = record { same = same; rising = rises_by_steps (key_in of slots) (map number sorted) steps } where
  same : (n : ℕ) → lists (map number sorted) n ≡ nat_lt n (length slots)
  same n =
      sym (any_of number sorted n) ∙ sym (list_any-IsPermutation (λ x. number x == n) keys sorted moved) ∙ any_of number keys n ∙ ap (λ (xs : List ℕ). lists xs n) are.numbers
      ∙ lists_first (length slots) n

  keyed : All (λ x. key x ≡ key_in of slots (number x)) sorted
  keyed = All-permutation (λ x. key x ≡ key_in of slots (number x)) keys sorted moved are.keyed

  apart_sorted : IsDistinct (λ x y. number x == number y) sorted
  apart_sorted = IsDistinct-IsPermutation (λ x y. number x == number y) (λ x y. flip (number x) (number y)) keys sorted moved (keys_apart key number of slots (length slots) keys are) where
    flip : (a b : ℕ) → (a == b) ≡ (b == a)
    flip a b = grind (arith, nat_tests)

  within : (k : ℕ) (d : X) → k < length sorted → number (get_or sorted k d) < length slots
  within k d inside = below _ _ (sym (same (number (get_or sorted k d))) ∙ ap (lists (map number sorted)) (sym (get_or-map number sorted k d 0 inside)) ∙ at_lists (map number sorted) k (omega (arith, length-map sorted number))) where
    below : (a b : ℕ) → nat_lt a b ≡ true → a < b
    below a b h = grind (arith, nat_tests)

  step : (k : ℕ) (d : X) → k + 1 < length sorted → IsKeyBelow (key (get_or sorted k d)) (key (get_or sorted (k + 1) d))
  step k d inside = below_from (key x) (key y) other above where
    x : X
    x = get_or sorted k d

    y : X
    y = get_or sorted (k + 1) d

    above : IsKeyBelow (key y) (key x) → ⊥
    above h = false≢true (sym (order k d (omega arith) inside) ∙ below_whole (key y) (key x) (number y) (number x) h)

    other : key x ≡ key y → ⊥
    other e =
        let same_address : (row_in slots (number x)).address ≡ (row_in slots (number y)).address = ap (λ (l : List ℕ × ℕ). l.1) (sym (keyed k d (omega arith)) ∙ e ∙ keyed (k + 1) d inside) in
        false≢true (sym (apart_from_distinct (λ x y. number x == number y) sorted k (k + 1) d apart_sorted (omega arith) inside) ∙ eq-eqb (number x) (number y) (one slots rise (number x) (number y) (within k d (omega arith)) (within (k + 1) d inside) same_address))

  steps : (k : ℕ) → k + 1 < length (map number sorted) → IsKeyBelow (key_in of slots (get_or (map number sorted) k 0)) (key_in of slots (get_or (map number sorted) (k + 1) 0))
  steps k inside = by sorted refl where
    by : (xs : List X) → sorted ≡ xs → IsKeyBelow (key_in of slots (get_or (map number sorted) k 0)) (key_in of slots (get_or (map number sorted) (k + 1) 0))
    by [] e = absurd (omega (arith, length-map sorted number, ap length e))
    by (d ∷ xs) e =
        let n : k + 1 < length sorted = omega (arith, length-map sorted number) in
        let this : key (get_or sorted k d) ≡ key_in of slots (get_or (map number sorted) k 0) = keyed k d (omega arith) ∙ ap (key_in of slots) (sym (get_or-map number sorted k d 0 (omega arith))) in
        let next : key (get_or sorted (k + 1) d) ≡ key_in of slots (get_or (map number sorted) (k + 1) 0) = keyed (k + 1) d n ∙ ap (key_in of slots) (sym (get_or-map number sorted (k + 1) d 0 n)) in
        subst (λ (l : List ℕ × ℕ). IsKeyBelow l (key_in of slots (get_or (map number sorted) (k + 1) 0))) this (subst (λ (l : List ℕ × ℕ). IsKeyBelow (key (get_or sorted k d)) l) next (step k d n))

-- what is read of a row is what it is ordered by in the age order
pub age_is : (cuts : List ℕ) (client : List ℕ) (group left : ℕ) (row : Row) → client ≡ row.client → group ≡ group_in cuts row → left ≡ 2 ^ 64 - 1 - row.changed → age_key client group left ≡ age_of cuts row
age_is cuts client group left row theirs kind when =
    ap (λ (c : List ℕ). age_key c group left) theirs ∙ ap (λ (s : ℕ). age_key row.client s left) kind ∙ ap (age_key row.client (group_in cuts row)) when

-- keys sorted by client, by group and age, by address and by number are sorted as whole keys
pub sorted_ages : (keys : List (Bor (List ℕ) × (ℕ × ℕ) × ℕ × ℕ)) → IsSortedBy (λ x y. is_lt (ordering_then (ordering_then (ordering_then (slice_cmp nat_cmp x.0.now y.0.now) (ordering_then (nat_cmp x.1.0 y.1.0) (nat_cmp x.1.1 y.1.1))) (nat_cmp x.2 y.2)) (nat_cmp x.3 y.3))) keys
    → IsSortedBy (λ x y. is_lt (whole_order (age_key x.0.now x.1.0 x.1.1, x.2) x.3 (age_key y.0.now y.1.0 y.1.1, y.2) y.3)) keys
sorted_ages keys sorted = sorted_alike _ _ (λ x y. ap (λ (o : Ordering). is_lt (ordering_then (ordering_then o (nat_cmp x.2 y.2)) (nat_cmp x.3 y.3))) (age_order x.0.now y.0.now x.1.0 y.1.0 x.1.1 y.1.1)) keys sorted
