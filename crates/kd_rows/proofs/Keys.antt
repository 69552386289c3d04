-- The order of keys, and positions in the index.
use Rattle.std.proofs.Common.{◌≡◌, ℕ, ◌+◌, ◌<◌, ◌≤◌, Bool, true, false, ◌||◌, ◌==◌, not, List, [], ◌∷◌, zero, suc, length, get_or, refl, sym, ap, ◌∙◌, subst, ◌⊎◌, inl, inr, ⊎_elim, if◌then◌else◌, nat_lt, ◌-◌, Some, is_some, arith}
use Rattle.std.specs.Cmp.{IsTotalOrder, nat_cmp_total}
use Rattle.std.specs.Cmp.Lexicographic.{nat_list_cmp_total}
use Rattle.std.specs.List.{insert, remove}
use Rattle.std.specs.Ordering.{is_lt}
use Rattle.std.specs.declared.cmp.Ordering.{Ordering}
use Rattle.std.specs.declared.cmp.Ordering.TheVariants.{Less, Equal, Greater}
use Rattle.std.proofs.lemmas.Bool.{cases_eq, cases_lt, eqb-true, false≢true}
use Rattle.std.proofs.lemmas.Bool.Decides.{nat_tests}
use Rattle.std.proofs.lemmas.List.Edits.{get_or-remove_above, get_or-remove_below, length-remove}
use Rattle.std.proofs.lemmas.Cmp.{on_total, then_total, tied_itself}
use Rattle.std.proofs.lemmas.Map.Lookups.{exact_bytes, exact_pairs, exact_unsigned}
use Rattle.kd_rows.specs.declared.row.Row.{Row}
use Rattle.kd_rows.specs.Ages.{AreBelow, AreNotBelow}
use Rattle.kd_rows.specs.Index.{IsRowPlace, IsKeyBelow, IsIndex, IsKeyPlace, Moves, Rises, age_at, age_of, lists, key_by, key_order, order_in}
use Rattle.kd_rows.specs.Table.{row_at}

pub keys_total : IsTotalOrder key_order
keys_total = then_total (on_total (λ (k : List ℕ × ℕ). k.0) nat_list_cmp_total) (on_total (λ (k : List ℕ × ℕ). k.1) nat_cmp_total)

pub same_keys : (k l : List ℕ × ℕ) → key_order k l ≡ Equal → k ≡ l
same_keys = exact_pairs _ _ exact_bytes exact_unsigned

pub below_trans : (k l m : List ℕ × ℕ) → IsKeyBelow k l → IsKeyBelow l m → IsKeyBelow k m
below_trans k l m = keys_total.trans k l m

pub not_below_itself : (k : List ℕ × ℕ) → IsKeyBelow k k → ⊥
not_below_itself k h = let e = tied_itself keys_total k in cc

-- of two keys that differ, one comes first
pub below_from : (k l : List ℕ × ℕ) → (k ≡ l → ⊥) → (IsKeyBelow l k → ⊥) → IsKeyBelow k l
below_from k l other not_above = by (key_order k l) refl where
  by : (o : Ordering) → key_order k l ≡ o → IsKeyBelow k l
  by Less e = e
  by Equal e = absurd (other (same_keys k l e))
  by Greater e = absurd (not_above (keys_total.antisymm l k ∙ rw e refl))

-- what a test of two keys says
pub below_if : (k l : List ℕ × ℕ) → is_lt (key_order k l) ≡ true → IsKeyBelow k l
below_if k l = by (key_order k l) where
  by : (o : Ordering) → is_lt o ≡ true → o ≡ Less
  by Less e = refl
  by Equal e = cc
  by Greater e = cc

pub not_below_if : (k l : List ℕ × ℕ) → is_lt (key_order k l) ≡ false → IsKeyBelow k l → ⊥
not_below_if k l e h = let g = ap is_lt h in cc

pub not_so : (b : Bool) → not b ≡ true → b ≡ false
not_so true h = absurd (false≢true h)
not_so false h = refl

-- half of the index is passed
pub low_more : (key : ℕ → List ℕ × ℕ) (index : List ℕ) (k : List ℕ × ℕ) (middle : ℕ) → Rises key index → middle < length index → IsKeyBelow (key (get_or index middle 0)) k → (i : ℕ) → i < middle + 1 → IsKeyBelow (key (get_or index i 0)) k
low_more key index k middle rising within here i before = by (cases_eq i middle) where
  by : (i ≡ middle) ⊎ (i ≡ middle → ⊥) → IsKeyBelow (key (get_or index i 0)) k
  by (inl e) = subst (λ (j : ℕ). IsKeyBelow (key (get_or index j 0)) k) (sym e) here
  by (inr n) = below_trans (key (get_or index i 0)) (key (get_or index middle 0)) k (rising i middle (omega arith) within) here

pub high_less : (key : ℕ → List ℕ × ℕ) (index : List ℕ) (k : List ℕ × ℕ) (middle : ℕ) → Rises key index → (IsKeyBelow (key (get_or index middle 0)) k → ⊥) → (i : ℕ) → middle ≤ i → i < length index → IsKeyBelow (key (get_or index i 0)) k → ⊥
high_less key index k middle rising here i after within h = by (cases_eq i middle) where
  by : (i ≡ middle) ⊎ (i ≡ middle → ⊥) → ⊥
  by (inl e) = here (subst (λ (j : ℕ). IsKeyBelow (key (get_or index j 0)) k) e h)
  by (inr n) = here (below_trans (key (get_or index middle 0)) (key (get_or index i 0)) k (rising middle i (omega arith) within) h)

-- the end of a search for an index: the key before it is below another, and the key at it is not
pub key_place_from : (key : ℕ → List ℕ × ℕ) (index : List ℕ) (k : List ℕ × ℕ) (place : ℕ) → Rises key index → place ≤ length index → (0 < place → is_lt (key_order (key (get_or index (place - 1) 0)) k) ≡ true) → (place < length index → is_lt (key_order (key (get_or index place 0)) k) ≡ false) → IsKeyPlace key index k place
key_place_from key index k place rising within low high = record {
  in_range = within;
  below = λ i before. low_more key index k (place - 1) rising (omega arith) (below_if _ k (low (omega arith))) i (omega arith);
  above = λ i after inside. high_less key index k place rising (not_below_if _ k (high (omega arith))) i after inside;
}

-- the key that a step of the search compares
pub read_key : (of : Row → List ℕ) (rows : List Row) (index : List ℕ) (k : List ℕ × ℕ) (middle at : ℕ) (order : List ℕ) (test : Bool) → at ≡ get_or index middle 0 → order ≡ order_in of (row_at rows at) → test ≡ is_lt (key_order (order, at) k) → test ≡ is_lt (key_order (key_by of rows (get_or index middle 0)) k)
read_key of rows index k middle at order test is from result = result ∙ ap (λ (x : List ℕ). is_lt (key_order (x, at) k)) from ∙ ap (λ (b : ℕ). is_lt (key_order (key_by of rows b) k)) is

-- an address that a list contains is at some index
pub record Stands (xs : List ℕ) (a : ℕ) : Type 0 where
  pub place : ℕ
  pub within : place < length xs
  pub here : get_or xs place 0 ≡ a

pub listed_at : (xs : List ℕ) (a : ℕ) → lists xs a ≡ true → Stands xs a
listed_at [] a h = absurd (false≢true h)
listed_at (x ∷ xs) a h = by (x == a) refl h (listed_at xs a) where
  by : (b : Bool) → (x == a) ≡ b → (b || lists xs a) ≡ true → (lists xs a ≡ true → Stands xs a) → Stands (x ∷ xs) a
  by true e h rest = record { place = 0; within = omega arith; here = eqb-true x a e }
  by false e h rest = let r = rest h in record { place = suc r.place; within = omega (arith, r.within); here = r.here }

-- an address of the index is at the index of its key
pub key_here : (key : ℕ → List ℕ × ℕ) (index : List ℕ) (a place : ℕ) → Rises key index → IsKeyPlace key index (key a) place → lists index a ≡ true → (place < length index) × (get_or index place 0 ≡ a)
key_here key index a place rising p h = by (listed_at index a h) where
  by : Stands index a → (place < length index) × (get_or index place 0 ≡ a)
  by s =
      ⊎_elim (λ before. absurd (not_below_itself (key a) (subst (λ (x : ℕ). IsKeyBelow (key x) (key a)) s.here (p.below s.place before))))
      (λ after. ⊎_elim (λ e. let w : place < length index = omega (arith, s.within) in (w, subst (λ (j : ℕ). get_or index j 0 ≡ a) e s.here))
      (λ n. absurd (p.above place (omega arith) (omega (arith, s.within)) (subst (λ (x : ℕ). IsKeyBelow (key (get_or index place 0)) (key x)) s.here (rising place s.place (omega arith) s.within))))
      (cases_eq s.place place))
      (cases_lt s.place place)

-- an index among the remaining ones after one is removed
pub place_left : (key : ℕ → List ℕ × ℕ) (index : List ℕ) (k : List ℕ × ℕ) (from place : ℕ) → from < length index → IsKeyPlace key index k place → IsKeyPlace key (remove index from) k (if nat_lt from place then place - 1 else place)
place_left key index k from place inside p = by (nat_lt from place) refl where
  n : length (remove index from) + 1 ≡ length index
  n = length-remove index from inside

  at : (i j : ℕ) → get_or (remove index from) i 0 ≡ get_or index j 0 → IsKeyBelow (key (get_or index j 0)) k → IsKeyBelow (key (get_or (remove index from) i 0)) k
  at i j e h = subst (λ (x : ℕ). IsKeyBelow (key x) k) (sym e) h

  off : (i j : ℕ) → get_or (remove index from) i 0 ≡ get_or index j 0 → (IsKeyBelow (key (get_or index j 0)) k → ⊥) → IsKeyBelow (key (get_or (remove index from) i 0)) k → ⊥
  off i j e h g = h (subst (λ (x : ℕ). IsKeyBelow (key x) k) e g)

  by : (b : Bool) → nat_lt from place ≡ b → IsKeyPlace key (remove index from) k (if b then place - 1 else place)
  by true e = let l : from < place = grind (arith, nat_tests) in record {
    in_range = omega (arith, n, p.in_range);
    below = λ i before. ⊎_elim
        (λ low. at i i (get_or-remove_below index from 0 i low inside) (p.below i (omega arith)))
        (λ high. at i (i + 1) (get_or-remove_above index from 0 i high inside) (p.below (i + 1) (omega arith)))
        (cases_lt i from);
    above = λ i after within. off i (i + 1) (get_or-remove_above index from 0 i (omega arith) inside) (p.above (i + 1) (omega arith) (omega (arith, n)));
  }
  by false e = let l : place ≤ from = grind (arith, nat_tests) in record {
    in_range = omega (arith, n);
    below = λ i before. at i i (get_or-remove_below index from 0 i (omega arith) inside) (p.below i before);
    above = λ i after within. ⊎_elim
        (λ low. off i i (get_or-remove_below index from 0 i low inside) (p.above i after (omega arith)))
        (λ high. off i (i + 1) (get_or-remove_above index from 0 i high inside) (p.above (i + 1) (omega arith) (omega (arith, n))))
        (cases_lt i from);
  }

-- a remaining index is within the old ones
pub left_within : (n from place : ℕ) → from < n → place ≤ n → (if nat_lt from place then place - 1 else place) < n
left_within n from place inside le = by (nat_lt from place) refl where
  by : (b : Bool) → nat_lt from place ≡ b → (if b then place - 1 else place) < n
  by true e = omega arith
  by false e = let l : place ≤ from = grind (arith, nat_tests) in omega arith

-- the address of a row is at the index of its key
pub row_here : (of : Row → List ℕ) (rows : List Row) (index order : List ℕ) (a place from : ℕ) (row : Row) → IsIndex of rows index → IsRowPlace rows a place → row ≡ get_or rows place row → order ≡ of row → IsKeyPlace (key_by of rows) index (order, a) from → (from < length index) × (get_or index from 0 ≡ a)
row_here of rows index order a place from row indexed at is theirs p = key_here (key_by of rows) index a from indexed.rising (subst (λ (c : List ℕ). IsKeyPlace (key_by of rows) index (c, a) from) (theirs ∙ sym (ap (order_in of) there)) p) (indexed.same a ∙ ap is_some there) where
  there : row_at rows a ≡ Some row
  there = at.found row ∙ ap Some (sym is)

-- an address that is removed there, and inserted at the index of another key, moves
pub moved_to : (key : ℕ → List ℕ × ℕ) (index new client : List ℕ) (a from place to : ℕ) → (from < length index) × (get_or index from 0 ≡ a) → IsKeyPlace key index (client, a) place → to ≡ (if nat_lt from place then place - 1 else place) → new ≡ insert (remove index from) to (get_or index from 0) → Moves key index (client, a) new
moved_to key index new client a from place to here p is put =
    (remove index from, (from, here.0, here.1, refl), (to, subst (IsKeyPlace key (remove index from) (client, a)) (sym is) (place_left key index (client, a) from place here.0 p), put ∙ ap (insert (remove index from) to) here.1))

-- the address of a row is at the index of its age
pub age_here : (cuts : List ℕ) (rows : List Row) (ages : List ℕ) (k : List ℕ × ℕ) (a place from : ℕ) (row : Row) → IsIndex (age_of cuts) rows ages → IsRowPlace rows a place → row ≡ get_or rows place row → k ≡ (age_of cuts row, row.address) → IsKeyPlace (age_at cuts rows) ages k from → (from < length ages) × (get_or ages from 0 ≡ a)
age_here cuts rows ages k a place from row indexed at is key p =
    row_here (age_of cuts) rows ages (age_of cuts row) a place from row indexed at is refl
    (subst (λ (l : List ℕ × ℕ). IsKeyPlace (age_at cuts rows) ages l from) (key ∙ ap (λ (b : ℕ). (age_of cuts row, b)) (ap (λ (r : Row). r.address) is ∙ at.here row)) p)

-- what is removed and put back
put_back : (xs : List ℕ) (place : ℕ) → place < length xs → insert (remove xs place) place (get_or xs place 0) ≡ xs
put_back [] place within = absurd (omega arith)
put_back (x ∷ xs) zero within = refl
put_back (x ∷ xs) (suc place) within = ap (λ (ys : List ℕ). x ∷ ys) (put_back xs place (omega arith))

-- an address moves to the place that it already has, if its neighbours stay on both sides
pub stays : (key : ℕ → List ℕ × ℕ) (index order : List ℕ) (a place : ℕ) → (place < length index) × (get_or index place 0 ≡ a) → AreBelow key index place (order, a) → AreNotBelow key index (place + 1) (order, a) → Moves key index (order, a) index
stays key index order a place here below above =
    (remove index place, (place, here.0, here.1, refl), (place, at, sym (ap (insert (remove index place) place) (sym here.1) ∙ put_back index place here.0))) where
      at : IsKeyPlace key (remove index place) (order, a) place
      at = record {
        in_range = omega (arith, length-remove index place here.0, here.0);
        below = λ i low. subst (λ (x : ℕ). IsKeyBelow (key x) (order, a)) (sym (get_or-remove_below index place 0 i low here.0)) (below i low);
        above = λ i high within h. above (i + 1) (omega arith) (omega (arith, length-remove index place here.0)) (subst (λ (x : ℕ). IsKeyBelow (key x) (order, a)) (get_or-remove_above index place 0 i high here.0) h);
      }
