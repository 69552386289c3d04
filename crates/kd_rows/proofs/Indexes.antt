-- The index after an address is removed or inserted.
use Rattle.std.proofs.Common.{◌≡◌, ℕ, ◌+◌, ◌-◌, ◌<◌, ◌≤◌, Bool, true, false, ◌||◌, List, [], ◌∷◌, ◌++◌, length, get_or, take, drop, zero, suc, refl, sym, ap, ◌∙◌, subst, Option, Some, None, is_some, ⊎_elim, arith, if◌then◌else◌, ◌==◌, nat_lt, map}
use Rattle.std.specs.List.{insert, remove}
use Rattle.std.proofs.lemmas.Bool.{cases_Bool, cases_eq, cases_lt, eqb-true, eq-eqb, ne_eqb, false≢true}
use Rattle.std.proofs.lemmas.Bool.Decides.{nat_tests}
use Rattle.std.proofs.lemmas.List.{drop_more, get_or-map, length-map, take-append-drop}
use Rattle.std.proofs.lemmas.List.Edits.{get_or-insert_above, get_or-insert_at, get_or-insert_below, get_or-remove_above, get_or-remove_below, length-insert, length-remove}
use Rattle.kd_rows.specs.declared.row.Row.{Row}
use Rattle.kd_rows.specs.Index.{PutsAt, IsKeyBelow, IsByKey, IsIndex, IsKeyPlace, Moves, Rises, Takes, addresses_in, client_at, client_in, client_of, lists, key_at, key_by, key_in, order_in, row_in}
use Rattle.kd_rows.specs.Table.{Rise, row_at, with_row}
use Rattle.kd_rows.proofs.Keys.{Stands, below_from, listed_at, not_below_itself}
use Rattle.kd_rows.proofs.Places.{is_at, same_at}
use Rattle.kd_rows.proofs.Sets.{row_at-with_row}

join : (g : ℕ → List ℕ × ℕ) (x y u v : ℕ) → u ≡ x → v ≡ y → IsKeyBelow (g x) (g y) → IsKeyBelow (g u) (g v)
join g x y u v e f h = subst (λ (z : ℕ). IsKeyBelow (g u) (g z)) (sym f) (subst (λ (z : ℕ). IsKeyBelow (g z) (g y)) (sym e) h)

-- one index up or down
up : (index : List ℕ) (place x i : ℕ) → place ≤ length index → place < i → get_or (insert index place x) i 0 ≡ get_or index (i - 1) 0
up index place x i within after =
    let e : i - 1 + 1 ≡ i = omega arith in
    subst (λ (j : ℕ). get_or (insert index place x) j 0 ≡ get_or index (i - 1) 0) e (get_or-insert_above index place x 0 (i - 1) (omega arith) within)

pub rises_insert : (f g : ℕ → List ℕ × ℕ) (index : List ℕ) (k : List ℕ × ℕ) (place : ℕ) → Rises f index → IsKeyPlace f index k place → ((i : ℕ) → i < length index → g (get_or index i 0) ≡ f (get_or index i 0)) → g k.1 ≡ k → ((i : ℕ) → i < length index → k ≡ f (get_or index i 0) → ⊥) → Rises g (insert index place k.1)
rises_insert f g index k place rising p agree mine other i j order within =
    ⊎_elim before (λ after. ⊎_elim at (behind after) (cases_eq j place)) (cases_lt j place) where
      n : i < length index
      n = omega (arith, length-insert index place k.1 p.in_range)

      m : j < length index + 1
      m = omega (arith, length-insert index place k.1 p.in_range)

      rises : (i j : ℕ) → i < j → j < length index → IsKeyBelow (g (get_or index i 0)) (g (get_or index j 0))
      rises i j order within = subst (λ (l : List ℕ × ℕ). IsKeyBelow (g (get_or index i 0)) l) (sym (agree j within)) (subst (λ (l : List ℕ × ℕ). IsKeyBelow l (f (get_or index j 0))) (sym (agree i (omega arith))) (rising i j order within))

      low : (i : ℕ) → i < length index → i < place → IsKeyBelow (g (get_or index i 0)) (g k.1)
      low i within before = subst (λ (l : List ℕ × ℕ). IsKeyBelow (g (get_or index i 0)) l) (sym mine) (subst (λ (l : List ℕ × ℕ). IsKeyBelow l k) (sym (agree i within)) (p.below i before))

      high : (i : ℕ) → place ≤ i → i < length index → IsKeyBelow (g k.1) (g (get_or index i 0))
      high i after within = subst (λ (l : List ℕ × ℕ). IsKeyBelow (g k.1) l) (sym (agree i within)) (subst (λ (l : List ℕ × ℕ). IsKeyBelow l (f (get_or index i 0))) (sym mine) (below_from k (f (get_or index i 0)) (other i within) (p.above i after within)))

      before : j < place → IsKeyBelow (g (get_or (insert index place k.1) i 0)) (g (get_or (insert index place k.1) j 0))
      before l = join g (get_or index i 0) (get_or index j 0) _ _ (get_or-insert_below index place k.1 0 i (omega arith) p.in_range) (get_or-insert_below index place k.1 0 j l p.in_range) (rises i j order (omega (arith, p.in_range)))

      at : j ≡ place → IsKeyBelow (g (get_or (insert index place k.1) i 0)) (g (get_or (insert index place k.1) j 0))
      at e = join g (get_or index i 0) k.1 _ _ (get_or-insert_below index place k.1 0 i (omega arith) p.in_range) (subst (λ (x : ℕ). get_or (insert index place k.1) x 0 ≡ k.1) (sym e) (get_or-insert_at index place k.1 0 p.in_range)) (low i n (omega arith))

      behind : place ≤ j → (j ≡ place → ⊥) → IsKeyBelow (g (get_or (insert index place k.1) i 0)) (g (get_or (insert index place k.1) j 0))
      behind after ne =
          ⊎_elim (λ l. join g (get_or index i 0) (get_or index (j - 1) 0) _ _ (get_or-insert_below index place k.1 0 i l p.in_range) (up index place k.1 j p.in_range (omega arith)) (rises i (j - 1) (omega arith) (omega (arith, m))))
          (λ a. ⊎_elim (λ e. join g k.1 (get_or index (j - 1) 0) _ _ (subst (λ (x : ℕ). get_or (insert index place k.1) x 0 ≡ k.1) (sym e) (get_or-insert_at index place k.1 0 p.in_range)) (up index place k.1 j p.in_range (omega arith)) (high (j - 1) (omega arith) (omega (arith, m))))
          (λ u. join g (get_or index (i - 1) 0) (get_or index (j - 1) 0) _ _ (up index place k.1 i p.in_range (omega arith)) (up index place k.1 j p.in_range (omega arith)) (rises (i - 1) (j - 1) (omega arith) (omega (arith, m))))
          (cases_eq i place))
          (cases_lt i place)

pub rises_remove : (f : ℕ → List ℕ × ℕ) (index : List ℕ) (place : ℕ) → Rises f index → place < length index → Rises f (remove index place)
rises_remove f index place rising inside i j order within =
    ⊎_elim (λ l. join f (get_or index i 0) (get_or index j 0) _ _ (get_or-remove_below index place 0 i (omega arith) inside) (get_or-remove_below index place 0 j l inside) (rising i j order (omega arith)))
    (λ l. ⊎_elim (λ b. join f (get_or index i 0) (get_or index (j + 1) 0) _ _ (get_or-remove_below index place 0 i b inside) (get_or-remove_above index place 0 j l inside) (rising i (j + 1) (omega arith) (omega (arith, length-remove index place inside))))
    (λ a. join f (get_or index (i + 1) 0) (get_or index (j + 1) 0) _ _ (get_or-remove_above index place 0 i a inside) (get_or-remove_above index place 0 j l inside) (rising (i + 1) (j + 1) (omega arith) (omega (arith, length-remove index place inside)))) (cases_lt i place))
    (cases_lt j place)

-- which addresses there are
pub lists-append : (xs ys : List ℕ) (a : ℕ) → lists (xs ++ ys) a ≡ (lists xs a || lists ys a)
lists-append [] ys a = refl
lists-append (x ∷ xs) ys a = by (x == a) (lists-append xs ys a) where
  by : (b : Bool) → lists (xs ++ ys) a ≡ (lists xs a || lists ys a) → (b || lists (xs ++ ys) a) ≡ ((b || lists xs a) || lists ys a)
  by true h = refl
  by false h = h

turned : (s t u : Bool) → (s || (t || u)) ≡ (t || (s || u))
turned true true u = refl
turned true false u = refl
turned false t u = refl

pub lists-insert : (xs : List ℕ) (place x a : ℕ) → lists (insert xs place x) a ≡ ((x == a) || lists xs a)
lists-insert xs place x a =
    lists-append (take place xs) (x ∷ drop place xs) a ∙ turned (lists (take place xs) a) (x == a) (lists (drop place xs) a)
    ∙ ap (λ (b : Bool). (x == a) || b) (sym (lists-append (take place xs) (drop place xs) a) ∙ ap (λ (ys : List ℕ). lists ys a) (take-append-drop place xs))

-- the others stay when one is removed
lists-remove_other : (xs : List ℕ) (place a : ℕ) → place < length xs → (get_or xs place 0 == a) ≡ false → lists (remove xs place) a ≡ lists xs a
lists-remove_other xs place a within other =
    lists-append (take place xs) (drop (suc place) xs) a ∙ ap (λ (b : Bool). lists (take place xs) a || b) (sym tail)
    ∙ sym (lists-append (take place xs) (drop place xs) a) ∙ ap (λ (ys : List ℕ). lists ys a) (take-append-drop place xs) where
      next : place + 1 ≡ suc place
      next = omega arith

      tail : lists (drop place xs) a ≡ lists (drop (suc place) xs) a
      tail = ap (λ (ys : List ℕ). lists ys a) (drop_more xs place 0 within) ∙ rw other (ap (λ (n : ℕ). lists (drop n xs) a) next)

-- and that one does not, because each occurs once
lists-remove_this : (f : ℕ → List ℕ × ℕ) (xs : List ℕ) (place : ℕ) → Rises f xs → place < length xs → lists (remove xs place) (get_or xs place 0) ≡ false
lists-remove_this f xs place rising inside = ⊎_elim (λ h. absurd (twice (listed_at (remove xs place) (get_or xs place 0) h))) (λ e. e) (cases_Bool (lists (remove xs place) (get_or xs place 0))) where
  twice : Stands (remove xs place) (get_or xs place 0) → ⊥
  twice s =
      ⊎_elim (λ l. not_below_itself (f (get_or xs place 0)) (subst (λ (x : ℕ). IsKeyBelow (f x) (f (get_or xs place 0))) (sym (get_or-remove_below xs place 0 s.place l inside) ∙ s.here) (rising s.place place l inside)))
      (λ l. not_below_itself (f (get_or xs place 0)) (subst (λ (x : ℕ). IsKeyBelow (f (get_or xs place 0)) (f x)) (sym (get_or-remove_above xs place 0 s.place l inside) ∙ s.here) (rising place (s.place + 1) (omega arith) (omega (arith, s.within, length-remove xs place inside)))))
      (cases_lt s.place place)

pub at_lists : (xs : List ℕ) (i : ℕ) → i < length xs → lists xs (get_or xs i 0) ≡ true
at_lists [] i within = absurd (omega arith)
at_lists (x ∷ xs) zero within = rw (eq-eqb x x refl) refl
at_lists (x ∷ xs) (suc i) within = by (x == get_or xs i 0) (at_lists xs i (omega arith)) where
  by : (b : Bool) → lists xs (get_or xs i 0) ≡ true → (b || lists xs (get_or xs i 0)) ≡ true
  by true h = refl
  by false h = h

not_there : (xs : List ℕ) (a : ℕ) → lists xs a ≡ false → (i : ℕ) → i < length xs → a ≡ get_or xs i 0 → ⊥
not_there xs a out i within e = false≢true (sym out ∙ (ap (lists xs) e ∙ at_lists xs i within))

order_after : (of : Row → List ℕ) (row : Row) (rows : List Row) (a : ℕ) → order_in of (row_at (with_row row rows) a) ≡ (if row.address == a then of row else order_in of (row_at rows a))
order_after of row rows a = ap (order_in of) (row_at-with_row row rows a) ∙ by (row.address == a) where
  by : (b : Bool) → order_in of (if b then Some row else row_at rows a) ≡ (if b then of row else order_in of (row_at rows a))
  by true = refl
  by false = refl

is_there : (row : Row) (rows : List Row) (a : ℕ) → is_some (row_at (with_row row rows) a) ≡ ((row.address == a) || is_some (row_at rows a))
is_there row rows a = ap is_some (row_at-with_row row rows a) ∙ by (row.address == a) where
  by : (b : Bool) → is_some (if b then Some row else row_at rows a) ≡ (b || is_some (row_at rows a))
  by true = refl
  by false = refl

-- an address is inserted in an index of the others
given : (of : Row → List ℕ) (rows : List Row) (row : Row) (old new : List ℕ) → Rises (key_by of rows) old → PutsAt (key_by of rows) old (of row, row.address) new → ((a : ℕ) → lists old a ≡ (if row.address == a then false else is_some (row_at rows a))) → IsIndex of (with_row row rows) new
given of rows row old new rising gives others = subst (IsIndex of (with_row row rows)) (sym gives.2) (record { same = same; rising = rises }) where
  out : lists old row.address ≡ false
  out = others row.address ∙ rw (eq-eqb row.address row.address refl) refl

  same : (a : ℕ) → lists (insert old gives.0 row.address) a ≡ is_some (row_at (with_row row rows) a)
  same a = lists-insert old gives.0 row.address a ∙ by (row.address == a) (others a) ∙ sym (is_there row rows a) where
    by : (b : Bool) → lists old a ≡ (if b then false else is_some (row_at rows a)) → (b || lists old a) ≡ (b || is_some (row_at rows a))
    by true h = refl
    by false h = h

  agree : (i : ℕ) → i < length old → key_by of (with_row row rows) (get_or old i 0) ≡ key_by of rows (get_or old i 0)
  agree i within = ap (λ (c : List ℕ). (c, get_or old i 0)) (order_after of row rows (get_or old i 0) ∙ rw (ne_eqb row.address (get_or old i 0) (not_there old row.address out i within)) refl)

  mine : key_by of (with_row row rows) row.address ≡ (of row, row.address)
  mine = ap (λ (c : List ℕ). (c, row.address)) (order_after of row rows row.address ∙ rw (eq-eqb row.address row.address refl) refl)

  rises : Rises (key_by of (with_row row rows)) (insert old gives.0 row.address)
  rises = rises_insert (key_by of rows) (key_by of (with_row row rows)) old (of row, row.address) gives.0 rising gives.1 agree mine (λ i within e. not_there old row.address out i within (ap (λ (k : List ℕ × ℕ). k.1) e))

-- the index after a new address is set
pub new_index : (of : Row → List ℕ) (rows : List Row) (row : Row) (old new : List ℕ) → IsIndex of rows old → row_at rows row.address ≡ None → PutsAt (key_by of rows) old (of row, row.address) new → IsIndex of (with_row row rows) new
new_index of rows row old new indexed none gives = given of rows row old new indexed.rising gives others where
  others : (a : ℕ) → lists old a ≡ (if row.address == a then false else is_some (row_at rows a))
  others a = indexed.same a ∙ by (row.address == a) refl where
    by : (b : Bool) → (row.address == a) ≡ b → is_some (row_at rows a) ≡ (if b then false else is_some (row_at rows a))
    by true e = ap is_some (subst (λ (x : ℕ). row_at rows x ≡ None) (eqb-true row.address a e) none)
    by false e = refl

pub rises_taken : (f : ℕ → List ℕ × ℕ) (old : List ℕ) (a : ℕ) (between : List ℕ) → Rises f old → Takes old a between → Rises f between
rises_taken f old a between rising takes = subst (Rises f) (sym takes.3) (rises_remove f old takes.0 rising takes.1)

-- the index after an address moves to another place
pub moved_index : (of : Row → List ℕ) (rows : List Row) (row : Row) (old new : List ℕ) → IsIndex of rows old → Moves (key_by of rows) old (of row, row.address) new → IsIndex of (with_row row rows) new
moved_index of rows row old new indexed moves = given of rows row moves.0 new (rises_taken (key_by of rows) old row.address moves.0 indexed.rising moves.1) moves.2 others where
  others : (a : ℕ) → lists moves.0 a ≡ (if row.address == a then false else is_some (row_at rows a))
  others a = ap (λ (xs : List ℕ). lists xs a) moves.1.3 ∙ by (row.address == a) refl where
    by : (b : Bool) → (row.address == a) ≡ b → lists (remove old moves.1.0) a ≡ (if b then false else is_some (row_at rows a))
    by true e = subst (λ (x : ℕ). lists (remove old moves.1.0) x ≡ false) (moves.1.2 ∙ eqb-true row.address a e) (lists-remove_this (key_by of rows) old moves.1.0 indexed.rising moves.1.1)
    by false e = lists-remove_other old moves.1.0 a moves.1.1 (subst (λ (x : ℕ). (x == a) ≡ false) (sym moves.1.2) e) ∙ indexed.same a

rises_along : (f g : ℕ → List ℕ × ℕ) (index : List ℕ) → ((a : ℕ) → g a ≡ f a) → Rises f index → Rises g index
rises_along f g index agree rising i j order within = subst (λ (l : List ℕ × ℕ). IsKeyBelow (g (get_or index i 0)) l) (sym (agree (get_or index j 0))) (subst (λ (l : List ℕ × ℕ). IsKeyBelow l (f (get_or index j 0))) (sym (agree (get_or index i 0))) (rising i j order within))

-- the index after a row is set at an address whose client stays the same
pub same_index : (rows : List Row) (row r : Row) (old : List ℕ) → IsIndex client_of rows old → row_at rows row.address ≡ Some r → r.client ≡ row.client → IsIndex client_of (with_row row rows) old
same_index rows row r old indexed found client = record {
  same = λ a. indexed.same a ∙ sym (is_there row rows a ∙ there (row.address == a) a refl);
  rising = rises_along (key_at rows) (key_at (with_row row rows)) old (λ a. ap (λ (c : List ℕ). (c, a)) (order_after client_of row rows a ∙ theirs (row.address == a) a refl)) indexed.rising;
} where
  there : (b : Bool) (a : ℕ) → (row.address == a) ≡ b → (b || is_some (row_at rows a)) ≡ is_some (row_at rows a)
  there true a e = sym (ap is_some (subst (λ (x : ℕ). row_at rows x ≡ Some r) (eqb-true row.address a e) found))
  there false a e = refl

  theirs : (b : Bool) (a : ℕ) → (row.address == a) ≡ b → (if b then row.client else client_at rows a) ≡ client_at rows a
  theirs true a e = sym (ap client_in (subst (λ (x : ℕ). row_at rows x ≡ Some r) (eqb-true row.address a e) found) ∙ client)
  theirs false a e = refl

-- an index of the same rows and the same addresses
pub same_of : (of : Row → List ℕ) (rows new_rows : List Row) (index new : List ℕ) → new_rows ≡ rows → new ≡ index → IsIndex of rows index → IsIndex of new_rows new
same_of of rows new_rows index new same stays indexed = subst (λ (rs : List Row). IsIndex of rs new) (sym same) (subst (IsIndex of rows) (sym stays) indexed)

-- rows in numbered slots: each slot's row is the one at its address, and there is no other
pub record Known (rows slots : List Row) : Type 0 where
  pub known : (n : ℕ) → n < length slots → row_at rows (row_in slots n).address ≡ Some (row_in slots n)
  pub only : (a : ℕ) → is_some (row_at rows a) ≡ true → (n : ℕ) × (n < length slots) × ((row_in slots n).address ≡ a)

-- the slot numbers in the order of their keys give the addresses of the rows in that order
pub index_from : (of : Row → List ℕ) (rows slots : List Row) (numbers : List ℕ) → Known rows slots → IsByKey of slots numbers → IsIndex of rows (addresses_in slots numbers)
index_from of rows slots numbers all numbered = record { same = same; rising = rising } where
  address : ℕ → ℕ
  address n = (row_in slots n).address

  there : (n : ℕ) → lists numbers n ≡ true → n < length slots
  there n h = below n (length slots) (sym (numbered.same n) ∙ h) where
    below : (a b : ℕ) → nat_lt a b ≡ true → a < b
    below a b h = grind (arith, nat_tests)

  key_is : (n : ℕ) → n < length slots → key_by of rows (address n) ≡ key_in of slots n
  key_is n within = ap (λ (o : Option Row). (order_in of o, address n)) (all.known n within)

  at : (i : ℕ) → i < length numbers → key_by of rows (get_or (addresses_in slots numbers) i 0) ≡ key_in of slots (get_or numbers i 0)
  at i within = ap (key_by of rows) (get_or-map address numbers i 0 0 within) ∙ key_is (get_or numbers i 0) (there (get_or numbers i 0) (at_lists numbers i within))

  rising : Rises (key_by of rows) (addresses_in slots numbers)
  rising i j order within =
      let n : j < length numbers = omega (arith, length-map numbers address) in
      subst (λ (l : List ℕ × ℕ). IsKeyBelow (key_by of rows (get_or (addresses_in slots numbers) i 0)) l) (sym (at j n)) (subst (λ (l : List ℕ × ℕ). IsKeyBelow l (key_in of slots (get_or numbers j 0))) (sym (at i (omega arith))) (numbered.rising i j order n))

  found : (xs : List ℕ) (n : ℕ) → lists xs n ≡ true → lists (map address xs) (address n) ≡ true
  found xs n h = let s = listed_at xs n h in
      subst (λ (a : ℕ). lists (map address xs) a ≡ true) (get_or-map address xs s.place 0 0 s.within ∙ ap address s.here) (at_lists (map address xs) s.place (omega (arith, s.within, length-map xs address)))

  listed : (a : ℕ) → is_some (row_at rows a) ≡ true → lists (addresses_in slots numbers) a ≡ true
  listed a h = let n = all.only a h in
      subst (λ (x : ℕ). lists (addresses_in slots numbers) x ≡ true) n.2 (found numbers n.0 (numbered.same n.0 ∙ lt n.0 (length slots) n.1)) where
        lt : (a b : ℕ) → a < b → nat_lt a b ≡ true
        lt a b h = grind (arith, nat_tests)

  has : (a : ℕ) → lists (addresses_in slots numbers) a ≡ true → is_some (row_at rows a) ≡ true
  has a h =
      let s = listed_at (addresses_in slots numbers) a h in
      let within : s.place < length numbers = omega (arith, s.within, length-map numbers address) in
      let n : ℕ = get_or numbers s.place 0 in
      subst (λ (x : ℕ). is_some (row_at rows x) ≡ true) (sym (get_or-map address numbers s.place 0 0 within) ∙ s.here) (ap is_some (all.known n (there n (at_lists numbers s.place within))))

  same : (a : ℕ) → lists (addresses_in slots numbers) a ≡ is_some (row_at rows a)
  same a = alike _ _ (has a) (listed a) where
    alike : (b t : Bool) → (b ≡ true → t ≡ true) → (t ≡ true → b ≡ true) → b ≡ t
    alike true t f g = sym (f refl)
    alike false true f g = g refl
    alike false false f g = refl

pub numbered_within : (of : Row → List ℕ) (slots : List Row) (numbers : List ℕ) → IsByKey of slots numbers → (i : ℕ) → i < length numbers → get_or numbers i 0 < length slots
numbered_within of slots numbers numbered i within = below _ _ (sym (numbered.same (get_or numbers i 0)) ∙ at_lists numbers i within) where
  below : (a b : ℕ) → nat_lt a b ≡ true → a < b
  below a b h = grind (arith, nat_tests)

-- rows are their own slots
pub known_rows : (rows : List Row) → Rise rows → Known rows rows
known_rows rows rise = record { known = known; only = only rows } where
  known : (n : ℕ) → n < length rows → row_at rows (row_in rows n).address ≡ Some (row_in rows n)
  known n within = (is_at rows (row_in rows n).address n rise within (λ d. same_at rows n d (row_in [] 0) within)).found (row_in [] 0)

  only : (rows : List Row) (a : ℕ) → is_some (row_at rows a) ≡ true → (n : ℕ) × (n < length rows) × ((row_in rows n).address ≡ a)
  only [] a h = absurd (false≢true h)
  only (r ∷ rows) a h = by (r.address == a) refl h (only rows a) where
    by : (b : Bool) → (r.address == a) ≡ b → is_some (if b then Some r else row_at rows a) ≡ true → (is_some (row_at rows a) ≡ true → (n : ℕ) × (n < length rows) × ((row_in rows n).address ≡ a)) → (n : ℕ) × (n < length (r ∷ rows)) × ((row_in (r ∷ rows) n).address ≡ a)
    by true e h rest = (0, omega arith, eqb-true r.address a e)
    by false e h rest = let n = rest h in (suc n.0, omega (arith, n.1), n.2)
