-- Rows in slots, read in the order of numbers.
use Rattle.std.proofs.Common.{◌≡◌, ℕ, ◌+◌, ◌<◌, ◌≤◌, ◌^◌, List, [], ◌∷◌, ◌++◌, length, get_or, set, take, drop, map, zero, suc, refl, sym, ap, ◌∙◌, subst, ⊎_elim, None, Some, Bool, ◌||◌, ◌==◌, nat_lt, true, arith}
use Rattle.std.specs.List.{All, insert, remove}
use Rattle.std.proofs.lemmas.Bool.{cases_eq, cases_lt}
use Rattle.std.proofs.lemmas.Bool.Decides.{nat_tests}
use Rattle.std.proofs.lemmas.List.{drop-map, get_or-map, get_or-set_other, get_or-set_same, get_or_append_left, get_or_at, get_or_default, length-map, length-set, length_push, map-append, map-set, same_lists, take-map, take_all, take_more}
use Rattle.std.proofs.lemmas.List.Edits.{length-insert}
use Rattle.std.proofs.lemmas.List.Elements.{All-push}
use Rattle.kd_rows.specs.declared.row.Row.{Row}
use Rattle.kd_rows.specs.Index.{IsRowPlace, IsByAddress, IsByKey, IsPlace, addresses_in, lists, row_in, rows_in}
use Rattle.kd_rows.specs.Table.{Rise, row_at, with_row}
use Rattle.kd_rows.proofs.Indexes.{lists-append, lists-insert, numbered_within}
use Rattle.kd_rows.proofs.Keys.{Stands, listed_at}
use Rattle.kd_rows.proofs.Places.{apart, from_on, is_at}
use Rattle.kd_rows.proofs.Sets.{all-with_row, inserted, replaced, rise-with_row}

-- the row of a slot, whatever the default is
pub slot_at : (slots : List Row) (n : ℕ) (d : Row) → n < length slots → row_in slots n ≡ get_or slots n d
slot_at slots n d within = get_or_default slots n (row_in [] 0) d within

-- the row at a place is that of the slot with the number there
pub row_of_place : (slots : List Row) (numbers : List ℕ) (place : ℕ) (d : Row) → place < length numbers → get_or (rows_in slots numbers) place d ≡ row_in slots (get_or numbers place 0)
row_of_place slots numbers place d within = get_or-map (row_in slots) numbers place 0 d within

-- another slot is read the same after a row is overwritten elsewhere
overwritten : (slots : List Row) (n m : ℕ) (row : Row) → (m ≡ n → ⊥) → row_in (set slots n row) m ≡ row_in slots m
overwritten slots n m row other = get_or-set_other slots n m row (row_in [] 0) other

-- a row overwrites the one at a place, and no other
pub set_in : (slots : List Row) (numbers : List ℕ) (place : ℕ) (row : Row) → IsByAddress slots numbers → place < length numbers → rows_in (set slots (get_or numbers place 0) row) numbers ≡ set (rows_in slots numbers) place row
set_in slots numbers place row sorted within = same_lists _ _ lengths at where
  n : ℕ
  n = get_or numbers place 0

  after : List Row
  after = set slots n row

  lengths : length (rows_in after numbers) ≡ length (set (rows_in slots numbers) place row)
  lengths = length-map numbers (row_in after) ∙ sym (length-set (rows_in slots numbers) place row ∙ length-map numbers (row_in slots))

  -- two indexes with one number have one row, and so one address
  one : (k : ℕ) → k < length numbers → get_or numbers k 0 ≡ n → k ≡ place
  one k inside e = ⊎_elim (λ h. h) (λ h. absurd (twice h)) (cases_eq k place) where
    same : (get_or (rows_in slots numbers) k row).address ≡ (get_or (rows_in slots numbers) place row).address
    same = ap (λ (r : Row). r.address) (row_of_place slots numbers k row inside ∙ ap (row_in slots) e ∙ sym (row_of_place slots numbers place row within))

    twice : (k ≡ place → ⊥) → ⊥
    twice other = ⊎_elim
        (λ l. let h = apart (rows_in slots numbers) sorted.rise k place row (omega arith) (omega (arith, length-map numbers (row_in slots))) in omega (arith, h, same))
        (λ l. let h = apart (rows_in slots numbers) sorted.rise place k row (omega arith) (omega (arith, length-map numbers (row_in slots))) in omega (arith, h, same))
        (cases_lt k place)

  at : (k : ℕ) (d : Row) → k < length (rows_in after numbers) → get_or (rows_in after numbers) k d ≡ get_or (set (rows_in slots numbers) place row) k d
  at k d inside = ⊎_elim here elsewhere (cases_eq k place) where
    low : k < length numbers
    low = omega (arith, length-map numbers (row_in after))

    here : k ≡ place → get_or (rows_in after numbers) k d ≡ get_or (set (rows_in slots numbers) place row) k d
    here e =
        row_of_place after numbers k d low ∙ ap (λ (i : ℕ). row_in after (get_or numbers i 0)) e ∙ get_or-set_same slots n row (row_in [] 0) (sorted.within place 0 within)
        ∙ sym (ap (λ (i : ℕ). get_or (set (rows_in slots numbers) place row) i d) e ∙ get_or-set_same (rows_in slots numbers) place row d (omega (arith, length-map numbers (row_in slots))))

    elsewhere : (k ≡ place → ⊥) → get_or (rows_in after numbers) k d ≡ get_or (set (rows_in slots numbers) place row) k d
    elsewhere other =
        row_of_place after numbers k d low ∙ overwritten slots n (get_or numbers k 0) row (λ e. other (one k low e)) ∙ sym (row_of_place slots numbers k d low)
        ∙ sym (get_or-set_other (rows_in slots numbers) place k row d other)

-- the same at the index of the row's address
pub replaced_in : (slots : List Row) (numbers : List ℕ) (place : ℕ) (row : Row) → IsByAddress slots numbers → IsRowPlace (rows_in slots numbers) row.address place → rows_in (set slots (get_or numbers place 0) row) numbers ≡ with_row row (rows_in slots numbers)
replaced_in slots numbers place row sorted at =
    set_in slots numbers place row sorted (omega (arith, at.in_range, length-map numbers (row_in slots))) ∙ sym (replaced row (rows_in slots numbers) place at)

-- the invariant after a row is overwritten
pub replaced_sorted : (slots : List Row) (numbers : List ℕ) (place : ℕ) (row : Row) → row.address < 2 ^ 32 → IsByAddress slots numbers → IsRowPlace (rows_in slots numbers) row.address place → IsByAddress (set slots (get_or numbers place 0) row) numbers
replaced_sorted slots numbers place row low sorted at =
    let is = sym (replaced_in slots numbers place row sorted at) in
    let n = length-set slots (get_or numbers place 0) row in
    record {
      count = sorted.count ∙ sym n;
      same = λ m. sorted.same m ∙ ap (nat_lt m) (sym n);
      within = λ k d inside. let h = sorted.within k d inside in omega (arith, h, n);
      rise = subst Rise is (rise-with_row row (rows_in slots numbers) sorted.rise);
      bounded = subst (All (λ (r : Row). r.address < 2 ^ 32)) is (all-with_row (λ (r : Row). r.address < 2 ^ 32) row (rows_in slots numbers) low sorted.bounded);
    }

-- the rows after one is overwritten, by what was read
pub replaced_now : (slots rows : List Row) (numbers : List ℕ) (place number : ℕ) (row : Row) → IsByAddress slots numbers → rows_in slots numbers ≡ rows → number ≡ get_or numbers place number → IsRowPlace rows row.address place → IsByAddress (set slots number row) numbers × (rows_in (set slots number row) numbers ≡ with_row row rows)
replaced_now slots rows numbers place number row sorted are is at_place = subst
    (λ (n : ℕ). IsByAddress (set slots n row) numbers × (rows_in (set slots n row) numbers ≡ with_row row rows)) (sym (is ∙ get_or_default numbers place number 0 within))
    (replaced_sorted slots numbers place row low sorted at, replaced_in slots numbers place row sorted at ∙ ap (with_row row) are) where
      at : IsRowPlace (rows_in slots numbers) row.address place
      at = subst (λ (rs : List Row). IsRowPlace rs row.address place) (sym are) at_place

      within : place < length numbers
      within = omega (arith, at.in_range, length-map numbers (row_in slots))

      low : row.address < 2 ^ 32
      low = subst (λ (a : ℕ). a < 2 ^ 32) (at.here row) (sorted.bounded place row at.in_range)

-- a function over a list with one more element
pub map-insert : {X Y : Type 0} (f : X → Y) (xs : List X) (place : ℕ) (x : X) → map f (insert xs place x) ≡ insert (map f xs) place (f x)
map-insert f xs place x =
    map-append f (take place xs) (x ∷ drop place xs) ∙ ap (λ ys. ys ++ f x ∷ map f (drop place xs)) (sym (take-map f place xs))
    ∙ ap (λ ys. take place (map f xs) ++ f x ∷ ys) (sym (drop-map f place xs))

-- the rows with these numbers stay when a slot is added
kept : (slots : List Row) (numbers : List ℕ) (row : Row) → All (λ n. n < length slots) numbers → rows_in (slots ++ row ∷ []) numbers ≡ rows_in slots numbers
kept slots [] row within = refl
kept slots (n ∷ numbers) row within =
    ap (λ (r : Row). r ∷ rows_in (slots ++ row ∷ []) numbers) (get_or_append_left slots (row ∷ []) (row_in [] 0) n (within 0 0 (omega arith)))
    ∙ ap (λ (rs : List Row). row_in slots n ∷ rs) (kept slots numbers row (λ k d inside. within (suc k) d (omega arith)))

-- a row in a new slot, with its number at an index, is at that index
pub insert_in : (slots : List Row) (numbers : List ℕ) (place : ℕ) (row : Row) → IsByAddress slots numbers → rows_in (slots ++ row ∷ []) (insert numbers place (length slots)) ≡ insert (rows_in slots numbers) place row
insert_in slots numbers place row sorted =
    map-insert (row_in (slots ++ row ∷ [])) numbers place (length slots) ∙ ap (λ (rs : List Row). insert rs place (row_in (slots ++ row ∷ []) (length slots))) (kept slots numbers row sorted.within)
    ∙ ap (insert (rows_in slots numbers) place) (get_or_at slots row [] (row_in [] 0) (length slots) refl)

-- the same at the index of the row's address
pub inserted_in : (slots : List Row) (numbers : List ℕ) (place : ℕ) (row : Row) → IsByAddress slots numbers → IsPlace (rows_in slots numbers) row.address place → row_at (rows_in slots numbers) row.address ≡ None → rows_in (slots ++ row ∷ []) (insert numbers place (length slots)) ≡ with_row row (rows_in slots numbers)
inserted_in slots numbers place row sorted p none = insert_in slots numbers place row sorted ∙ sym (inserted row (rows_in slots numbers) place p none)

-- there are at most 2 ^ 32 rows in ascending order of address with addresses below 2 ^ 32
few : (rows : List Row) → Rise rows → All (λ row. row.address < 2 ^ 32) rows → length rows ≤ 2 ^ 32
few [] rise bounded = omega arith
few (r ∷ rows) rise bounded =
    let last = from_on 0 (r ∷ rows) rise (length rows) r (omega arith) in
    let low = bounded (length rows) r (omega arith) in
    omega (arith, last, low)

-- so the number of a new slot fits
pub number_fits : (slots rows : List Row) (numbers : List ℕ) (place : ℕ) (row : Row) → IsByAddress slots numbers → rows_in slots numbers ≡ rows → IsPlace rows row.address place → row_at rows row.address ≡ None → row.address < 2 ^ 32 → length slots < 2 ^ 32
number_fits slots rows numbers place row sorted are p none low =
    let more = few (with_row row rows) (rise-with_row row rows (subst Rise are sorted.rise)) (all-with_row (λ (r : Row). r.address < 2 ^ 32) row rows low (subst (All (λ (r : Row). r.address < 2 ^ 32)) are sorted.bounded)) in
    let one = ap length (inserted row rows place p none) ∙ length-insert rows place row p.in_range in
    let same = ap length are in
    omega (arith, more, one, same, length-map numbers (row_in slots), sorted.count)

all_insert : (P : ℕ → Type 0) (xs : List ℕ) (place x : ℕ) → P x → All P xs → All P (insert xs place x)
all_insert P xs zero x this others zero d within = this
all_insert P xs zero x this others (suc k) d within = others k d (omega arith)
all_insert P [] (suc place) x this others zero d within = this
all_insert P [] (suc place) x this others (suc k) d within = absurd (omega arith)
all_insert P (y ∷ xs) (suc place) x this others zero d within = others 0 d (omega arith)
all_insert P (y ∷ xs) (suc place) x this others (suc k) d within = all_insert P xs place x this (λ j e inside. others (suc j) e (omega arith)) k d (omega arith)

all_remove : (P : ℕ → Type 0) (xs : List ℕ) (place : ℕ) → All P xs → All P (remove xs place)
all_remove P [] zero others k d within = absurd (omega arith)
all_remove P [] (suc place) others k d within = absurd (omega arith)
all_remove P (x ∷ xs) zero others k d within = others (suc k) d (omega arith)
all_remove P (x ∷ xs) (suc place) others zero d within = others 0 d (omega arith)
all_remove P (x ∷ xs) (suc place) others (suc k) d within = all_remove P xs place (λ j e inside. others (suc j) e (omega arith)) k d (omega arith)

one_more : (n m : ℕ) → ((n == m) || nat_lt m n) ≡ nat_lt m (n + 1)
one_more n m = grind (arith, nat_tests)

-- the invariant after a row is added
pub inserted_sorted : (slots : List Row) (numbers : List ℕ) (place : ℕ) (row : Row) → row.address < 2 ^ 32 → IsByAddress slots numbers → IsPlace (rows_in slots numbers) row.address place → row_at (rows_in slots numbers) row.address ≡ None → IsByAddress (slots ++ row ∷ []) (insert numbers place (length slots))
inserted_sorted slots numbers place row low sorted p none =
    let is = sym (inserted_in slots numbers place row sorted p none) in
    let n = length_push slots row in
    record {
      count = length-insert numbers place (length slots) (omega (arith, p.in_range, length-map numbers (row_in slots))) ∙ ap (λ (m : ℕ). m + 1) sorted.count ∙ sym n;
      same = λ m. lists-insert numbers place (length slots) m ∙ ap (λ (b : Bool). (length slots == m) || b) (sorted.same m) ∙ one_more (length slots) m ∙ ap (nat_lt m) (sym n);
      within = all_insert (λ m. m < length (slots ++ row ∷ [])) numbers place (length slots) (omega (arith, n)) (λ k d inside. let h = sorted.within k d inside in omega (arith, h, n));
      rise = subst Rise is (rise-with_row row (rows_in slots numbers) sorted.rise);
      bounded = subst (All (λ (r : Row). r.address < 2 ^ 32)) is (all-with_row (λ (r : Row). r.address < 2 ^ 32) row (rows_in slots numbers) low sorted.bounded);
    }

-- the rows after one is added, by what was done
pub inserted_now : (slots rows new_slots : List Row) (numbers new_numbers : List ℕ) (place number : ℕ) (row : Row) → row.address < 2 ^ 32 → IsByAddress slots numbers → rows_in slots numbers ≡ rows → IsPlace rows row.address place → row_at rows row.address ≡ None → number ≡ length slots → new_slots ≡ slots ++ row ∷ [] → new_numbers ≡ insert numbers place number
    → IsByAddress new_slots new_numbers × (rows_in new_slots new_numbers ≡ with_row row rows)
inserted_now slots rows new_slots numbers new_numbers place number row low sorted are at_place absent is pushed put = subst
    (λ (ns : List ℕ). IsByAddress new_slots ns × (rows_in new_slots ns ≡ with_row row rows)) (sym (put ∙ ap (insert numbers place) is))
    (subst (λ (rs : List Row). IsByAddress rs (insert numbers place (length slots)) × (rows_in rs (insert numbers place (length slots)) ≡ with_row row rows)) (sym pushed)
    (inserted_sorted slots numbers place row low sorted p none, inserted_in slots numbers place row sorted p none ∙ ap (with_row row) are)) where
      p : IsPlace (rows_in slots numbers) row.address place
      p = subst (λ (rs : List Row). IsPlace rs row.address place) (sym are) at_place

      none : row_at (rows_in slots numbers) row.address ≡ None
      none = subst (λ (rs : List Row). row_at rs row.address ≡ None) (sym are) absent

-- the same for slots whose contents are seen as rows
pub replaced_seen : {X : Type 0} (row_of : X → Row) (slots : List X) (rows : List Row) (numbers : List ℕ) (place number : ℕ) (x : X) → IsByAddress (map row_of slots) numbers → rows_in (map row_of slots) numbers ≡ rows → number ≡ get_or numbers place number → IsRowPlace rows (row_of x).address place
    → IsByAddress (map row_of (set slots number x)) numbers × (rows_in (map row_of (set slots number x)) numbers ≡ with_row (row_of x) rows)
replaced_seen row_of slots rows numbers place number x sorted are is at = subst
    (λ (rs : List Row). IsByAddress rs numbers × (rows_in rs numbers ≡ with_row (row_of x) rows)) (sym (map-set row_of slots number x))
    (replaced_now (map row_of slots) rows numbers place number (row_of x) sorted are is at)

pub inserted_seen : {X : Type 0} (row_of : X → Row) (slots new_slots : List X) (rows : List Row) (numbers new_numbers : List ℕ) (place number : ℕ) (x : X) → (row_of x).address < 2 ^ 32 → IsByAddress (map row_of slots) numbers → rows_in (map row_of slots) numbers ≡ rows → IsPlace rows (row_of x).address place → row_at rows (row_of x).address ≡ None → number ≡ length slots → new_slots ≡ slots ++ x ∷ [] → new_numbers ≡ insert numbers place number
    → IsByAddress (map row_of new_slots) new_numbers × (rows_in (map row_of new_slots) new_numbers ≡ with_row (row_of x) rows)
inserted_seen row_of slots new_slots rows numbers new_numbers place number x low sorted are p none is pushed put =
    inserted_now (map row_of slots) rows (map row_of new_slots) numbers new_numbers place number (row_of x) low sorted are p none (is ∙ sym (length-map slots row_of)) (ap (map row_of) pushed ∙ map-append row_of slots (x ∷ [])) put

-- what a loop that numbers rows maintains
pub record AreFirst (rows : List Row) (count : ℕ) (numbers : List ℕ) : Type 0 where
  pub counted : length numbers ≡ count
  pub listed : (n : ℕ) → lists numbers n ≡ nat_lt n count
  pub within : All (λ n. n < count) numbers
  pub same : rows_in rows numbers ≡ take count rows
  pub bounded : (k : ℕ) (d : Row) → k < count → (get_or rows k d).address < 2 ^ 32

-- one more row has its index as number
pub first_more : (rows : List Row) (i : ℕ) (numbers : List ℕ) (row : Row) (number : ℕ) → AreFirst rows i numbers → i < length rows → row ≡ get_or rows i row → number ≡ i → row.address < 2 ^ 32 → AreFirst rows (i + 1) (numbers ++ number ∷ [])
first_more rows i numbers row number first inside is at low = record {
  counted = length_push numbers number ∙ ap (λ (m : ℕ). m + 1) first.counted;
  listed = λ n. lists-append numbers (number ∷ []) n ∙ ap (λ (b : Bool). b || lists (number ∷ []) n) (first.listed n) ∙ ap (λ (m : ℕ). nat_lt n i || lists (m ∷ []) n) at ∙ last i n;
  within = All-push (λ m. m < i + 1) numbers number (λ k d l. let h = first.within k d l in omega (arith, h)) (omega (arith, at));
  same = map-append (row_in rows) numbers (number ∷ []) ∙ ap (λ (rs : List Row). rs ++ row_in rows number ∷ []) first.same ∙ ap (λ (m : ℕ). take i rows ++ row_in rows m ∷ []) at ∙ sym (take_more rows i (row_in [] 0) inside);
  bounded = λ k d l. ⊎_elim
      (λ e. subst (λ (j : ℕ). (get_or rows j d).address < 2 ^ 32) (sym e) (subst (λ (r : Row). r.address < 2 ^ 32) (is ∙ get_or_default rows i row d inside) low))
      (λ n. first.bounded k d (omega arith))
      (cases_eq k i);
} where
  last : (i n : ℕ) → (nat_lt n i || lists (i ∷ []) n) ≡ nat_lt n (i + 1)
  last i n = grind (arith, nat_tests)

-- all rows, each in the slot of its place
pub first_all : (rows : List Row) (i : ℕ) (numbers : List ℕ) → Rise rows → AreFirst rows i numbers → i ≡ length rows → rows_in rows numbers ≡ rows
first_all rows i numbers rise first all = first.same ∙ take_all i rows (omega arith)

pub first_sorted : (rows : List Row) (i : ℕ) (numbers : List ℕ) → Rise rows → AreFirst rows i numbers → i ≡ length rows → IsByAddress rows numbers
first_sorted rows i numbers rise first all =
    let is = sym (first_all rows i numbers rise first all) in
    record {
      count = first.counted ∙ all;
      same = λ n. first.listed n ∙ ap (nat_lt n) all;
      within = λ k d inside. let h = first.within k d inside in omega (arith, h, all);
      rise = subst Rise is rise;
      bounded = subst (All (λ (r : Row). r.address < 2 ^ 32)) is (λ k d inside. first.bounded k d (omega arith));
    }

-- the row of a slot is that of its address
pub known : (slots : List Row) (numbers : List ℕ) → IsByAddress slots numbers → (n : ℕ) → n < length slots → row_at (rows_in slots numbers) (row_in slots n).address ≡ Some (row_in slots n)
known slots numbers sorted n inside = (is_at (rows_in slots numbers) (row_in slots n).address there.place sorted.rise within here).found (row_in [] 0) ∙ ap Some (at (row_in [] 0)) where
  lt : (a b : ℕ) → a < b → nat_lt a b ≡ true
  lt a b h = grind (arith, nat_tests)

  there : Stands numbers n
  there = listed_at numbers n (sorted.same n ∙ lt n (length slots) inside)

  within : there.place < length (rows_in slots numbers)
  within = omega (arith, there.within, length-map numbers (row_in slots))

  at : (d : Row) → get_or (rows_in slots numbers) there.place d ≡ row_in slots n
  at d = row_of_place slots numbers there.place d there.within ∙ ap (row_in slots) there.here

  here : (d : Row) → (get_or (rows_in slots numbers) there.place d).address ≡ (row_in slots n).address
  here d = ap (λ (r : Row). r.address) (at d)

-- what is read at an index of one of the indexes
pub read_indexed : (slots : List Row) (by_address numbers : List ℕ) (i number : ℕ) (row : Row) → IsByAddress slots by_address → All (λ n. n < length slots) numbers → i < length numbers → number ≡ get_or numbers i number → row ≡ get_or slots number row → (row.address ≡ get_or (addresses_in slots numbers) i 0) × (row_at (rows_in slots by_address) row.address ≡ Some row)
read_indexed slots by_address numbers i number row sorted within inside is read = (
  ap (λ (r : Row). r.address) here ∙ sym (get_or-map (λ n. (row_in slots n).address) numbers i 0 0 inside),
  subst (λ (r : Row). row_at (rows_in slots by_address) r.address ≡ Some r) (sym here) (known slots by_address sorted (get_or numbers i 0) (within i 0 inside)),
) where
  at : number ≡ get_or numbers i 0
  at = is ∙ get_or_default numbers i number 0 inside

  here : row ≡ row_in slots (get_or numbers i 0)
  here = read ∙ sym (slot_at slots number row (subst (λ (n : ℕ). n < length slots) (sym at) (within i 0 inside))) ∙ ap (row_in slots) at

-- overwriting a row with one at the same address leaves the addresses
pub same_addresses : (slots : List Row) (numbers : List ℕ) (n : ℕ) (row : Row) → n < length slots → row.address ≡ (row_in slots n).address → addresses_in (set slots n row) numbers ≡ addresses_in slots numbers
same_addresses slots [] n row inside same = refl
same_addresses slots (m ∷ numbers) n row inside same =
    ap (λ (a : ℕ). a ∷ addresses_in (set slots n row) numbers) this ∙ ap (λ (xs : List ℕ). (row_in slots m).address ∷ xs) (same_addresses slots numbers n row inside same) where
      this : (row_in (set slots n row) m).address ≡ (row_in slots m).address
      this = ⊎_elim
          (λ e. subst (λ (k : ℕ). (row_in (set slots n row) k).address ≡ (row_in slots k).address) (sym e) (ap (λ (r : Row). r.address) (get_or-set_same slots n row (row_in [] 0) inside) ∙ same))
          (λ other. ap (λ (r : Row). r.address) (overwritten slots n m row other))
          (cases_eq m n)

-- the addresses with these numbers stay when a slot is added
kept_addresses : (slots : List Row) (numbers : List ℕ) (row : Row) → All (λ n. n < length slots) numbers → addresses_in (slots ++ row ∷ []) numbers ≡ addresses_in slots numbers
kept_addresses slots [] row within = refl
kept_addresses slots (n ∷ numbers) row within =
    ap (λ (r : Row). r.address ∷ addresses_in (slots ++ row ∷ []) numbers) (get_or_append_left slots (row ∷ []) (row_in [] 0) n (within 0 0 (omega arith)))
    ∙ ap (λ (xs : List ℕ). (row_in slots n).address ∷ xs) (kept_addresses slots numbers row (λ k d inside. within (suc k) d (omega arith)))

-- the index after a slot is added
pub index_more : (slots new_slots : List Row) (numbers new_numbers : List ℕ) (key number : ℕ) (row : Row) → All (λ n. n < length slots) numbers → number ≡ length slots → new_slots ≡ slots ++ row ∷ [] → new_numbers ≡ insert numbers key number → addresses_in new_slots new_numbers ≡ insert (addresses_in slots numbers) key row.address
index_more slots new_slots numbers new_numbers key number row within is pushed put =
    ap (addresses_in new_slots) (put ∙ ap (insert numbers key) is) ∙ ap (λ (rs : List Row). addresses_in rs (insert numbers key (length slots))) pushed
    ∙ map-insert (λ n. (row_in (slots ++ row ∷ []) n).address) numbers key (length slots)
    ∙ ap (λ (xs : List ℕ). insert xs key (row_in (slots ++ row ∷ []) (length slots)).address) (kept_addresses slots numbers row within)
    ∙ ap (λ (r : Row). insert (addresses_in slots numbers) key r.address) (get_or_at slots row [] (row_in [] 0) (length slots) refl)

pub within_more : (slots new_slots : List Row) (numbers new_numbers : List ℕ) (key number : ℕ) (row : Row) → All (λ n. n < length slots) numbers → number ≡ length slots → new_slots ≡ slots ++ row ∷ [] → new_numbers ≡ insert numbers key number → All (λ n. n < length new_slots) new_numbers
within_more slots new_slots numbers new_numbers key number row within is pushed put =
    let n = ap length pushed ∙ length_push slots row in
    subst (All (λ m. m < length new_slots)) (sym put) (all_insert (λ m. m < length new_slots) numbers key number (omega (arith, n, is)) (λ k d inside. let h = within k d inside in omega (arith, h, n)))

-- a function over a list with one element less
map-remove : {X Y : Type 0} (f : X → Y) (xs : List X) (place : ℕ) → map f (remove xs place) ≡ remove (map f xs) place
map-remove f xs place =
    map-append f (take place xs) (drop (suc place) xs) ∙ ap (λ ys. ys ++ map f (drop (suc place) xs)) (sym (take-map f place xs)) ∙ ap (λ ys. take place (map f xs) ++ ys) (sym (drop-map f (suc place) xs))

-- the index after a number moves
pub index_moved : (slots : List Row) (numbers between new : List ℕ) (from to number : ℕ) → from < length numbers → number ≡ get_or numbers from number → between ≡ remove numbers from → new ≡ insert between to number → addresses_in slots new ≡ insert (remove (addresses_in slots numbers) from) to (get_or (addresses_in slots numbers) from 0)
index_moved slots numbers between new from to number inside is taken put =
    ap (addresses_in slots) (put ∙ ap (λ (xs : List ℕ). insert xs to number) taken) ∙ map-insert address (remove numbers from) to number
    ∙ ap (λ (xs : List ℕ). insert xs to (address number)) (map-remove address numbers from)
    ∙ ap (insert (remove (addresses_in slots numbers) from) to) (ap address (is ∙ get_or_default numbers from number 0 inside) ∙ sym (get_or-map address numbers from 0 0 inside)) where
      address : ℕ → ℕ
      address n = (row_in slots n).address

pub within_moved : (slots : List Row) (numbers between new : List ℕ) (from to number : ℕ) → All (λ n. n < length slots) numbers → from < length numbers → number ≡ get_or numbers from number → between ≡ remove numbers from → new ≡ insert between to number → All (λ n. n < length slots) new
within_moved slots numbers between new from to number within inside is taken put = subst (All (λ m. m < length slots)) (sym (put ∙ ap (λ (xs : List ℕ). insert xs to number) taken))
    (all_insert (λ m. m < length slots) (remove numbers from) to number (subst (λ (m : ℕ). m < length slots) (sym (is ∙ get_or_default numbers from number 0 inside)) (within from 0 inside)) (all_remove (λ m. m < length slots) numbers from within))

-- the numbers in the order of keys name slots
pub within_by_key : (of : Row → List ℕ) (slots : List Row) (numbers : List ℕ) → IsByKey of slots numbers → All (λ n. n < length slots) numbers
within_by_key of slots numbers numbered k d inside = subst (λ (n : ℕ). n < length slots) (get_or_default numbers k 0 d inside) (numbered_within of slots numbers numbered k inside)

-- the row that is overwritten has the address of the new one
pub replaced_address : (slots rows : List Row) (by_address : List ℕ) (place number : ℕ) (row : Row) → IsByAddress slots by_address → rows_in slots by_address ≡ rows → number ≡ get_or by_address place number → IsRowPlace rows row.address place → (row_in slots number).address ≡ row.address
replaced_address slots rows by_address place number row sorted are is at = sym
    (sym (at.here row) ∙ ap (λ (rs : List Row). (get_or rs place row).address) (sym are) ∙ ap (λ (r : Row). r.address) (row_of_place slots by_address place row inside ∙ ap (row_in slots) (sym this))) where
      inside : place < length by_address
      inside = omega (arith, at.in_range, ap length are, length-map by_address (row_in slots))

      this : number ≡ get_or by_address place 0
      this = is ∙ get_or_default by_address place number 0 inside

-- the indexes stay when a row is overwritten
pub replaced_index : (slots rows : List Row) (by_address numbers : List ℕ) (place number : ℕ) (row : Row) → IsByAddress slots by_address → rows_in slots by_address ≡ rows → number ≡ get_or by_address place number → IsRowPlace rows row.address place → addresses_in (set slots number row) numbers ≡ addresses_in slots numbers
replaced_index slots rows by_address numbers place number row sorted are is at =
    same_addresses slots numbers number row (subst (λ (n : ℕ). n < length slots) (sym this) (sorted.within place 0 inside)) (sym (replaced_address slots rows by_address place number row sorted are is at)) where
      inside : place < length by_address
      inside = omega (arith, at.in_range, ap length are, length-map by_address (row_in slots))

      this : number ≡ get_or by_address place 0
      this = is ∙ get_or_default by_address place number 0 inside
