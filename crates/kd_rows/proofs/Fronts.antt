-- Heads of clients: what they say about the order of keys, and how they are kept.
use Rattle.std.proofs.Common.{◌≡◌, ℕ, ◌+◌, ◌*◌, ◌^◌, ◌<◌, ◌≤◌, nat_lt, List, [], ◌∷◌, ◌++◌, length, get_or, set, take, map, zero, suc, refl, sym, ap, ◌∙◌, subst, ⊎_elim, Option, true, false, ◌-◌, arith}
use Rattle.std.specs.List.{All}
use Rattle.std.specs.Cmp.Lexicographic.{slice_cmp}
use Rattle.std.specs.Ordering.{is_lt, nat_cmp, ordering_then}
use Rattle.std.specs.declared.cmp.Ordering.{Ordering}
use Rattle.std.specs.declared.cmp.Ordering.TheVariants.{Less, Equal, Greater}
use Rattle.std.proofs.lemmas.Bool.{cases_eq, cases_lt}
use Rattle.std.proofs.lemmas.Bool.Decides.{nat_tests}
use Rattle.std.proofs.lemmas.List.{get_or-map, get_or_default, length-map, length-set, map-append, map-set, take_more}
use Rattle.std.proofs.lemmas.List.Elements.{All-push, All-set}
use Rattle.std.proofs.Math.Seq.{map-set_same}
use Rattle.std.proofs.Math.Nat.{pow-le-pow_right, pow-suc}
use Rattle.kd_rows.specs.declared.row.Row.{Row}
use Rattle.kd_rows.specs.Heads.{AreHeads, IsByteList, IsHead, IsHeadAt, front_number, row_addresses}
use Rattle.kd_rows.specs.Index.{IsByAddress, IsRowPlace, IsStored, addresses_in, age_key, age_of, client_of, key_by, key_order, order_in, row_in, rows_in}
use Rattle.kd_rows.specs.Table.{row_at}
use Rattle.kd_rows.specs.Zones.{group_in}
use Rattle.kd_rows.proofs.Ages.{age_key_order}
use Rattle.kd_rows.proofs.Slots.{known, replaced_address, replaced_now, row_of_place}

-- a higher first byte decides
higher : (b e p x y : ℕ) → b < e → x < p → b * p + x < e * p + y
higher b e p x y less small = let more : b * p + p ≤ e * p = scaled b e p less in omega (arith, more, small) where
  scaled : (b e p : ℕ) → b < e → b * p + p ≤ e * p
  scaled b e p less = subst (λ (n : ℕ). b * p + p ≤ n * p) (omega (arith, less)) (rest (e - suc b)) where
    rest : (k : ℕ) → b * p + p ≤ (suc b + k) * p
    rest k = grind arith

-- n bytes as a number
pub front_small : (n : ℕ) (bytes : List ℕ) → IsByteList bytes → front_number n bytes < 256 ^ n
front_small zero bytes are = omega arith
front_small (suc n) [] are =
    let more = front_small n [] are in
    let size = pow-suc 256 n in
    omega (arith, more, size)
front_small (suc n) (b ∷ bytes) are =
    let more = front_small n bytes (λ i. are (suc i)) in
    let size = pow-suc 256 n in
    let less = higher b 256 (256 ^ n) (front_number n bytes) 0 (are 0) more in
    omega (arith, less, size)

-- fewer than 8 of them leave room for one more
pub front_fits : (n : ℕ) (bytes : List ℕ) → IsByteList bytes → n < 8 → front_number n bytes * 256 + 255 < 2 ^ 64
front_fits n bytes are few =
    let small = front_small n bytes are in
    let most : 256 ^ n ≤ 256 ^ 7 = pow-le-pow_right {n = 256} (omega arith) {i = n} {j = 7} (omega (arith, few)) in
    omega (arith, small, most)

-- one more byte
front_suc : (n : ℕ) (bytes : List ℕ) → front_number (suc n) bytes ≡ front_number n bytes * 256 + get_or bytes n 0
front_suc zero [] = refl
front_suc (suc n) [] = refl
front_suc zero (b ∷ bytes) = grind arith
front_suc (suc n) (b ∷ bytes) =
    let more = front_suc n bytes in
    let size : b * 256 ^ suc n ≡ b * 256 ^ n * 256 = ap (λ (x : ℕ). b * x) (pow-suc 256 n) ∙ grouped b (256 ^ n) in
    omega (arith, more, size) where
      grouped : (b p : ℕ) → b * (p * 256) ≡ b * p * 256
      grouped b p = grind arith

pub front_more : (n : ℕ) (bytes : List ℕ) → front_number (n + 1) bytes ≡ front_number n bytes * 256 + get_or bytes n 0
front_more n bytes = let is : suc n ≡ n + 1 = omega arith in subst (λ (m : ℕ). front_number m bytes ≡ front_number n bytes * 256 + get_or bytes n 0) is (front_suc n bytes)

-- the order of numbers
nat_less : (a b : ℕ) → a < b → nat_cmp a b ≡ Less
nat_less a b h = grind (arith, nat_tests)

nat_equal : (a b : ℕ) → a ≡ b → nat_cmp a b ≡ Equal
nat_equal a b h = grind (arith, nat_tests)

nat_greater : (a b : ℕ) → b < a → nat_cmp a b ≡ Greater
nat_greater a b h = grind (arith, nat_tests)

lt-true : (a b : ℕ) → a < b → nat_lt a b ≡ true
lt-true a b h = grind (arith, nat_tests)

lt-false : (a b : ℕ) → b ≤ a → nat_lt a b ≡ false
lt-false a b h = grind (arith, nat_tests)

beside : (x a b : ℕ) → nat_cmp (x + a) (x + b) ≡ nat_cmp a b
beside x a b = grind (arith, nat_tests)

-- if the first bytes of two lists differ as numbers, those numbers give their order
pub fronts_decide : (n : ℕ) (c d : List ℕ) → IsByteList c → IsByteList d → (front_number n c ≡ front_number n d → ⊥) → slice_cmp nat_cmp c d ≡ nat_cmp (front_number n c) (front_number n d)
fronts_decide zero c d here there other = absurd (other refl)
fronts_decide (suc n) [] [] here there other = absurd (other refl)
fronts_decide (suc n) [] (e ∷ d) here there other = sym (nat_less 0 (front_number (suc n) (e ∷ d)) (omega (arith, other)))
fronts_decide (suc n) (b ∷ c) [] here there other = sym (nat_greater (front_number (suc n) (b ∷ c)) 0 (omega (arith, other)))
fronts_decide (suc n) (b ∷ c) (e ∷ d) here there other = ⊎_elim
    (λ same. ap (λ (o : Ordering). ordering_then o (slice_cmp nat_cmp c d)) (nat_equal b e same)
    ∙ fronts_decide n c d (λ i. here (suc i)) (λ i. there (suc i)) (λ h. other (ap (λ (x : ℕ). b * 256 ^ n + x) h ∙ ap (λ (x : ℕ). x * 256 ^ n + front_number n d) same))
    ∙ sym (ap (λ (x : ℕ). nat_cmp (x * 256 ^ n + front_number n c) (e * 256 ^ n + front_number n d)) same ∙ beside (e * 256 ^ n) (front_number n c) (front_number n d)))
    (λ differ. ⊎_elim
    (λ less. ap (λ (o : Ordering). ordering_then o (slice_cmp nat_cmp c d)) (nat_less b e less) ∙ sym (nat_less _ _ (higher b e (256 ^ n) (front_number n c) (front_number n d) less (front_small n c (λ i. here (suc i))))))
    (λ more. let l : e < b = omega (arith, more, differ) in ap (λ (o : Ordering). ordering_then o (slice_cmp nat_cmp c d)) (nat_greater b e l) ∙ sym (nat_greater _ _ (higher e b (256 ^ n) (front_number n d) (front_number n c) l (front_small n d (λ i. there (suc i))))))
    (cases_lt b e))
    (cases_eq b e)

-- so the heads of two clients decide if they differ
pub heads_decide : (c d : List ℕ) (h g : ℕ) → IsHead c h → IsHead d g → (h ≡ g → ⊥) → slice_cmp nat_cmp c d ≡ nat_cmp h g
heads_decide c d h g here there other =
    fronts_decide 8 c d here.bytes there.bytes (λ e. other (here.value ∙ e ∙ sym there.value))
    ∙ ap (λ (x : ℕ). nat_cmp x (front_number 8 d)) (sym here.value) ∙ ap (nat_cmp h) (sym there.value)

-- a difference decides, whatever comes after it
first_decides : (h g : ℕ) (o : Ordering) → (h ≡ g → ⊥) → is_lt (ordering_then (nat_cmp h g) o) ≡ nat_lt h g
first_decides h g o other = ⊎_elim
    (λ less. ap (λ (p : Ordering). is_lt (ordering_then p o)) (nat_less h g less) ∙ sym (lt-true h g less))
    (λ more. ap (λ (p : Ordering). is_lt (ordering_then p o)) (nat_greater h g (omega (arith, more, other))) ∙ sym (lt-false h g more))
    (cases_lt h g)

-- two keys whose clients have different heads
pub key_by_head : (rows : List Row) (x h g b : ℕ) (d : List ℕ) → IsHeadAt rows x h → IsHead d g → (h ≡ g → ⊥) → is_lt (key_order (key_by client_of rows x) (d, b)) ≡ nat_lt h g
key_by_head rows x h g b d here there other =
    ap (λ (o : Option Row). is_lt (key_order (order_in client_of o, x) (d, b))) here.found
    ∙ ap (λ (o : Ordering). is_lt (ordering_then o (nat_cmp x b))) (heads_decide here.row.client d h g here.head_of_row there other) ∙ first_decides h g (nat_cmp x b) other

-- the same in the age order
pub age_by_head : (cuts : List ℕ) (rows : List Row) (x h g b group left : ℕ) (d : List ℕ) → IsHeadAt rows x h → IsHead d g → (h ≡ g → ⊥) → is_lt (key_order (key_by (age_of cuts) rows x) (age_key d group left, b)) ≡ nat_lt h g
age_by_head cuts rows x h g b group left d here there other =
    ap (λ (o : Option Row). is_lt (key_order (order_in (age_of cuts) o, x) (age_key d group left, b))) here.found
    ∙ ap is_lt (age_key_order here.row.client d _ group _ left x b)
    ∙ ap (λ (o : Ordering). is_lt (ordering_then (ordering_then o age) (nat_cmp x b))) (heads_decide here.row.client d h g here.head_of_row there other)
    ∙ ap is_lt (grouped (nat_cmp h g) age (nat_cmp x b)) ∙ first_decides h g (ordering_then age (nat_cmp x b)) other where
      age : Ordering
      age = ordering_then (nat_cmp (group_in cuts here.row) group) (nat_cmp (2 ^ 64 - 1 - here.row.changed) left)

      grouped : (o p q : Ordering) → ordering_then (ordering_then o p) q ≡ ordering_then o (ordering_then p q)
      grouped Less p q = refl
      grouped Equal p q = refl
      grouped Greater p q = refl

-- the head of a slot
slot_head : (slots : List Row) (heads : List ℕ) (n : ℕ) → AreHeads slots heads → n < length slots → IsHead (row_in slots n).client (get_or heads n 0)
slot_head slots heads n are inside = record {
  bytes = are.bytes n (row_in [] 0) inside;
  value = ap (λ (hs : List ℕ). get_or hs n 0) are.value ∙ get_or-map (λ row. front_number 8 row.client) slots n (row_in [] 0) 0 inside;
}

-- what is read at an index of one of the indexes
pub read_head : (slots : List Row) (heads by_address numbers : List ℕ) (i number head : ℕ) → AreHeads slots heads → IsByAddress slots by_address → All (λ n. n < length slots) numbers → i < length numbers → number ≡ get_or numbers i number → head ≡ get_or heads number head → IsHeadAt (rows_in slots by_address) (get_or (addresses_in slots numbers) i 0) head
read_head slots heads by_address numbers i number head are sorted within inside is read = record {
  row = row_in slots number;
  found = ap (row_at (rows_in slots by_address)) (get_or-map (λ n. (row_in slots n).address) numbers i 0 0 inside ∙ ap (λ (n : ℕ). (row_in slots n).address) (sym at)) ∙ known slots by_address sorted number low;
  head_of_row = subst (IsHead (row_in slots number).client) (sym (read ∙ get_or_default heads number head 0 here)) (slot_head slots heads number are low);
} where
  at : number ≡ get_or numbers i 0
  at = is ∙ get_or_default numbers i number 0 inside

  low : number < length slots
  low = subst (λ (n : ℕ). n < length slots) (sym at) (within i 0 inside)

  here : number < length heads
  here = omega (arith, low, ap length are.value, length-map slots (λ row. front_number 8 row.client))

-- the address that is read at an index
pub read_address : (slots : List Row) (addresses by_address : List ℕ) (place number address : ℕ) → addresses ≡ row_addresses slots → IsByAddress slots by_address → place < length by_address → number ≡ get_or by_address place number → address ≡ get_or addresses number address → address ≡ (row_in (rows_in slots by_address) place).address
read_address slots addresses by_address place number address are sorted inside is read =
    read ∙ get_or_default addresses number address 0 here ∙ ap (λ (xs : List ℕ). get_or xs number 0) are ∙ get_or-map (λ row. row.address) slots number (row_in [] 0) 0 low
    ∙ ap (λ (r : Row). r.address) (ap (row_in slots) at ∙ sym (row_of_place slots by_address place (row_in [] 0) inside)) where
      at : number ≡ get_or by_address place 0
      at = is ∙ get_or_default by_address place number 0 inside

      low : number < length slots
      low = subst (λ (n : ℕ). n < length slots) (sym at) (sorted.within place 0 inside)

      here : number < length addresses
      here = omega (arith, low, ap length are, length-map slots (λ (row : Row). row.address))

-- one more row
pub heads_more : (slots : List Row) (heads : List ℕ) (row : Row) (head : ℕ) → AreHeads slots heads → IsHead row.client head → AreHeads (slots ++ row ∷ []) (heads ++ head ∷ [])
heads_more slots heads row head are is = record {
  bytes = All-push (λ row. IsByteList row.client) slots row are.bytes is.bytes;
  value = ap (λ (hs : List ℕ). hs ++ head ∷ []) are.value ∙ ap (λ (h : ℕ). map (λ row. front_number 8 row.client) slots ++ h ∷ []) is.value ∙ sym (map-append (λ row. front_number 8 row.client) slots (row ∷ []));
}

pub addresses_more : (slots : List Row) (addresses : List ℕ) (row : Row) → addresses ≡ row_addresses slots → addresses ++ row.address ∷ [] ≡ row_addresses (slots ++ row ∷ [])
addresses_more slots addresses row are = ap (λ (xs : List ℕ). xs ++ row.address ∷ []) are ∙ sym (map-append (λ row. row.address) slots (row ∷ []))

one_taken : (rows : List Row) (i : ℕ) (row : Row) → i < length rows → row ≡ get_or rows i row → take (i + 1) rows ≡ take i rows ++ row ∷ []
one_taken rows i row inside is = take_more rows i row inside ∙ ap (λ (r : Row). take i rows ++ r ∷ []) (sym is)

-- a row in place of another
pub heads_set : (slots : List Row) (heads : List ℕ) (n : ℕ) (row : Row) (head : ℕ) → AreHeads slots heads → IsHead row.client head → AreHeads (set slots n row) (set heads n head)
heads_set slots heads n row head are is = record {
  bytes = All-set (λ row. IsByteList row.client) slots n row is.bytes are.bytes;
  value = ap (λ (hs : List ℕ). set hs n head) are.value ∙ ap (set (map (λ row. front_number 8 row.client) slots) n) is.value ∙ sym (map-set (λ row. front_number 8 row.client) slots n row);
}

-- the invariant after a row is overwritten
pub replaced_stored : (slots rows : List Row) (addresses heads by_address by_client by_age : List ℕ) (place number head : ℕ) (row : Row) → IsStored slots addresses heads by_address by_client by_age → rows_in slots by_address ≡ rows → number ≡ get_or by_address place number → IsRowPlace rows row.address place → IsHead row.client head → IsStored (set slots number row) addresses (set heads number head) by_address by_client by_age
replaced_stored slots rows addresses heads by_address by_client by_age place number head row stored are is at new_head =
    let n = length-set slots number row in
    record {
      addressed = stored.addressed ∙ sym (map-set_same (λ (r : Row). r.address) slots number row (row_in [] 0) (sym (replaced_address slots rows by_address place number row stored.sorted are is at)));
      headed = heads_set slots heads number row head stored.headed new_head;
      sorted = (replaced_now slots rows by_address place number row stored.sorted are is at).0;
      within = λ k d inside. let h = stored.within k d inside in omega (arith, h, n);
      aged = λ k d inside. let h = stored.aged k d inside in omega (arith, h, n);
    }

-- one more row is passed
pub heads_taken : (rows : List Row) (heads : List ℕ) (i head : ℕ) (row : Row) → AreHeads (take i rows) heads → i < length rows → row ≡ get_or rows i row → IsHead row.client head → AreHeads (take (i + 1) rows) (heads ++ head ∷ [])
heads_taken rows heads i head row are inside is of_row = subst (λ (rs : List Row). AreHeads rs (heads ++ head ∷ [])) (sym (one_taken rows i row inside is)) (heads_more (take i rows) heads row head are of_row)

pub addresses_taken : (rows : List Row) (addresses : List ℕ) (i : ℕ) (row : Row) → addresses ≡ row_addresses (take i rows) → i < length rows → row ≡ get_or rows i row → addresses ++ row.address ∷ [] ≡ row_addresses (take (i + 1) rows)
addresses_taken rows addresses i row are inside is = addresses_more (take i rows) addresses row are ∙ ap row_addresses (sym (one_taken rows i row inside is))
