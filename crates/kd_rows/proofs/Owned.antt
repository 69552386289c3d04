-- The addresses of a client are a run of the index.
use Rattle.std.proofs.Common.{◌≡◌, ℕ, ◌+◌, ◌-◌, ◌<◌, ◌≤◌, Bool, true, false, ◌&&◌, ◌||◌, List, [], ◌∷◌, length, get_or, drop, map, zero, suc, refl, sym, ap, ◌∙◌, subst, Option, Some, None, is_some, ⊎_elim, arith, if◌then◌else◌, ◌==◌, nat_eq, slice_get}
use Rattle.std.specs.Cmp.Lexicographic.{bytes_decides, nat_list_cmp_total, pointwise, slice_cmp}
use Rattle.std.specs.List.{filter}
use Rattle.std.specs.Ordering.{nat_cmp, ordering_then}
use Rattle.std.specs.declared.cmp.Ordering.{Ordering}
use Rattle.std.specs.declared.cmp.Ordering.TheVariants.{Less, Equal, Greater}
use Rattle.std.proofs.lemmas.Bool.{cases_Bool, cases_eq, eqb-true, false≢true}
use Rattle.std.proofs.lemmas.Bool.Decides.{nat_tests}
use Rattle.std.proofs.lemmas.Cmp.{tied_itself}
use Rattle.std.proofs.lemmas.List.{get_or-drop, length-drop}
use Rattle.std.proofs.lemmas.Map.Lookups.{exact_bytes}
use Rattle.kd_rows.specs.declared.row.Row.{Row}
use Rattle.kd_rows.specs.Index.{IsKeyBelow, IsIndex, IsKeyPlace, Rises, client_at, client_in, client_of, lists, key_at}
use Rattle.kd_rows.specs.Table.{Rise, RiseFrom, addresses_of, belongs_to, row_at}
use Rattle.kd_rows.proofs.Places.{none_below}

-- numbers in ascending order from n on
abbrev pub Ascends : ℕ → List ℕ → Type 0
Ascends n [] = Unit {0}
Ascends n (x ∷ xs) = (n ≤ x) × Ascends (x + 1) xs

pub ascends_from : (n m : ℕ) (xs : List ℕ) → n ≤ m → Ascends m xs → Ascends n xs
ascends_from n m [] le h = tt
ascends_from n m (x ∷ xs) le h = let g = h.0 in (omega arith, h.1)

pub ascends_lists : (n : ℕ) (xs : List ℕ) (a : ℕ) → Ascends n xs → lists xs a ≡ true → n ≤ a
ascends_lists n [] a h e = cc
ascends_lists n (x ∷ xs) a h e =
    let tail = ascends_lists (x + 1) xs a h.1 in
    let head = h.0 in
    grind (arith, nat_tests)

pub same_ascending : (m n : ℕ) (xs ys : List ℕ) → Ascends m xs → Ascends n ys → ((a : ℕ) → lists xs a ≡ lists ys a) → xs ≡ ys
same_ascending m n [] [] h g same = refl
same_ascending m n [] (y ∷ ys) h g same = let e = same y in grind (arith, nat_tests)
same_ascending m n (x ∷ xs) [] h g same = let e = same x in grind (arith, nat_tests)
same_ascending m n (x ∷ xs) (y ∷ ys) h g same = by (both x y xs ys h.1 g.1 same) (same_ascending (x + 1) (y + 1) xs ys h.1 g.1) where
  both : (x y : ℕ) (xs ys : List ℕ) → Ascends (x + 1) xs → Ascends (y + 1) ys → ((a : ℕ) → lists (x ∷ xs) a ≡ lists (y ∷ ys) a) → x ≡ y
  both x y xs ys h g same =
      let left = ascends_lists (x + 1) xs y h in
      let right = ascends_lists (y + 1) ys x g in
      let at_x = same x in
      let at_y = same y in
      grind (arith, nat_tests)

  rest : (x y : ℕ) (xs ys : List ℕ) → Ascends (x + 1) xs → Ascends (y + 1) ys → ((a : ℕ) → lists (x ∷ xs) a ≡ lists (y ∷ ys) a) → x ≡ y → (a : ℕ) → lists xs a ≡ lists ys a
  rest x y xs ys h g same e a =
      let left = ascends_lists (x + 1) xs a h in
      let right = ascends_lists (y + 1) ys a g in
      let here = same a in
      grind (arith, nat_tests)

  by : x ≡ y → (((a : ℕ) → lists xs a ≡ lists ys a) → xs ≡ ys) → ◌≡◌ {A = List ℕ} (x ∷ xs) (y ∷ ys)
  by e tails = let t = tails (rest x y xs ys h.1 g.1 same e) in cc

-- which addresses are a client's
abbrev pub owns : List Row → List ℕ → ℕ → Bool
owns rows client a = pointwise nat_eq (client_at rows a) client

pub lists-filter : (p : ℕ → Bool) (xs : List ℕ) (a : ℕ) → lists (filter p xs) a ≡ (p a && lists xs a)
lists-filter p [] a = by (p a) where
  by : (b : Bool) → false ≡ (b && false)
  by true = refl
  by false = refl
lists-filter p (x ∷ xs) a = by (p x) (x == a) refl refl (lists-filter p xs a) where
  by : (b t : Bool) → p x ≡ b → (x == a) ≡ t → lists (filter p xs) a ≡ (p a && lists xs a) → lists (if b then x ∷ filter p xs else filter p xs) a ≡ (p a && (t || lists xs a))
  by b true e t h = let g = ap p (eqb-true x a t) in grind (arith, nat_tests)
  by true false e t h = rw t h
  by false false e t h = h

-- which addresses are among a client's
pub lists-addresses : (client : List ℕ) (n : ℕ) (rows : List Row) (a : ℕ) → RiseFrom n rows → lists (addresses_of client rows) a ≡ (owns rows client a && is_some (row_at rows a))
lists-addresses client n [] a rise = by (pointwise nat_eq [] client) where
  by : (b : Bool) → false ≡ (b && false)
  by true = refl
  by false = refl
lists-addresses client n (r ∷ rows) a rise =
    by (r.address == a) (belongs_to client r) refl refl (lists-addresses client (r.address + 1) rows a rise.1) (λ e. none_below (r.address + 1) rows a rise.1 (omega (arith, e))) where
      both : (b : Bool) (o : Option Row) → o ≡ None → (b && is_some o) ≡ false
      both true o e = ap is_some e
      both false o e = refl

      right : (b : Bool) → b ≡ (b && true)
      right true = refl
      right false = refl

      by : (t b : Bool) → (r.address == a) ≡ t → belongs_to client r ≡ b → lists (addresses_of client rows) a ≡ (owns rows client a && is_some (row_at rows a)) → (r.address ≡ a → row_at rows a ≡ None)
          → lists (map (λ (row : Row). row.address) (if b then r ∷ filter (belongs_to client) rows else filter (belongs_to client) rows)) a ≡ (pointwise nat_eq (client_in (if t then Some r else row_at rows a)) client && is_some (if t then Some r else row_at rows a))
      by true true t e h none = rw (t, e) refl
      by true false t e h none = h ∙ (both (owns rows client a) (row_at rows a) (none (eqb-true r.address a t)) ∙ rw e refl)
      by false true t e h none = rw t h
      by false false t e h none = h

pub addresses_ascend : (client : List ℕ) (n : ℕ) (rows : List Row) → RiseFrom n rows → Ascends n (addresses_of client rows)
addresses_ascend client n [] rise = tt
addresses_ascend client n (r ∷ rows) rise = by (belongs_to client r) (addresses_ascend client (r.address + 1) rows rise.1) where
  by : (b : Bool) → Ascends (r.address + 1) (addresses_of client rows) → Ascends n (map (λ (row : Row). row.address) (if b then r ∷ filter (belongs_to client) rows else filter (belongs_to client) rows))
  by true h = (rise.0, h)
  by false h = let g = rise.0 in ascends_from n (r.address + 1) (addresses_of client rows) (omega arith) h

-- of two keys of one client the one with the lower address comes first
pub same_client : (c d : List ℕ) (a b : ℕ) → c ≡ d → IsKeyBelow (c, a) (d, b) → a < b
same_client c d a b e h = less a b (sym (ap (λ (o : Ordering). ordering_then o (nat_cmp a b)) (subst (λ (x : List ℕ). slice_cmp nat_cmp c x ≡ Equal) e (tied_itself nat_list_cmp_total c))) ∙ h) where
  less : (a b : ℕ) → nat_cmp a b ≡ Less → a < b
  less a b h = grind (arith, nat_tests)

pub owned_ascend : (f : ℕ → List ℕ) (client : List ℕ) (n : ℕ) (index : List ℕ) → Rises (λ a. (f a, a)) index → ((i : ℕ) → i < length index → pointwise nat_eq (f (get_or index i 0)) client ≡ true → n ≤ get_or index i 0) → Ascends n (filter (λ a. pointwise nat_eq (f a) client) index)
owned_ascend f client n [] rising from = tt
owned_ascend f client n (x ∷ index) rising from =
    by (pointwise nat_eq (f x) client) refl (owned_ascend f client (x + 1) index tail) (owned_ascend f client n index tail (λ i within own. from (suc i) (omega arith) own)) where
      tail : Rises (λ a. (f a, a)) index
      tail i j order within = rising (suc i) (suc j) (omega arith) (omega arith)

      by : (b : Bool) → pointwise nat_eq (f x) client ≡ b → (((i : ℕ) → i < length index → pointwise nat_eq (f (get_or index i 0)) client ≡ true → x + 1 ≤ get_or index i 0) → Ascends (x + 1) (filter (λ a. pointwise nat_eq (f a) client) index)) → Ascends n (filter (λ a. pointwise nat_eq (f a) client) index)
          → Ascends n (if b then x ∷ filter (λ a. pointwise nat_eq (f a) client) index else filter (λ a. pointwise nat_eq (f a) client) index)
      by true e onward skipped = (
        from 0 (omega arith) e,
        onward (λ i within own.
            let same : f x ≡ f (get_or index i 0) = (bytes_decides (f x) client).0 e ∙ sym ((bytes_decides (f (get_or index i 0)) client).0 own) in
            let order = same_client (f x) (f (get_or index i 0)) x (get_or index i 0) same (rising 0 (suc i) (omega arith) (omega arith)) in
            omega arith),
      )
      by false e onward skipped = skipped

-- a filter whose test fails at one element fails from there on: it keeps a prefix
pub kept_none : (p : ℕ → Bool) (xs : List ℕ) → ((i : ℕ) → i < length xs → p (get_or xs i 0) ≡ false) → filter p xs ≡ []
kept_none p [] out = refl
kept_none p (x ∷ xs) out =
    let head : p x ≡ false = out 0 (omega arith) in
    rw head (kept_none p xs (λ i within. out (suc i) (omega arith)))

pub kept_some : (p : ℕ → Bool) (xs : List ℕ) (i : ℕ) → ((i j : ℕ) → i < j → j < length xs → p (get_or xs i 0) ≡ false → p (get_or xs j 0) ≡ false) → i < length xs → p (get_or xs i 0) ≡ true → slice_get (filter p xs) i ≡ Some (get_or xs i 0)
kept_some p [] i front within here = absurd (omega arith)
kept_some p (x ∷ xs) zero front within here = let head : p x ≡ true = here in rw head refl
kept_some p (x ∷ xs) (suc i) front within here =
    by (p x) refl (kept_some p xs i (λ i j order inside. front (suc i) (suc j) (omega arith) (omega arith)) (omega arith) here) where
      by : (b : Bool) → p x ≡ b → slice_get (filter p xs) i ≡ Some (get_or xs i 0) → slice_get (if b then x ∷ filter p xs else filter p xs) (suc i) ≡ Some (get_or xs i 0)
      by true e h = h
      by false e h = let g = front 0 (suc i) (omega arith) within e in cc

pub past_none : (p : ℕ → Bool) (xs : List ℕ) (i : ℕ) → ((i j : ℕ) → i < j → j < length xs → p (get_or xs i 0) ≡ false → p (get_or xs j 0) ≡ false) → (i < length xs → p (get_or xs i 0) ≡ false) → slice_get (filter p xs) i ≡ None
past_none p [] i front out = refl
past_none p (x ∷ xs) zero front out =
    rw (kept_none p (x ∷ xs) (λ i within. ⊎_elim (λ e. subst (λ (j : ℕ). p (get_or (x ∷ xs) j 0) ≡ false) (sym e) (out (omega arith))) (λ n. front 0 i (omega arith) within (out (omega arith))) (cases_eq i 0))) refl
past_none p (x ∷ xs) (suc i) front out =
    by (p x) refl (past_none p xs i (λ i j order inside. front (suc i) (suc j) (omega arith) (omega arith)) (λ within. out (omega arith))) where
      by : (b : Bool) → p x ≡ b → slice_get (filter p xs) i ≡ None → slice_get (if b then x ∷ filter p xs else filter p xs) (suc i) ≡ None
      by true e h = h
      by false e h = rw (kept_none p xs (λ j within. front 0 (suc j) (omega arith) (omega arith) e)) refl

-- what fails at the beginning is left out
pub skipped : (p : ℕ → Bool) (xs : List ℕ) (start : ℕ) → start ≤ length xs → ((i : ℕ) → i < start → p (get_or xs i 0) ≡ false) → filter p xs ≡ filter p (drop start xs)
skipped p xs zero within out = refl
skipped p [] (suc start) within out = refl
skipped p (x ∷ xs) (suc start) within out =
    let head : p x ≡ false = out 0 (omega arith) in
    rw head (skipped p xs start (omega arith) (λ i before. out (suc i) (omega arith)))

-- a client's addresses are those of the index that it owns
pub addresses_are : (rows : List Row) (index : List ℕ) (client : List ℕ) → Rise rows → IsIndex client_of rows index → addresses_of client rows ≡ filter (owns rows client) index
addresses_are rows index client rise indexed =
    same_ascending 0 0 (addresses_of client rows) (filter (owns rows client) index) (addresses_ascend client 0 rows rise)
    (owned_ascend (client_at rows) client 0 index indexed.rising (λ i within own. omega arith))
    (λ a. lists-addresses client 0 rows a rise ∙ sym (lists-filter (owns rows client) index a ∙ ap (λ (b : Bool). owns rows client a && b) (indexed.same a)))

-- a key that is not below one of a client's keys, but below another, is the client's
pub not_again : (c client : List ℕ) (x from y : ℕ) → (IsKeyBelow (c, x) (client, from) → ⊥) → IsKeyBelow (c, x) (client, y) → c ≡ client
not_again c client x from y first second = by (slice_cmp nat_cmp c client) refl where
  by : (o : Ordering) → slice_cmp nat_cmp c client ≡ o → c ≡ client
  by Less e = absurd (first (rw e refl))
  by Equal e = exact_bytes c client e
  by Greater e = let h = rw e at second in cc

-- before the index of a client's first key there are none of its addresses
pub none_before : (rows : List Row) (index : List ℕ) (client : List ℕ) (start : ℕ) → IsKeyPlace (key_at rows) index (client, 0) start → (i : ℕ) → i < start → owns rows client (get_or index i 0) ≡ false
none_before rows index client start p i before = ⊎_elim (λ own. absurd (let h = same_client (client_at rows (get_or index i 0)) client (get_or index i 0) 0 ((bytes_decides (client_at rows (get_or index i 0)) client).0 own) (p.below i before) in omega arith)) (λ e. e) (cases_Bool (owns rows client (get_or index i 0)))

-- and from there on, once one is not the client's, none after is
pub none_behind : (rows : List Row) (index : List ℕ) (client : List ℕ) (start : ℕ) → Rises (key_at rows) index → IsKeyPlace (key_at rows) index (client, 0) start → (i j : ℕ) → start ≤ i → i < j → j < length index → owns rows client (get_or index i 0) ≡ false → owns rows client (get_or index j 0) ≡ false
none_behind rows index client start rising p i j from order within out = ⊎_elim (λ own. absurd (false≢true (sym out ∙ (bytes_decides (client_at rows (get_or index i 0)) client).1 (same own)))) (λ e. e) (cases_Bool (owns rows client (get_or index j 0))) where
  same : owns rows client (get_or index j 0) ≡ true → client_at rows (get_or index i 0) ≡ client
  same own =
      let theirs = (bytes_decides (client_at rows (get_or index j 0)) client).0 own in
      not_again (client_at rows (get_or index i 0)) client (get_or index i 0) 0 (get_or index j 0) (p.above i from (omega arith))
      (subst (λ (c : List ℕ). IsKeyBelow (client_at rows (get_or index i 0), get_or index i 0) (c, get_or index j 0)) theirs (rising i j order within))

-- the addresses of a client begin at the index of its first key
pub from_start : (rows : List Row) (index : List ℕ) (client : List ℕ) (start : ℕ) → Rise rows → IsIndex client_of rows index → IsKeyPlace (key_at rows) index (client, 0) start → addresses_of client rows ≡ filter (owns rows client) (drop start index)
from_start rows index client start rise indexed p =
    addresses_are rows index client rise indexed ∙ skipped (owns rows client) index start p.in_range (none_before rows index client start p)

pub front_of : (rows : List Row) (index : List ℕ) (client : List ℕ) (start : ℕ) → Rises (key_at rows) index → IsKeyPlace (key_at rows) index (client, 0) start → (i j : ℕ) → i < j → j < length (drop start index) → owns rows client (get_or (drop start index) i 0) ≡ false → owns rows client (get_or (drop start index) j 0) ≡ false
front_of rows index client start rising p i j order within out =
    rw (get_or-drop start index j 0) (none_behind rows index client start rising p (start + i) (start + j) (omega arith) (omega arith) (omega (arith, length-drop start index)) (rw (get_or-drop start index i 0) at out))

pub nth_some : (rows : List Row) (index : List ℕ) (client : List ℕ) (start i : ℕ) → Rise rows → IsIndex client_of rows index → IsKeyPlace (key_at rows) index (client, 0) start → i < length index - start → owns rows client (get_or index (start + i) 0) ≡ true → slice_get (addresses_of client rows) i ≡ Some (get_or index (start + i) 0)
nth_some rows index client start i rise indexed p within own =
    ap (λ (xs : List ℕ). slice_get xs i) (from_start rows index client start rise indexed p)
    ∙ kept_some (owns rows client) (drop start index) i (front_of rows index client start indexed.rising p) (omega (arith, length-drop start index)) (rw (get_or-drop start index i 0) own)
    ∙ ap Some (get_or-drop start index i 0)

pub nth_none : (rows : List Row) (index : List ℕ) (client : List ℕ) (start i : ℕ) → Rise rows → IsIndex client_of rows index → IsKeyPlace (key_at rows) index (client, 0) start → (i < length index - start → owns rows client (get_or index (start + i) 0) ≡ false) → slice_get (addresses_of client rows) i ≡ None
nth_none rows index client start i rise indexed p out =
    ap (λ (xs : List ℕ). slice_get xs i) (from_start rows index client start rise indexed p)
    ∙ past_none (owns rows client) (drop start index) i (front_of rows index client start indexed.rising p) (λ within. rw (get_or-drop start index i 0) (out (omega (arith, length-drop start index))))
