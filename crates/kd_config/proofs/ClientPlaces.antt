-- The places of the first reservations for clients, and the first reservation for a client that has
-- a hardware address and may have an identifier.
use Rattle.std.proofs.Common.{◌≡◌, ◌≢◌, ◌⊎◌, inl, inr, nat_eq, ℕ, suc, ◌+◌, ◌-◌, ◌≤◌, Bool, true, false, ◌||◌, List, [], ◌∷◌, ◌++◌, Option, None, Some, refl, sym, ap, ◌∙◌, if◌then◌else◌, is_some, option_copied, Bor, length, min, slice_get, arith}
use Rattle.std.specs.List.{find, list_any, position_from}
use Rattle.std.specs.Map.{lookup}
use Rattle.std.specs.Option.{option_or}
use Rattle.std.proofs.lemmas.Bool.Decides.{eqb_tells}
use Rattle.std.proofs.lemmas.Option.{none-some, same_Some}
use Rattle.indexmap.specs.IndexMap.{insert_entry}
use Rattle.kd_config.specs.Places.{AreFirst, place_by}
use Rattle.kd_config.specs.Reservation.{earlier, found_if, identified_by, is_client, is_client_if}
use Rattle.kd_config.specs.declared.clients.Clients.{Clients}
use Rattle.kd_config.specs.declared.reservation.IdentityKind.{IdentityKind}
use Rattle.kd_config.specs.declared.reservation.IdentityKind.TheVariants as kinds
use Rattle.kd_config.specs.declared.reservation.Reservation.{Reservation}

-- numbers are equal both ways
pub flip : (a b : ℕ) → nat_eq a b ≡ nat_eq b a
flip a b = cases (eqb_tells a b) (eqb_tells b a) where
  cases : ((nat_eq a b ≡ true) × (a ≡ b)) ⊎ ((nat_eq a b ≡ false) × (a ≢ b)) → ((nat_eq b a ≡ true) × (b ≡ a)) ⊎ ((nat_eq b a ≡ false) × (b ≢ a)) → nat_eq a b ≡ nat_eq b a
  cases (inl t) (inl u) = t.0 ∙ sym u.0
  cases (inl t) (inr f) = absurd (f.1 (sym t.1))
  cases (inr f) (inl t) = absurd (f.1 (sym t.1))
  cases (inr f) (inr g) = f.0 ∙ sym g.0

-- the value of a key that was not there
pub inserted : {K B : Type 0} (eq : B → B → Bool) (items : K → B) (es : List (K × ℕ)) (key : K) (v : ℕ) (other : B) → lookup (λ k. eq (items key) (items k)) es ≡ None
    → lookup (λ k. eq other (items k)) (insert_entry (λ a b. eq (items a) (items b)) es key v)
    ≡ option_or (lookup (λ k. eq other (items k)) es) (if eq other (items key) then Some v else None)
inserted eq items [] key v other absent = refl
inserted eq items (e ∷ es) key v other absent = cases (eq (items key) (items e.0)) refl (eq other (items e.0)) refl (inserted eq items es key v other) where
  cases : (t : Bool) → eq (items key) (items e.0) ≡ t → (u : Bool) → eq other (items e.0) ≡ u
      → (lookup (λ k. eq (items key) (items k)) es ≡ None
      → lookup (λ k. eq other (items k)) (insert_entry (λ a b. eq (items a) (items b)) es key v) ≡ option_or (lookup (λ k. eq other (items k)) es) (if eq other (items key) then Some v else None))
      → lookup (λ k. eq other (items k)) (insert_entry (λ a b. eq (items a) (items b)) (e ∷ es) key v)
      ≡ option_or (lookup (λ k. eq other (items k)) (e ∷ es)) (if eq other (items key) then Some v else None)
  cases true t u is more = absurd (none-some e.1 (sym absent ∙ found)) where
    found : lookup (λ k. eq (items key) (items k)) (e ∷ es) ≡ Some e.1
    found = rw t refl
  cases false t true is more = rw t (rw is refl)
  cases false t false is more = rw t (rw is (more rest)) where
    rest : lookup (λ k. eq (items key) (items k)) es ≡ None
    rest = sym behind ∙ absent where
      behind : lookup (λ k. eq (items key) (items k)) (e ∷ es) ≡ lookup (λ k. eq (items key) (items k)) es
      behind = rw t refl

-- the first place, with an element more
pub first_more : {X : Type 0} (test : X → Bool) (i : ℕ) (xs : List X) (x : X) → position_from test i (xs ++ x ∷ []) ≡ option_or (position_from test i xs) (if test x then Some (i + length xs) else None)
first_more test i [] x = let here : i ≡ i + 0 = omega arith in ap (λ n. if test x then Some n else None) here
first_more test i (y ∷ xs) x = by (test y) (first_more test (i + 1) xs x) where
  by : (t : Bool) → position_from test (i + 1) (xs ++ x ∷ []) ≡ option_or (position_from test (i + 1) xs) (if test x then Some (i + 1 + length xs) else None)
      → (if t then Some i else position_from test (i + 1) (xs ++ x ∷ [])) ≡ option_or (if t then Some i else position_from test (i + 1) xs) (if test x then Some (i + suc (length xs)) else None)
  by true h = refl
  by false h = let next : i + 1 + length xs ≡ i + suc (length xs) = omega arith in h ∙ ap (λ n. option_or (position_from test (i + 1) xs) (if test x then Some n else None)) next

-- a place that is found is not before the start
pub from_start : {X : Type 0} (test : X → Bool) (i : ℕ) (xs : List X) (k : ℕ) → position_from test i xs ≡ Some k → i ≤ k
from_start test i [] k is = absurd (none-some k is)
from_start test i (x ∷ xs) k is = by (test x) is (from_start test (i + 1) xs k) where
  by : (t : Bool) → (if t then Some i else position_from test (i + 1) xs) ≡ Some k → (position_from test (i + 1) xs ≡ Some k → i + 1 ≤ k) → i ≤ k
  by true is more = let same = same_Some i k is in omega (arith, same)
  by false is more = let later = more is in omega (arith, later)

from_before : {X : Type 0} (test : X → Bool) (i : ℕ) (xs : List X) (k : ℕ) → position_from test (i + 1) xs ≡ Some k → i ≤ k
from_before test i xs k is = let late = from_start test (i + 1) xs k is in omega (arith, late)

-- the element at a place, if there is one
abbrev pub at_place : {X : Type 0} → List X → ℕ → Option ℕ → Option X
at_place xs i None = None
at_place xs i (Some k) = slice_get xs (k - i)

first_here : (i : ℕ) (q : Option ℕ) → ((k : ℕ) → q ≡ Some k → i ≤ k) → (earlier (Some i) q ≡ Some i) × (earlier q (Some i) ≡ Some i)
first_here i None from = (refl, refl)
first_here i (Some k) from =
    let late = from k refl in
    let left : min i k ≡ i = omega (arith, late) in
    let right : min k i ≡ i = omega (arith, late) in
    (ap Some left, ap Some right)

at_here : {X : Type 0} (x : X) (xs : List X) (i : ℕ) → at_place (x ∷ xs) i (Some i) ≡ Some x
at_here x xs i = let none : i - i ≡ 0 = omega arith in ap (λ n. slice_get (x ∷ xs) n) none

at_later : {X : Type 0} (x : X) (xs : List X) (i : ℕ) (q : Option ℕ) → ((k : ℕ) → q ≡ Some k → i + 1 ≤ k) → at_place (x ∷ xs) i q ≡ at_place xs (i + 1) q
at_later x xs i None from = refl
at_later x xs i (Some k) from = let late = from k refl in let next : k - i ≡ suc (k - (i + 1)) = omega (arith, late) in ap (λ n. slice_get (x ∷ xs) n) next

earlier_from : (i : ℕ) (p q : Option ℕ) → ((k : ℕ) → p ≡ Some k → i ≤ k) → ((k : ℕ) → q ≡ Some k → i ≤ k) → (k : ℕ) → earlier p q ≡ Some k → i ≤ k
earlier_from i None q a b k is = b k is
earlier_from i (Some m) None a b k is = a k is
earlier_from i (Some m) (Some n) a b k is =
    let same = same_Some (min m n) k is in
    let left = a m refl in
    let right = b n refl in
    omega (arith, same, left, right)

-- the first that passes either test is at the earlier of the two first places
pub first_of_both : {X : Type 0} (f g : X → Bool) (i : ℕ) (xs : List X) → find (λ x. f x || g x) xs ≡ at_place xs i (earlier (position_from f i xs) (position_from g i xs))
first_of_both f g i [] = refl
first_of_both f g i (x ∷ xs) = by (f x) (g x) (first_of_both f g (i + 1) xs) where
  p : Option ℕ
  p = position_from f (i + 1) xs

  q : Option ℕ
  q = position_from g (i + 1) xs

  by : (t u : Bool) → find (λ x. f x || g x) xs ≡ at_place xs (i + 1) (earlier p q)
      → (if t || u then Some x else find (λ x. f x || g x) xs) ≡ at_place (x ∷ xs) i (earlier (if t then Some i else p) (if u then Some i else q))
  by true true more = sym (ap (at_place (x ∷ xs) i) (first_here i (Some i) (λ k is. omega (arith, same_Some i k is))).0 ∙ at_here x xs i)
  by true false more = sym (ap (at_place (x ∷ xs) i) (first_here i q (from_before g i xs)).0 ∙ at_here x xs i)
  by false true more = sym (ap (at_place (x ∷ xs) i) (first_here i p (from_before f i xs)).1 ∙ at_here x xs i)
  by false false more =
      more ∙ sym (at_later x xs i (earlier p q) (earlier_from (i + 1) p q (from_start f (i + 1) xs) (from_start g (i + 1) xs)))

-- the first that passes a test is at its first place
pub first_at : {X : Type 0} (f : X → Bool) (i : ℕ) (xs : List X) → find f xs ≡ at_place xs i (position_from f i xs)
first_at f i [] = refl
first_at f i (x ∷ xs) = by (f x) (first_at f (i + 1) xs) where
  by : (t : Bool) → find f xs ≡ at_place xs (i + 1) (position_from f (i + 1) xs)
      → (if t then Some x else find f xs) ≡ at_place (x ∷ xs) i (if t then Some i else position_from f (i + 1) xs)
  by true more = sym (at_here x xs i)
  by false more = more ∙ sym (at_later x xs i (position_from f (i + 1) xs) (from_start f (i + 1) xs))

-- there is a first place exactly where any passes
pub any_at : {X : Type 0} (f : X → Bool) (i : ℕ) (xs : List X) → is_some (position_from f i xs) ≡ list_any f xs
any_at f i [] = refl
any_at f i (x ∷ xs) = by (f x) (any_at f (i + 1) xs) where
  by : (t : Bool) → is_some (position_from f (i + 1) xs) ≡ list_any f xs
      → is_some (if t then Some i else position_from f (i + 1) xs) ≡ (t || list_any f xs)
  by true more = refl
  by false more = more

-- there is a reference exactly where there is what it refers to
pub copied_some : {X : Type 0} (found : Option (Bor X)) → is_some (option_copied found) ≡ is_some found
copied_some None = refl
copied_some (Some x) = refl

none_passes : {X : Type 0} (i : ℕ) (xs : List X) → position_from (λ x. false) i xs ≡ None
none_passes i [] = refl
none_passes i (x ∷ xs) = none_passes (i + 1) xs

-- what is found for bytes, if there are any
pub found_places : (table : Clients) (list : List Reservation) → AreFirst table 0 list → (kind : IdentityKind) (id : Option (List ℕ))
    → found_if (place_by table kind) id ≡ position_from (λ r. is_client_if kind id r.identity) 0 list
found_places table list are kind None = sym (none_passes 0 list)
found_places table list are kind (Some bytes) = are kind bytes

pub or-none : (x : Option ℕ) → option_or x None ≡ x
or-none None = refl
or-none (Some x) = refl

-- the first reservation for a client is at the earlier of the places that are found for its bytes
pub first_of_client : (table : Clients) (list : List Reservation) → AreFirst table 0 list → (mac : List ℕ) (id : Option (List ℕ))
    → find (λ r. identified_by mac id r.identity) list ≡ at_place list 0 (earlier (place_by table kinds.Hardware mac) (found_if (place_by table kinds.ClientId) id))
first_of_client table list are mac id =
    first_of_both (λ r. is_client kinds.Hardware mac r.identity) (λ r. is_client_if kinds.ClientId id r.identity) 0 list
    ∙ ap (λ p. at_place list 0 (earlier p (position_from (λ r. is_client_if kinds.ClientId id r.identity) 0 list))) (sym (are kinds.Hardware mac))
    ∙ ap (λ q. at_place list 0 (earlier (place_by table kinds.Hardware mac) q)) (sym (found_places table list are kinds.ClientId id))
