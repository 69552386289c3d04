-- Addresses in an ascending list, and those that subnets reserve.
use Rattle.std.proofs.Common.{◌≡◌, ◌≢◌, ℕ, ◌<◌, ◌≤◌, ◌==◌, ◌||◌, ◌⊎◌, inl, inr, List, [], ◌∷◌, ◌++◌, Option, None, Some, length, get_or, nat_eq, true, false, refl, sym, ap, ◌∙◌, arith}
use Rattle.std.specs.List.{list_any}
use Rattle.std.specs.List.Sorted.{IsNonDecreasing}
use Rattle.std.proofs.lemmas.Bool.{cases_lt}
use Rattle.std.proofs.lemmas.Bool.Decides.{eqb_tells}
use Rattle.std.proofs.lemmas.List.Folds.{list_any-append, list_any_at}
use Rattle.std.proofs.lemmas.List.Recursion.{or_from_places}
use Rattle.kd_config.specs.Configuration.{Configuration}
use Rattle.kd_config.specs.Reservation.{has_reserved, listed, same_address}
use Rattle.kd_config.specs.Rules.{reserved}
use Rattle.kd_config.specs.declared.reservation.Reservation.{Reservation}
use Rattle.kd_config.specs.declared.subnet.Subnet.{Subnet}
use Rattle.kd_lease.specs.Choice.{reserved_anywhere, reserved_in}
use Rattle.kd_pools.specs.Walking.{IsPlaceFor, subnets_reserved, is_listed, subnet_reserved}

in_subnet : (a : ℕ) (rs : List Reservation) → is_listed (reserved rs) a ≡ list_any (has_reserved a) rs
in_subnet a [] = refl
in_subnet a (r ∷ rs) = by r.address (in_subnet a rs) where
  by : (o : Option ℕ) → is_listed (reserved rs) a ≡ list_any (has_reserved a) rs → is_listed (listed o ++ reserved rs) a ≡ (same_address o a || list_any (has_reserved a) rs)
  by None h = h
  by (Some b) h = ap (λ t. (b == a) || t) h

in_subnets : (a : ℕ) (subnets : List Subnet) → is_listed (subnets_reserved subnets) a ≡ list_any (reserved_in a) subnets
in_subnets a [] = refl
in_subnets a (s ∷ subnets) =
    list_any-append (λ b. b == a) (subnet_reserved s) (subnets_reserved subnets) ∙ ap (λ b. b || is_listed (subnets_reserved subnets) a) (in_subnet a s.reservations)
    ∙ ap (λ b. reserved_in a s || b) (in_subnets a subnets)

-- the list of all reserved addresses has exactly those that are reserved
pub all_listed : (config : Configuration) (a : ℕ) → is_listed (subnets_reserved config.subnets) a ≡ reserved_anywhere config a
all_listed config a = in_subnets a config.subnets

differs : (x a : ℕ) → x ≢ a → nat_eq x a ≡ false
differs x a h = by (eqb_tells x a) where
  by : ((nat_eq x a ≡ true) × (x ≡ a)) ⊎ ((nat_eq x a ≡ false) × (x ≢ a)) → nat_eq x a ≡ false
  by (inl t) = absurd (h t.1)
  by (inr f) = f.0

-- a list without an address
none_listed : (list : List ℕ) (a : ℕ) → ((i : ℕ) → i < length list → get_or list i 0 ≢ a) → is_listed list a ≡ false
none_listed list a h = or_from_places (λ xs. is_listed xs a) (λ b. b == a) refl (λ x xs. refl) list 0 (λ i small. differs (get_or list i 0) a (h i small))

-- an ascending list contains an address if and only if the address is at its place
pub at_place : (list : List ℕ) (place a : ℕ) → IsNonDecreasing list → IsPlaceFor list place a → place < length list → nat_eq (get_or list place 0) a ≡ is_listed list a
at_place list place a rise is less = by (eqb_tells (get_or list place 0) a) where
  apart : get_or list place 0 ≢ a → (i : ℕ) → i < length list → get_or list i 0 ≡ a → (i < place) ⊎ (place ≤ i) → ⊥
  apart ne i small e (inl before) = omega (arith, is.below i before)
  apart ne i small e (inr behind) = ne (omega (arith, is.above place (omega arith) less, rise place i 0 behind small))

  by : ((nat_eq (get_or list place 0) a ≡ true) × (get_or list place 0 ≡ a)) ⊎ ((nat_eq (get_or list place 0) a ≡ false) × (get_or list place 0 ≢ a)) → nat_eq (get_or list place 0) a ≡ is_listed list a
  by (inl t) = t.0 ∙ sym (list_any_at (λ b. b == a) list place 0 less t.0)
  by (inr f) = f.0 ∙ sym (none_listed list a (λ i small e. apart f.1 i small e (cases_lt i place)))

-- and does not contain it if its place is past the end
pub past_place : (list : List ℕ) (place a : ℕ) → IsPlaceFor list place a → length list ≤ place → is_listed list a ≡ false
past_place list place a is past = none_listed list a (λ i small e. absurd (omega (arith, is.below i)))
