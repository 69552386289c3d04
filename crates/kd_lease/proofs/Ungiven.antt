-- Where no reservation of a subnet gives options, or has a value for boot fields, the one that counts for a
-- reply gives none.
use Rattle.std.proofs.Common.{◌≡◌, ℕ, Bool, true, false, not, ◌&&◌, ◌||◌, ◌==◌, List, [], ◌∷◌, length, Option, None, Some, refl, sym, if◌then◌else◌}
use Rattle.std.specs.List.{find, list_any}
use Rattle.std.specs.Option.{option_or}
use Rattle.std.proofs.lemmas.Bool.{eqb-true, false≢true}
use Rattle.std.proofs.lemmas.List.{nil_from_length}
use Rattle.kd_config.specs.Configuration.{Configuration}
use Rattle.kd_config.specs.Reservation.{has_boots, has_options, has_reserved}
use Rattle.kd_config.specs.declared.reservation.IdentityKind.{IdentityKind}
use Rattle.kd_config.specs.declared.reservation.Reservation.{Reservation}
use Rattle.kd_config.specs.declared.subnet.Subnet.{Subnet}
use Rattle.kd_options.specs.Message.{Seen}
use Rattle.kd_lease.specs.Booting.{boots_reserved, reserved_boots}
use Rattle.kd_lease.specs.Choice.{client_reservation, counts_by, is_from, ordered_reservation, ranked_reservation, reservation_by}
use Rattle.kd_lease.specs.Given.{options_reserved, reserved_options}
use Rattle.kd_lease.specs.Kept.{if_unseen, may_be_unseen, renews_alone, reservation_at, unseen_reservation}

-- there is a reservation, and it passes a test
abbrev is_such : (Reservation → Bool) → Option Reservation → Bool
is_such such None = false
is_such such (Some r) = such r

found_none : (such test : Reservation → Bool) (rs : List Reservation) → list_any such rs ≡ false → is_such such (find test rs) ≡ false
found_none such test [] none = refl
found_none such test (r ∷ rs) none = by (such r) refl (test r) none (found_none such test rs) where
  by : (b : Bool) → such r ≡ b → (c : Bool) → (b || list_any such rs) ≡ false
      → (list_any such rs ≡ false → is_such such (find test rs) ≡ false)
      → is_such such (if c then Some r else find test rs) ≡ false
  by false e true h rest = e
  by false e false h rest = rest h
  by true e c h rest = absurd (false≢true (sym h))

either_none : (such : Reservation → Bool) (a b : Option Reservation) → is_such such a ≡ false → is_such such b ≡ false → is_such such (option_or a b) ≡ false
either_none such None b first second = second
either_none such (Some r) b first second = first

ranked_none : (such : Reservation → Bool) (kinds : List IdentityKind) (names : List (List ℕ)) (m : Seen) (s : Subnet) → list_any such s.reservations ≡ false → is_such such (ranked_reservation kinds names m s) ≡ false
ranked_none such [] names m s none = refl
ranked_none such (kind ∷ kinds) names m s none =
    either_none such (reservation_by names m s kind) (ranked_reservation kinds names m s)
    (found_none such (counts_by names m kind) s.reservations none) (ranked_none such kinds names m s none)

ordered_none : (such : Reservation → Bool) (kinds : List IdentityKind) (names : List (List ℕ)) (m : Seen) (s : Subnet) → list_any such s.reservations ≡ false → is_such such (ordered_reservation kinds names m s) ≡ false
ordered_none such [] names m s none = found_none such (λ r. is_from m r.identity) s.reservations none
ordered_none such (kind ∷ kinds) names m s none = ranked_none such (kind ∷ kinds) names m s none

unseen_none : (such : Reservation → Bool) (m : Seen) (o : Option Reservation) → is_such such o ≡ false → is_such such (if_unseen m o) ≡ false
unseen_none such m None h = refl
unseen_none such m (Some r) h = by (may_be_unseen m r) where
  by : (b : Bool) → is_such such (if b then Some r else None) ≡ false
  by true = h
  by false = refl

-- the reservation that counts passes no test that none of the subnet passes
counting_none : (such : Reservation → Bool) (config : Configuration) (names : List (List ℕ)) (m : Seen) (s : Subnet) (a : ℕ) → list_any such s.reservations ≡ false → is_such such (reservation_at config names m s a) ≡ false
counting_none such config names m s a none =
    either_none such (client_reservation config names m s) (if config.extensions.keeps_leases && renews_alone m a then unseen_reservation m s a else None)
    (ordered_none such config.extensions.identity_order names m s none) (by (config.extensions.keeps_leases && renews_alone m a)) where
      by : (b : Bool) → is_such such (if b then unseen_reservation m s a else None) ≡ false
      by true = unseen_none such m (find (has_reserved a) s.reservations) (found_none such (has_reserved a) s.reservations none)
      by false = refl

empty : {A : Type 0} (xs : List A) → not (length xs == 0) ≡ false → xs ≡ []
empty xs h = by (length xs == 0) refl h where
  by : (b : Bool) → (length xs == 0) ≡ b → not b ≡ false → xs ≡ []
  by true e g = nil_from_length xs (eqb-true (length xs) 0 e)
  by false e g = absurd (false≢true (sym g))

no_options : (o : Option Reservation) → is_such has_options o ≡ false → options_reserved o ≡ []
no_options None h = refl
no_options (Some r) h = empty r.options h

no_values : (o : Option Reservation) → is_such has_boots o ≡ false → boots_reserved o ≡ []
no_values None h = refl
no_values (Some r) h = empty r.boots h

-- where no reservation of a subnet has options, the one that counts gives none
pub no_reserved_options : (config : Configuration) (names : List (List ℕ)) (m : Seen) (s : Subnet) (a : ℕ) → list_any has_options s.reservations ≡ false → reserved_options config names m s a ≡ []
no_reserved_options config names m s a none = no_options (reservation_at config names m s a) (counting_none has_options config names m s a none)

-- where none has a value for boot fields, the one that counts gives none
pub no_reserved_boots : (config : Configuration) (names : List (List ℕ)) (m : Seen) (s : Subnet) (a : ℕ) → list_any has_boots s.reservations ≡ false → reserved_boots config names m s a ≡ []
no_reserved_boots config names m s a none = no_values (reservation_at config names m s a) (counting_none has_boots config names m s a none)
