-- What holds of every reservation of a subnet holds of the one that counts for a message.
use Rattle.std.proofs.Common.{ℕ, Bool, true, false, ◌&&◌, List, [], ◌∷◌, Option, None, Some, if◌then◌else◌}
use Rattle.std.specs.Prelude.{IfSome}
use Rattle.std.specs.List.{AllByRecursion, find}
use Rattle.std.specs.Option.{option_or}
use Rattle.kd_config.specs.Configuration.{Configuration}
use Rattle.kd_config.specs.Reservation.{has_reserved}
use Rattle.kd_config.specs.declared.reservation.IdentityKind.{IdentityKind}
use Rattle.kd_config.specs.declared.reservation.Reservation.{Reservation}
use Rattle.kd_config.specs.declared.subnet.Subnet.{Subnet}
use Rattle.kd_lease.specs.Choice.{client_reservation, counts_by, is_from, ordered_reservation, ranked_reservation, reservation_by}
use Rattle.kd_lease.specs.Kept.{if_unseen, may_be_unseen, renews_alone, reservation_at, unseen_reservation}
use Rattle.kd_options.specs.Message.{Seen}
use Rattle.kd_lease.proofs.Served.{find-each}

or_each : (P : Reservation → Type 0) (x y : Option Reservation) → IfSome x P → IfSome y P → IfSome (option_or x y) P
or_each P None y hx hy = hy
or_each P (Some r) y hx hy = hx

module _ (P : Reservation → Type 0) (names : List (List ℕ)) (m : Seen) (s : Subnet) (each : AllByRecursion P s.reservations) where
  by_kind : (kind : IdentityKind) → IfSome (reservation_by names m s kind) P
  by_kind kind = find-each P (counts_by names m kind) s.reservations each

  ranked_each : (order : List IdentityKind) → IfSome (ranked_reservation order names m s) P
  ranked_each [] = tt
  ranked_each (kind ∷ order) = or_each P (reservation_by names m s kind) (ranked_reservation order names m s) (by_kind kind) (ranked_each order)

  -- it holds of the reservation for the client
  pub client_each : (config : Configuration) → IfSome (client_reservation config names m s) P
  client_each config = by config.extensions.identity_order where
    by : (order : List IdentityKind) → IfSome (ordered_reservation order names m s) P
    by [] = find-each P (λ r. is_from m r.identity) s.reservations each
    by (kind ∷ order) = ranked_each (kind ∷ order)

  -- and of that of an address that no relay shows
  pub unseen_each : (a : ℕ) → IfSome (unseen_reservation m s a) P
  unseen_each a = by (find (has_reserved a) s.reservations) (find-each P (has_reserved a) s.reservations each) where
    by : (o : Option Reservation) → IfSome o P → IfSome (if_unseen m o) P
    by None h = tt
    by (Some r) h = this (may_be_unseen m r) where
      this : (b : Bool) → IfSome (if b then Some r else None) P
      this true = h
      this false = tt

  -- so it holds of the one that counts for the reply with an address
  pub counting_each : (config : Configuration) (a : ℕ) → IfSome (reservation_at config names m s a) P
  counting_each config a =
      or_each P (client_reservation config names m s) (if config.extensions.keeps_leases && renews_alone m a then unseen_reservation m s a else None) (client_each config)
      (by (config.extensions.keeps_leases && renews_alone m a)) where
        by : (b : Bool) → IfSome (if b then unseen_reservation m s a else None) P
        by true = unseen_each a
        by false = tt
