-- What is true of every sound configuration: an address is in one pool and in one reservation, a
-- client has one reservation in a subnet, and the tests of classes are accepted programs.
use Rattle.std.specs.Prelude.{◌≡◌, ℕ, true, slice_get, Some}
use Rattle.std.specs.List.{AllByRecursion}
use Rattle.kd_classes.specs.HeldSet.{IsAccepted}
use Rattle.kd_config.specs.Apart.{has}
use Rattle.kd_config.specs.Configuration.{Configuration}
use Rattle.kd_config.specs.Sound.{IsSound}
use Rattle.kd_config.specs.declared.pool.Pool.{Pool}
use Rattle.kd_config.specs.declared.reservation.Reservation.{Reservation}
use Rattle.kd_config.specs.declared.subnet.Subnet.{Subnet}

-- the subnet at index i has the pool at its index j
pub record HasPool (c : Configuration) (i j : ℕ) (pool : Pool) : Type 0 where
  pub subnet : Subnet
  pub subnet_at : slice_get c.subnets i ≡ Some subnet
  pub pool_at : slice_get subnet.pools j ≡ Some pool

-- the subnet at index i has the reservation at its index j
pub record HasReservation (c : Configuration) (i j : ℕ) (reservation : Reservation) : Type 0 where
  pub subnet : Subnet
  pub subnet_at : slice_get c.subnets i ≡ Some subnet
  pub reservation_at : slice_get subnet.reservations j ≡ Some reservation

-- two pools that share an address are the same: they have the same index in the same subnet
abbrev pub AddressHasOnePool : Type 0
AddressHasOnePool = (c : Configuration) (a i j k l : ℕ) (pool other : Pool) → IsSound c
    → HasPool c i j pool → HasPool c k l other → has pool.range a ≡ true → has other.range a ≡ true
    → (i ≡ k) × (j ≡ l)

-- two reservations of one address are the same: they have the same index in the same subnet
abbrev pub AddressHasOneReservation : Type 0
AddressHasOneReservation = (c : Configuration) (a i j k l : ℕ) (reservation other : Reservation)
    → IsSound c
    → HasReservation c i j reservation → HasReservation c k l other
    → reservation.address ≡ Some a → other.address ≡ Some a
    → (i ≡ k) × (j ≡ l)

-- two reservations of one subnet for one client are the same: they have the same index
abbrev pub ClientHasOneReservation : Type 0
ClientHasOneReservation = (c : Configuration) (i j l : ℕ) (reservation other : Reservation)
    → IsSound c
    → HasReservation c i j reservation → HasReservation c i l other
    → reservation.identity ≡ other.identity
    → j ≡ l

-- the test of each class that has one is an accepted program
abbrev pub TestsAreAccepted : Type 0
TestsAreAccepted = (c : Configuration) → IsSound c → AllByRecursion IsAccepted c.classes
