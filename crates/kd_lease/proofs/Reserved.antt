-- A reserved address is in the prefix of its subnet, so only the subnets that contain the address
-- are searched; and whose a reservation is.
use Rattle.std.proofs.Common.{◌≡◌, ℕ, Bool, true, false, ◌&&◌, ◌||◌, ◌==◌, nat_eq, not, List, [], ◌∷◌, ◌++◌, refl, sym, ap, ◌∙◌, subst, Option, None, Some, if◌then◌else◌}
use Rattle.std.specs.List.{find, list_all, list_any}
use Rattle.std.specs.Option.{option_or}
use Rattle.std.specs.Str.{bytes_eq}
use Rattle.std.proofs.lemmas.Bool.{eqb-true, false≢true}
use Rattle.kd_config.specs.Address.{has_address}
use Rattle.kd_config.specs.Apart.{lie_apart}
use Rattle.kd_config.specs.Configuration.{Configuration}
use Rattle.kd_config.specs.Booted.{has_reservations, is_some_reserved}
use Rattle.kd_config.specs.Reservation.{has_reserved, identified_by, is_client_if, listed, same_address}
use Rattle.kd_config.specs.Rules.{all_obey, pool_ranges, is_new, lies_within, may_all_reserve, may_have, may_reserve, may_stand, obeys, reserved}
use Rattle.kd_config.specs.Sound.{IsSound}
use Rattle.kd_config.specs.declared.prefix.Prefix.{Prefix}
use Rattle.kd_config.specs.declared.reservation.Identity.{Identity}
use Rattle.kd_config.specs.declared.reservation.Identity.TheVariants as clients
use Rattle.kd_config.specs.declared.reservation.IdentityKind.{IdentityKind}
use Rattle.kd_config.specs.declared.reservation.IdentityKind.TheVariants as kinds
use Rattle.kd_config.specs.declared.reservation.Reservation.{Reservation}
use Rattle.kd_config.specs.declared.subnet.Subnet.{Subnet}
use Rattle.kd_options.specs.Joined.{value_of}
use Rattle.kd_options.specs.Message.{Seen, mac_of}
use Rattle.kd_lease.specs.Choice.{is_from, ordered_reservation, reserved_anywhere, reserved_in, client_reservation, same_value}
use Rattle.kd_lease.specs.Kept.{renews_alone, reservation_at, unseen_reservation}
use Rattle.kd_lease.specs.Seeking.{reserves}

left : (t u : Bool) → (t && u) ≡ true → t ≡ true
left true u h = refl
left false u h = h

right : (t u : Bool) → (t && u) ≡ true → u ≡ true
right true u h = h
right false u h = absurd (false≢true h)

-- a reserved address is in the prefix
within : (prefix : Prefix) (earlier : List ℕ) (clients : List Identity) (rs : List Reservation) (a : ℕ)
    → may_all_reserve prefix earlier clients rs ≡ true → list_any (has_reserved a) rs ≡ true → has_address prefix a ≡ true
within prefix earlier clients [] a may has = absurd (false≢true has)
within prefix earlier clients (r ∷ rs) a may has = by r.address refl has (within prefix (earlier ++ listed r.address) (clients ++ r.identity ∷ []) rs a rest) where
  more : Bool
  more = may_all_reserve prefix (earlier ++ listed r.address) (clients ++ r.identity ∷ []) rs

  here : may_have prefix earlier r.address ≡ true
  here = left (may_reserve prefix earlier r) (is_new clients r.identity && more) may

  rest : may_all_reserve prefix (earlier ++ listed r.address) (clients ++ r.identity ∷ []) rs ≡ true
  rest = right (is_new clients r.identity) more (right (may_reserve prefix earlier r) (is_new clients r.identity && more) may)

  by : (o : Option ℕ) → r.address ≡ o → (same_address o a || list_any (has_reserved a) rs) ≡ true
      → (list_any (has_reserved a) rs ≡ true → has_address prefix a ≡ true) → has_address prefix a ≡ true
  by None e h later = later h
  by (Some b) e h later = this (b == a) refl h where
    this : (t : Bool) → (b == a) ≡ t → (t || list_any (has_reserved a) rs) ≡ true → has_address prefix a ≡ true
    this true f g =
        subst (λ (n : ℕ). has_address prefix n ≡ true) (eqb-true b a f)
        (left (has_address prefix b) (not (list_any (nat_eq b) earlier)) (subst (λ (p : Option ℕ). may_have prefix earlier p ≡ true) e here))
    this false f g = later g

in_subnet : (earlier : List ℕ) (s : Subnet) (a : ℕ) → obeys earlier s ≡ true → reserved_in a s ≡ true → has_address s.prefix a ≡ true
unfolding obeys
in_subnet earlier s a h has = within s.prefix earlier [] s.reservations a (right (list_all (lies_within s.prefix) s.pools) (may_all_reserve s.prefix earlier [] s.reservations) h) has

-- a subnet that has a reservation of an address also has the address in its prefix
same_keeps : (earlier : List ℕ) (s : Subnet) (a : ℕ) → obeys earlier s ≡ true → reserved_in a s ≡ reserves a s
same_keeps earlier s a h = by (has_address s.prefix a) (reserved_in a s) refl refl where
  by : (t u : Bool) → has_address s.prefix a ≡ t → reserved_in a s ≡ u → u ≡ (t && u)
  by true u e f = refl
  by false true e f = absurd (false≢true (sym e ∙ in_subnet earlier s a h f))
  by false false e f = refl

each_keeps : (earlier : List ℕ) (subnets : List Subnet) (a : ℕ) → all_obey earlier subnets ≡ true → list_any (reserved_in a) subnets ≡ list_any (reserves a) subnets
each_keeps earlier [] a h = refl
each_keeps earlier (s ∷ subnets) a h =
    let first = left (obeys earlier s) (all_obey (earlier ++ reserved s.reservations) subnets) h in
    let rest = right (obeys earlier s) (all_obey (earlier ++ reserved s.reservations) subnets) h in
    ap (λ b. b || list_any (reserved_in a) subnets) (same_keeps earlier s a first)
    ∙ ap (λ b. reserves a s || b) (each_keeps (earlier ++ reserved s.reservations) subnets a rest)

stands : (subnets : List Subnet) → may_stand subnets ≡ true → all_obey [] subnets ≡ true
unfolding may_stand
stands subnets h = right (lie_apart (pool_ranges subnets)) (all_obey [] subnets) h

-- an address is reserved if and only if a subnet that has it in its prefix has a reservation of it
pub reserved_where : (config : Configuration) (a : ℕ) → IsSound config → reserved_anywhere config a ≡ list_any (reserves a) config.subnets
reserved_where config a sound = each_keeps [] config.subnets a (stands config.subnets sound.subnets.together)

only_hardware : (t : Bool) (own : List ℕ) (id : Option (List ℕ)) → t ≡ (t || is_client_if kinds.ClientId id (clients.Hardware own))
only_hardware true own id = refl
only_hardware false own None = refl
only_hardware false own (Some bytes) = refl

same_id : (own : List ℕ) (id : Option (List ℕ)) → same_value own id ≡ is_client_if kinds.ClientId id (clients.ClientId own)
same_id own None = refl
same_id own (Some bytes) = refl

no_duid : (own : List ℕ) (id : Option (List ℕ)) → false ≡ is_client_if kinds.ClientId id (clients.Duid own)
no_duid own None = refl
no_duid own (Some bytes) = refl

no_circuit : (own : List ℕ) (id : Option (List ℕ)) → false ≡ is_client_if kinds.ClientId id (clients.Circuit own)
no_circuit own None = refl
no_circuit own (Some bytes) = refl

from_by : (m : Seen) (identity : Identity) → is_from m identity ≡ identified_by (mac_of m.header) (value_of 61 m.options) identity
from_by m (clients.Hardware own) = only_hardware (bytes_eq (mac_of m.header) own) own (value_of 61 m.options)
from_by m (clients.Duid own) = no_duid own (value_of 61 m.options)
from_by m (clients.Circuit own) = no_circuit own (value_of 61 m.options)
from_by m (clients.ClientId own) = same_id own (value_of 61 m.options)

find_by : (m : Seen) (rs : List Reservation) → find (λ r. is_from m r.identity) rs ≡ find (λ r. identified_by (mac_of m.header) (value_of 61 m.options) r.identity) rs
find_by m [] = refl
find_by m (r ∷ rs) =
    ap (λ (b : Bool). if b then Some r else find (λ r. is_from m r.identity) rs) (from_by m r.identity)
    ∙ ap (λ (o : Option Reservation). if identified_by (mac_of m.header) (value_of 61 m.options) r.identity then Some r else o) (find_by m rs)

-- whose a reservation is, is decided by the hardware address and the identifier of the client
pub reservation_listed : (m : Seen) (s : Subnet) → find (λ r. is_from m r.identity) s.reservations ≡ find (λ r. identified_by (mac_of m.header) (value_of 61 m.options) r.identity) s.reservations
reservation_listed m s = find_by m s.reservations

or_nothing : (o : Option Reservation) → option_or o None ≡ o
or_nothing None = refl
or_nothing (Some r) = refl

-- where kinds of identities have no order and no lease is kept, it is the first of the subnet
pub by_list : (config : Configuration) (names : List (List ℕ)) (m : Seen) (s : Subnet) (a : ℕ) → config.extensions.identity_order ≡ [] → config.extensions.keeps_leases ≡ false
    → reservation_at config names m s a ≡ find (λ r. is_from m r.identity) s.reservations
by_list config names m s a plain none =
    ap (λ (b : Bool). option_or (client_reservation config names m s) (if b && renews_alone m a then unseen_reservation m s a else None)) none
    ∙ or_nothing (client_reservation config names m s)
    ∙ ap (λ (kinds : List IdentityKind). ordered_reservation kinds names m s) plain

none_in : (rs : List Reservation) (a : ℕ) → is_some_reserved rs ≡ false → list_any (has_reserved a) rs ≡ false
none_in [] a none = refl
none_in (r ∷ rs) a none = absurd (false≢true (sym none))

none_among : (subnets : List Subnet) (a : ℕ) → list_any has_reservations subnets ≡ false → list_any (reserved_in a) subnets ≡ false
none_among [] a none = refl
none_among (s ∷ subnets) a none = by (is_some_reserved s.reservations) refl none (none_among subnets a) where
  by : (b : Bool) → is_some_reserved s.reservations ≡ b → (b || list_any has_reservations subnets) ≡ false
      → (list_any has_reservations subnets ≡ false → list_any (reserved_in a) subnets ≡ false) → (reserved_in a s || list_any (reserved_in a) subnets) ≡ false
  by true e h rest = absurd (false≢true (sym h))
  by false e h rest = ap (λ b. b || list_any (reserved_in a) subnets) (none_in s.reservations a e) ∙ rest h

-- where no subnet has a reservation, no address is reserved
pub none_reserves : (config : Configuration) (a : ℕ) → list_any has_reservations config.subnets ≡ false → reserved_anywhere config a ≡ false
none_reserves config a none = none_among config.subnets a none
