-- Where reservations of clients are found: the first for each client, and for each reservation the
-- next for the same client.
use Rattle.std.specs.Prelude.{◌≡◌, ℕ, ◌+◌, List, [], ◌∷◌, Option, true}
use Rattle.std.specs.List.{position_from}
use Rattle.std.specs.Str.{bytes_eq}
use Rattle.indexmap.specs.IndexMap.{get_by}
use Rattle.kd_config.specs.Reservation.{is_client}
use Rattle.kd_config.specs.declared.clients.Clients.{Clients}
use Rattle.kd_config.specs.declared.reservation.Identity.{Identity}
use Rattle.kd_config.specs.declared.reservation.IdentityKind.{IdentityKind}
use Rattle.kd_config.specs.declared.reservation.IdentityKind.TheVariants as kinds
use Rattle.kd_config.specs.declared.reservation.Reservation.{Reservation}

-- the place of the first of these reservations for the client that has these bytes by a kind of
-- identity, if there is one; the first of the list is at place i
abbrev pub first_place : IdentityKind → List ℕ → ℕ → List Reservation → Option ℕ
first_place kind bytes i reservations =
    position_from (λ reservation. is_client kind bytes reservation.identity) i reservations

-- the place that a table has for that client
abbrev pub place_by : Clients → IdentityKind → List ℕ → Option ℕ
place_by table kinds.Hardware bytes = get_by (λ key. bytes_eq bytes key.items) table.hardware
place_by table kinds.Duid bytes = get_by (λ key. bytes_eq bytes key.items) table.duids
place_by table kinds.Circuit bytes = get_by (λ key. bytes_eq bytes key.items) table.circuits
place_by table kinds.ClientId bytes = get_by (λ key. bytes_eq bytes key.items) table.identifiers

-- a table has the place of the first reservation for each client
abbrev pub AreFirst : Clients → ℕ → List Reservation → Type 0
AreFirst table i reservations =
    (kind : IdentityKind) (bytes : List ℕ)
    → place_by table kind bytes ≡ first_place kind bytes i reservations

-- this is the place that a table has for a client
abbrev pub HasPlace : Clients → Identity → Option ℕ → Type 0
HasPlace table identity place =
    (kind : IdentityKind) (bytes : List ℕ) → is_client kind bytes identity ≡ true
    → place ≡ place_by table kind bytes

-- this is the place of the first of these reservations for a client
abbrev pub IsFirstPlace : Identity → ℕ → List Reservation → Option ℕ → Type 0
IsFirstPlace identity i reservations place =
    (kind : IdentityKind) (bytes : List ℕ) → is_client kind bytes identity ≡ true
    → place ≡ first_place kind bytes i reservations

-- for each reservation this is the place of the next one for its client
abbrev pub AreNext : ℕ → List Reservation → List (Option ℕ) → Type 0
AreNext i [] [] = Unit {0}
AreNext i (reservation ∷ reservations) (next ∷ places) =
    IsFirstPlace reservation.identity (i + 1) reservations next
    × AreNext (i + 1) reservations places
AreNext i reservations places = ⊥
