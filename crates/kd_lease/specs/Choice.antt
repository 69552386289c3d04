-- The address that a client is offered (RFC 2131 section 4.3.1): which addresses it may have, the
-- rank of each of them, and which comes first. Reservations are those of the Kea Administrator
-- Reference Manual, section Host Reservations in DHCPv4, with the order of kinds of identities in its
-- section Fine Tuning DHCPv4 Host Reservation; the order of pools and the use of option 50 are those
-- of RFC 2131.
use Rattle.std.specs.Prelude.{◌≡◌, ℕ, ◌+◌, ◌≤◌, Bool, true, false, not, ◌&&◌, ◌||◌, ◌==◌, nat_lt, is_none, List, [], ◌∷◌, Option, Some, None, option_and_then, if◌then◌else◌}
use Rattle.std.specs.List.{find, list_any}
use Rattle.std.specs.Option.{option_or}
use Rattle.std.specs.Str.{bytes_eq}
use Rattle.kd_config.specs.Apart.{has}
use Rattle.kd_config.specs.Configuration.{Configuration}
pub use Rattle.kd_config.specs.Reservation.{same_address}
use Rattle.kd_config.specs.Reservation.{has_reserved, is_client_if}
use Rattle.kd_config.specs.declared.pool.Pool.{Pool}
use Rattle.kd_config.specs.declared.reservation.Identity.{Identity}
use Rattle.kd_config.specs.declared.reservation.Identity.TheVariants as clients
use Rattle.kd_config.specs.declared.reservation.IdentityKind.{IdentityKind}
use Rattle.kd_config.specs.declared.reservation.Reservation.{Reservation}
use Rattle.kd_config.specs.declared.subnet.Subnet.{Subnet}
use Rattle.kd_lease.specs.Client.{client_bytes, requested_address}
use Rattle.kd_config.specs.Classed.{classes_admit}
use Rattle.kd_options.specs.Joined.{value_of}
use Rattle.kd_options.specs.Message.{Seen, mac_of}
use Rattle.kd_rows.specs.Table.{belongs_to, row_at}
use Rattle.kd_rows.specs.declared.row.Row.{Row}
use Rattle.kd_rows.specs.declared.row.State.{State}
use Rattle.kd_rows.specs.declared.row.State.TheVariants.{Offered, Bound, Released, Declined}

-- what the rules are applied to: a configuration, the rows of leases, the names of the held
-- classes, the message, its client's identity, and the time
pub record Asking : Type 0 where
  pub config : Configuration
  pub rows : List Row
  pub names : List (List ℕ)
  pub message : Seen
  pub client : List ℕ
  pub now : ℕ

-- there is a value, and it is these bytes
abbrev pub same_value : List ℕ → Option (List ℕ) → Bool
same_value bytes None = false
same_value bytes (Some value) = bytes_eq value bytes

-- a message comes from this client: by its hardware address, or by its option 61
abbrev pub is_from : Seen → Identity → Bool
is_from m (clients.Hardware bytes) = bytes_eq (mac_of m.header) bytes
is_from m (clients.ClientId bytes) = same_value bytes (value_of 61 m.options)
is_from m other = false

-- a reservation counts for the client of a message, which is in the classes with these names: it is
-- for the client by this kind of identity, and each class that it requires is held
abbrev pub counts_by : List (List ℕ) → Seen → IdentityKind → Reservation → Bool
counts_by names m kind reservation =
    is_client_if kind (client_bytes m kind) reservation.identity
    && classes_admit reservation.classes names

-- the first reservation of a subnet that counts for the client by this kind of identity
abbrev pub reservation_by : List (List ℕ) → Seen → Subnet → IdentityKind → Option Reservation
reservation_by names m s kind = find (counts_by names m kind) s.reservations

-- the reservation by the first of these kinds of identity that has one
abbrev pub ranked_reservation : List IdentityKind → List (List ℕ) → Seen → Subnet → Option Reservation
ranked_reservation [] names m s = None
ranked_reservation (kind ∷ kinds) names m s =
    option_or (reservation_by names m s kind) (ranked_reservation kinds names m s)

-- the same by an order of the kinds; without one, the first of the subnet that is for the client
abbrev pub ordered_reservation : List IdentityKind → List (List ℕ) → Seen → Subnet → Option Reservation
ordered_reservation [] names m s =
    find (λ reservation. is_from m reservation.identity) s.reservations
ordered_reservation (kind ∷ kinds) names m s = ranked_reservation (kind ∷ kinds) names m s

-- the reservation for a message whose classes have these names
abbrev pub client_reservation : Configuration → List (List ℕ) → Seen → Subnet → Option Reservation
client_reservation config names m s = ordered_reservation config.extensions.identity_order names m s

-- the address that is reserved for the client of a message
abbrev pub address_reserved : Configuration → List (List ℕ) → Seen → Subnet → Option ℕ
address_reserved config names m s =
    option_and_then (λ reservation. reservation.address) (client_reservation config names m s)

-- a subnet has a reservation of this address
abbrev pub reserved_in : ℕ → Subnet → Bool
reserved_in a s = list_any (has_reserved a) s.reservations

-- a subnet of the configuration has a reservation of this address
abbrev pub reserved_anywhere : Configuration → ℕ → Bool
reserved_anywhere config a = list_any (reserved_in a) config.subnets

-- a pool has an address for a client in the classes with these names
abbrev pub pool_gives : List (List ℕ) → Pool → ℕ → Bool
pool_gives names pool a = classes_admit pool.classes names && has pool.range a

-- a pool of the subnet has this address for such a client
abbrev pub pooled : List (List ℕ) → Subnet → ℕ → Bool
pooled names s a = list_any (λ pool. pool_gives names pool a) s.pools

-- a pool of the subnet contains this address, whoever may have it
abbrev pub contained : Subnet → ℕ → Bool
contained s a = list_any (λ pool. has pool.range a) s.pools

-- an address fits: a pool of the subnet has it for the client and it is not reserved, or it is
-- reserved for the client
abbrev pub fitting_for : Asking → Subnet → ℕ → Bool
fitting_for q s a =
    (pooled q.names s a && not (reserved_anywhere q.config a))
    || same_address (address_reserved q.config q.names q.message s) a

-- there is a row, and it passes the test
abbrev pub has_such : (Row → Bool) → Option Row → Bool
has_such such None = false
has_such such (Some row) = such row

-- a row has not ended yet
abbrev pub live_row : ℕ → Row → Bool
live_row now row = nat_lt now row.ends

-- a state in which a client holds an address
abbrev pub holding_state : State → Bool
holding_state Offered = true
holding_state Bound = true
holding_state Released = false
holding_state Declined = false

-- the client's own row, offered or bound
abbrev pub own_row : Asking → Row → Bool
own_row q row = belongs_to q.client row && holding_state row.state

-- a row that the client holds: its own, not ended, offered or bound
abbrev pub held_row : Asking → Row → Bool
held_row q row = live_row q.now row && own_row q row

-- the client's own row, which has ended
abbrev pub past_row : Asking → Row → Bool
past_row q row = not (live_row q.now row) && belongs_to q.client row

-- a row leaves its address free for the client: it has ended, or it is the client's own and offered
-- or bound
abbrev pub freed_by : Asking → Row → Bool
freed_by q row = not (live_row q.now row) || own_row q row

-- an address is free for the client: it has no row, or a row that leaves it free
abbrev pub free_for : Asking → ℕ → Bool
free_for q a = is_none (row_at q.rows a) || has_such (freed_by q) (row_at q.rows a)

-- the client may be assigned an address: it fits and is free
abbrev pub usable : Asking → Subnet → ℕ → Bool
usable q s a = fitting_for q s a && free_for q a

-- the ranks of addresses, the strongest first: reserved for the client, the client's own, formerly
-- the client's, asked for by the client, without a row, with a row that has ended
pub data Rank : Type 0 where
  reserved : Rank
  own : Rank
  past : Rank
  asked : Rank
  fresh : Rank
  expired : Rank

-- the position of each rank
abbrev pub place : Rank → ℕ
place reserved = 1
place own = 2
place past = 3
place asked = 4
place fresh = 5
place expired = 6

-- an address has a rank
abbrev pub has_rank : Asking → Subnet → Rank → ℕ → Bool
has_rank q s reserved a = same_address (address_reserved q.config q.names q.message s) a && free_for q a
has_rank q s own a = has_such (held_row q) (row_at q.rows a) && fitting_for q s a
has_rank q s past a = has_such (past_row q) (row_at q.rows a) && fitting_for q s a
has_rank q s asked a = same_address (requested_address q.message) a && usable q s a
has_rank q s fresh a = pooled q.names s a && (is_none (row_at q.rows a) && fitting_for q s a)
has_rank q s expired a =
    pooled q.names s a && (has_such (λ row. not (live_row q.now row)) (row_at q.rows a)
    && fitting_for q s a)

-- the time at which a row was set, 0 if there is none
abbrev pub changed_in : Option Row → ℕ
changed_in None = 0
changed_in (Some row) = row.changed

-- the first of two addresses is newer: its row was set later, or at the same time and it is the
-- lesser address
abbrev pub set_later : List Row → ℕ → ℕ → Bool
set_later rows a b =
    let m = changed_in (row_at rows a) in
    let n = changed_in (row_at rows b) in
    nat_lt n m || (m == n && nat_lt a b)

-- the index of the first pool that has an address for a client in the classes with these names
abbrev pub pool_place : List (List ℕ) → List Pool → ℕ → ℕ
pool_place names [] a = 0
pool_place names (pool ∷ pools) a =
    if pool_gives names pool a then 0 else pool_place names pools a + 1

-- the first of two addresses is earlier: in an earlier pool, or in the same pool and it is the
-- lesser address
abbrev pub is_earlier : List (List ℕ) → List Pool → ℕ → ℕ → Bool
is_earlier names pools a b =
    let m = pool_place names pools a in
    let n = pool_place names pools b in
    nat_lt m n || (m == n && nat_lt a b)

-- the first of two addresses of a rank comes before the other
abbrev pub is_before : Asking → Subnet → Rank → ℕ → ℕ → Bool
is_before q s reserved a b = false
is_before q s own a b = set_later q.rows a b
is_before q s past a b = set_later q.rows a b
is_before q s asked a b = false
is_before q s fresh a b = is_earlier q.names s.pools a b
is_before q s expired a b = is_earlier q.names s.pools a b

-- an address is the first of a rank: it has the rank, and no other that has it comes before
pub record IsFirstOf (q : Asking) (s : Subnet) (rank : Rank) (a : ℕ) : Type 0 where
  pub ranked : has_rank q s rank a ≡ true
  pub first : (b : ℕ) → has_rank q s rank b ≡ true → is_before q s rank b a ≡ false

-- the address for the client: the first of its rank, and no address has a stronger rank
pub record Choice (q : Asking) (s : Subnet) (a : ℕ) : Type 0 where
  pub rank : Rank
  pub first : IsFirstOf q s rank a
  pub least : (other : Rank) (b : ℕ) → has_rank q s other b ≡ true → place rank ≤ place other

-- no address has a rank
abbrev pub NoChoice : Asking → Subnet → Type 0
NoChoice q s = (rank : Rank) (a : ℕ) → has_rank q s rank a ≡ false
