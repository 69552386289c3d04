-- Helpers of private contracts only: what the rules are applied to as the code represents it, and
-- what is searched among a client's addresses and in pools.
use Rattle.std.specs.Prelude.{◌≡◌, ℕ, ◌<◌, ◌≤◌, Bool, true, false, not, ◌&&◌, ◌||◌, ◌==◌, is_none, List, Option, Some, None, if◌then◌else◌}
use Rattle.std.specs.List.{list_any}
use Rattle.kd_config.specs.Address.{has_address}
use Rattle.kd_config.specs.Configuration.{Configuration}
use Rattle.kd_config.specs.declared.pool.Pool.{Pool}
use Rattle.kd_config.specs.declared.prefix.Prefix.{Prefix}
use Rattle.kd_config.specs.declared.subnet.Subnet.{Subnet}
use Rattle.kd_rows.specs.Table.{row_at}
use Rattle.kd_lease.specs.Choice.{Asking, Rank, fitting_for, has_such, live_row, pool_gives, pooled, reserved_anywhere, same_address, set_later, past_row, reserved_in}
use Rattle.kd_lease.specs.Choice.Rank.{fresh, expired}
use Rattle.kd_lease.specs.Rules.{client_has, held_at, offered_to}
use Rattle.kd_lease.specs.declared.candidates.Choosing.{Choosing}
use Rattle.kd_lease.specs.declared.search.Sought.{Sought}
use Rattle.kd_lease.specs.declared.search.Sought.TheVariants as seeks

-- the row of an address is the client's and has ended
abbrev pub past_at : Asking → ℕ → Bool
past_at q a = has_such (past_row q) (row_at q.rows a)

-- a pool of the subnet has an address for a client in the classes with these names, and it is not
-- reserved
abbrev pub common_in : Configuration → List (List ℕ) → Subnet → ℕ → Bool
common_in config names s a = pooled names s a && not (reserved_anywhere config a)

-- an address fits: as above, or it is the one that is reserved for the client
abbrev pub fitting_with : Choosing → ℕ → Bool
fitting_with choosing a =
    common_in choosing.question.now.config.now choosing.question.now.names.now choosing.subnet.now a
    || same_address choosing.own a

-- an address is sought
abbrev pub sought_at : Asking → Sought → ℕ → Bool
sought_at q (seeks.Own choosing) a = held_at q a && fitting_with choosing.now a
sought_at q (seeks.Past choosing) a = past_at q a && fitting_with choosing.now a
sought_at q seeks.Offer a = offered_to q a

-- the newer of the address found so far and another, if that one is sought
abbrev pub newer_of : Asking → Sought → Option ℕ → ℕ → Option ℕ
newer_of q sought None a = if sought_at q sought a then Some a else None
newer_of q sought (Some b) a =
    if sought_at q sought a && set_later q.rows a b then Some a else Some b

-- the rank that pools are searched for: addresses that have no row (`true`), or whose rows have
-- ended
abbrev pub pool_rank : Bool → Rank
pool_rank true = fresh
pool_rank false = expired

-- a subnet has an address in its prefix and a reservation of it
abbrev pub reserves : ℕ → Subnet → Bool
reserves a s = has_address s.prefix a && reserved_in a s

-- the client has a row at an address in a prefix
abbrev pub has_row_in : Asking → Prefix → Bool
has_row_in q prefix =
    list_any (λ row. client_has q row.address && has_address prefix row.address) q.rows

-- the client has a row in the prefix of a subnet, which is in the network with a number
abbrev pub has_row_of : Asking → ℕ → Subnet → Bool
has_row_of q number s = s.network == number && has_row_in q s.prefix

-- an address has no row (`true`), or a row that has ended (`false`)
abbrev pub untaken : Asking → Bool → ℕ → Bool
untaken q true a = is_none (row_at q.rows a)
untaken q false a = has_such (λ row. not (live_row q.now row)) (row_at q.rows a)

-- an address, if it is in a pool, has that rank
abbrev pub is_open : Asking → Subnet → Bool → ℕ → Bool
is_open q s new a = untaken q new a && fitting_for q s a

-- an address has that rank, is in a pool, and is not reserved
abbrev pub is_common_open : Asking → Subnet → Bool → ℕ → Bool
is_common_open q s new a = untaken q new a && common_in q.config q.names s a

-- an address is the one reserved for the client, and open
abbrev pub is_kept_open : Asking → Option ℕ → Bool → ℕ → Bool
is_kept_open q own new a = untaken q new a && same_address own a

-- the lowest address from first to last that passes a test, or none if none does
abbrev pub IsLeast : (ℕ → Bool) → ℕ → ℕ → Option ℕ → Type 0
IsLeast such first last None = (a : ℕ) → first ≤ a → a ≤ last → such a ≡ false
IsLeast such first last (Some found) =
    (first ≤ found) × (found ≤ last) × (such found ≡ true)
    × ((a : ℕ) → first ≤ a → a < found → such a ≡ false)

-- the lowest address from first to last that is open, or none if none is
abbrev pub IsLeastOpen : Asking → Subnet → Bool → ℕ → ℕ → Option ℕ → Type 0
IsLeastOpen q s new first last found = IsLeast (is_open q s new) first last found

-- the lowest open address that a pool has for the client, or none if it has none
abbrev pub IsLeastGiven : Asking → Subnet → Bool → Pool → Option ℕ → Type 0
IsLeastGiven q s new pool found =
    IsLeast (λ a. pool_gives q.names pool a && is_open q s new a) pool.range.first pool.range.last
    found

-- an address is untaken and not reserved
abbrev pub is_vacant : Asking → Bool → ℕ → Bool
is_vacant q new a = untaken q new a && not (reserved_anywhere q.config a)

-- an untaken address from first to last with no vacant one before it, or none if none is vacant
abbrev pub IsNextUntaken : Asking → Bool → ℕ → ℕ → Option ℕ → Type 0
IsNextUntaken q new first last None = (a : ℕ) → first ≤ a → a ≤ last → is_vacant q new a ≡ false
IsNextUntaken q new first last (Some found) =
    (first ≤ found) × (found ≤ last) × (untaken q new found ≡ true)
    × ((a : ℕ) → first ≤ a → a < found → is_vacant q new a ≡ false)
