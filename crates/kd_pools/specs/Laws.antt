-- What is true of the counts for every configuration, table and time.
use Rattle.std.specs.Prelude.{◌≡◌, ℕ, true, false, ◌↔◌, Some, None}
use Rattle.kd_config.specs.declared.subnet.Subnet.{Subnet}
use Rattle.kd_lease.specs.Choice.{Asking, Choice, client_reservation, has_such, pooled, reserved_anywhere}
use Rattle.kd_lease.specs.Client.{requested_address}
use Rattle.kd_rows.specs.Table.{belongs_to, row_at}
use Rattle.kd_pools.specs.Counts.{free_at}

-- a new client asks for an address that a pool has for it: it has no row, has no reservation in the
-- subnet, and asks for this address
pub record IsNewAsking (q : Asking) (s : Subnet) (a : ℕ) : Type 0 where
  pub pooled : pooled q.names s a ≡ true
  pub no_row : (b : ℕ) → has_such (belongs_to q.client) (row_at q.rows b) ≡ false
  pub no_reservation : client_reservation q.config q.names q.message s ≡ None
  pub asked : requested_address q.message ≡ Some a

-- the address is the choice for this client if and only if it counts as free
abbrev pub FreeIsOffered : Type 0
FreeIsOffered =
    (q : Asking) (s : Subnet) (a : ℕ) → IsNewAsking q s a
    → Choice q s a ↔ (free_at (reserved_anywhere q.config) q.rows q.now a ≡ true)
