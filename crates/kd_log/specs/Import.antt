-- Lines of leases, read back: which line is which lease, and which table a text of such lines
-- describes.
use Rattle.std.specs.Prelude.{◌≡◌, ℕ, ◌+◌, ◌^◌, ◌<◌, List, [], ◌∷◌, ◌++◌, map, length, nat_eq, Contains, ◌⊎◌}
use Rattle.std.specs.List.{AllZip, IsDistinct}
use Rattle.hex.specs.Hex.{IsBytes}
use Rattle.kd_listing.specs.Leases.{lease_line}
use Rattle.kd_listing.specs.declared.leases.Lease.{Lease}
use Rattle.kd_loops.specs.Lines.{lines_of}
use Rattle.kd_rows.specs.Row.{IsInRange}
use Rattle.kd_rows.specs.Table.{with_rows}
use Rattle.kd_rows.specs.declared.row.Row.{Row}
use Rattle.kd_log.specs.declared.leases.fault.ImportFault.{ImportFault}
use Rattle.kd_log.specs.declared.leases.fault.ImportFault.TheVariants as faults

-- a row can be stored: its times are in range, its address is below 2 ^ 32, and the identity of its
-- client is bytes
pub record IsStorable (row : Row) : Type 0 where
  pub range : IsInRange row
  pub address : row.address < 2 ^ 32
  pub client : IsBytes row.client

-- a line, without its line feed, is what is printed for a lease whose row can be stored; whether
-- the lease is live is not a part of its row
pub record IsLeaseLine (line : List ℕ) (lease : Lease) : Type 0 where
  pub printed : lease_line lease ≡ line ++ 10 ∷ []
  pub storable : IsStorable lease.row

-- the addresses of leases
abbrev pub lease_addresses : List Lease → List ℕ
lease_addresses leases = map (λ lease. lease.row.address) leases

-- each line is that of the lease at its place, and no two leases have the same address
pub record AreLeaseLines (lines : List (List ℕ)) (leases : List Lease) : Type 0 where
  pub each : AllZip IsLeaseLine lines leases
  pub apart : IsDistinct nat_eq (lease_addresses leases)

-- a text describes a table: its lines are those of leases, and setting the rows of the leases one
-- after another gives the table, whatever the order of the lines
pub record IsTable (text : List ℕ) (rows : List Row) : Type 0 where
  pub leases : List Lease
  pub lines : AreLeaseLines (lines_of text) leases
  pub set : rows ≡ with_rows (map (λ lease. lease.row) leases) []

-- a line is not that of a lease
abbrev pub IsNoLeaseLine : List ℕ → Type 0
IsNoLeaseLine line = (lease : Lease) → ¬ IsLeaseLine line lease

-- a line is that of a lease whose address is among those of other leases
abbrev pub IsRepeated : List Lease → List ℕ → Type 0
IsRepeated leases line =
    (lease : Lease) × IsLeaseLine line lease × Contains (lease_addresses leases) lease.row.address

-- the line with this number, counted from 1, is bad: the lines before it are those of leases with
-- distinct addresses, and it is not that of a lease, or its address is in one of them
pub record IsBadLine (text : List ℕ) (n : ℕ) : Type 0 where
  pub before : List (List ℕ)
  pub line : List ℕ
  pub after : List (List ℕ)
  pub leases : List Lease
  pub whole : lines_of text ≡ before ++ line ∷ after
  pub number : n ≡ length before + 1
  pub lines : AreLeaseLines before leases
  pub bad : IsNoLeaseLine line ⊎ IsRepeated leases line

-- why a text is refused: a line is bad, or memory ran out
abbrev pub IsImportFault : List ℕ → ImportFault → Type 0
IsImportFault text (faults.BadLine n) = IsBadLine text n
IsImportFault text faults.Memory = Unit {0}

-- the number of a fault
abbrev pub import_fault_number : ImportFault → ℕ
import_fault_number (faults.BadLine n) = 97
import_fault_number faults.Memory = 91
