-- Withheld addresses, and the rows at other addresses; used only in private contracts and
-- invariants.
use Rattle.std.specs.Prelude.{◌≡◌, ℕ, ◌<◌, ◌≤◌, min, true, false, not, ◌&&◌, List, [], map, length, is_some, slice_index_or}
use Rattle.std.specs.List.{filter}
use Rattle.kd_rows.specs.declared.row.Row.{Row}
use Rattle.kd_rows.specs.declared.row.State.TheVariants.{Offered}
use Rattle.kd_rows.specs.Index.{Bounds, IsBounded}
use Rattle.kd_rows.specs.Table.{Rise, Table, row_at}
use Rattle.kd_rows.specs.Withheld.{is_taken, is_withheld}

-- an address as a row whose other fields mean nothing
abbrev pub address_row : ℕ → Row
address_row a = record { address = a; client = []; state = Offered; changed = 0; ends = 0 }

-- addresses as rows
abbrev pub address_rows : List ℕ → List Row
address_rows addresses = map address_row addresses

-- the rows at addresses that are not withheld
abbrev pub open_rows : List ℕ → List Row → List Row
open_rows withheld rows = filter (λ row. not (is_withheld withheld row.address)) rows

-- the rows are in ascending order of address, and so are the withheld addresses
pub record AreOpen (rows : List Row) (withheld : List ℕ) : Type 0 where
  pub rise : Rise rows
  pub listed : Rise (address_rows withheld)

-- no address both has a row and is withheld
abbrev pub AreApart : List Row → List ℕ → Type 0
AreApart rows withheld = (a : ℕ) → is_withheld withheld a ≡ true → is_some (row_at rows a) ≡ false

-- every address from first to last has a row or is withheld
abbrev pub AreTaken : List Row → List ℕ → ℕ → ℕ → Type 0
AreTaken rows withheld first last =
    (a : ℕ) → first ≤ a → a ≤ last → is_taken rows withheld a ≡ true

-- for each row from the index of first to this one, every address from first to the row's is taken;
-- for each later row, some address from first to the row's is not taken
pub record IsTakenEnd (rows : List Row) (withheld : List ℕ) (first start end : ℕ) : Type 0 where
  pub from_start : start ≤ end
  pub in_range : end ≤ length rows
  pub taken : (i : ℕ) (d : Row) → start ≤ i → i < end
      → AreTaken rows withheld first (slice_index_or rows i d).address
  pub ends : (i : ℕ) (d : Row) → end ≤ i → i < length rows
      → AreTaken rows withheld first (slice_index_or rows i d).address → ⊥

-- bare addresses are the withheld addresses that have no row
abbrev pub AreBare : List Row → List ℕ → List ℕ → Type 0
AreBare rows withheld bare =
    (a : ℕ) → is_withheld bare a ≡ (not (is_some (row_at rows a)) && is_withheld withheld a)

-- what is true of the fields of a table with withheld addresses
pub record IsWithheldKept (table : Table) (withheld left : List ℕ) (bounds : Bounds) (room : ℕ)
    : Type 0 where
  pub listed : Rise (address_rows withheld)
  pub rise : Rise (address_rows left)
  pub bare : AreBare table.rows withheld left
  pub bounded : IsBounded (open_rows withheld table.rows) bounds.rows
  pub enough : room ≤ min table.room bounds.room
