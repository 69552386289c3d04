-- Heads of clients, which a search reads before the rows; used only in private contracts and
-- invariants.
use Rattle.std.specs.Prelude.{◌≡◌, ℕ, ◌+◌, ◌*◌, ◌^◌, ◌<◌, zero, suc, List, [], ◌∷◌, Some, map, slice_index}
use Rattle.std.specs.List.{All}
use Rattle.kd_rows.specs.Table.{row_at}
use Rattle.kd_rows.specs.declared.row.Row.{Row}

-- the first n bytes as one number, highest byte first, filled up with zeros if there are fewer
abbrev pub front_number : ℕ → List ℕ → ℕ
front_number zero bytes = 0
front_number (suc n) [] = 0
front_number (suc n) (byte ∷ bytes) = byte * 256 ^ n + front_number n bytes

-- every number of a list is a byte
abbrev pub IsByteList : List ℕ → Type 0
IsByteList client = (i : ℕ) → slice_index client i < 256

-- a number is the head of a client: its first 8 bytes
pub record IsHead (client : List ℕ) (head : ℕ) : Type 0 where
  pub bytes : IsByteList client
  pub value : head ≡ front_number 8 client

-- a number is the head of the client whose row is at an address
pub record IsHeadAt (rows : List Row) (a head : ℕ) : Type 0 where
  pub row : Row
  pub found : row_at rows a ≡ Some row
  pub head_of_row : IsHead row.client head

-- numbers are the heads of the clients of rows
pub record AreHeads (rows : List Row) (heads : List ℕ) : Type 0 where
  pub bytes : All (λ row. IsByteList row.client) rows
  pub value : heads ≡ map (λ row. front_number 8 row.client) rows

-- the addresses of rows, in their order
abbrev pub row_addresses : List Row → List ℕ
row_addresses rows = map (λ row. row.address) rows
