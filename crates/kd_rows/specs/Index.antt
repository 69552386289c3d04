-- The indexes of the table, positions in them and among the rows, and slots; used only in private
-- contracts and invariants.
use Rattle.std.specs.Prelude.{◌≡◌, ℕ, ◌-◌, ◌<◌, ◌≤◌, ◌^◌, suc, Bool, false, ◌||◌, List, [], ◌∷◌, length, Option, Some, None, is_some, slice_index, slice_index_or, ◌==◌, map, nat_lt, ◌/◌, IsSome, option_map}
use Rattle.std.specs.List.{All, insert, range_with_len, remove}
use Rattle.std.specs.Cmp.Lexicographic.{slice_cmp}
use Rattle.std.specs.Ordering.{nat_cmp, ordering_then}
use Rattle.std.specs.declared.cmp.Ordering.{Ordering}
use Rattle.std.specs.declared.cmp.Ordering.TheVariants.{Less}
use Rattle.kd_rows.specs.declared.blocks.Bound.{Bound}
use Rattle.kd_rows.specs.declared.full.Run.{Run}
use Rattle.kd_rows.specs.declared.holds.Holds.{Holds}
use Rattle.kd_rows.specs.declared.row.Row.{Row}
use Rattle.kd_rows.specs.declared.row.State.TheVariants.{Offered}
use Rattle.kd_rows.specs.Full.{AreFull}
use Rattle.kd_rows.specs.Heads.{AreHeads, row_addresses}
use Rattle.kd_rows.specs.Holds.{AreHolds}
use Rattle.kd_rows.specs.Row.{IsInRange}
use Rattle.kd_rows.specs.Table.{Rise, row_at, latest_of}
use Rattle.kd_rows.specs.Zones.{group_in}

-- what a row is ordered by before its address, or nothing if there is no row
abbrev pub order_in : (Row → List ℕ) → Option Row → List ℕ
order_in of None = []
order_in of (Some row) = of row

-- the client of a row
abbrev pub client_of : Row → List ℕ
client_of row = row.client

-- the client of a row, or no bytes if there is no row
abbrev pub client_in : Option Row → List ℕ
client_in row = order_in client_of row

-- the client whose row is at an address, or no bytes if the address has no row
abbrev pub client_at : List Row → ℕ → List ℕ
client_at rows a = client_in (row_at rows a)

-- by client, then by address
abbrev pub key_order : List ℕ × ℕ → List ℕ × ℕ → Ordering
key_order k l = ordering_then (slice_cmp nat_cmp k.0 l.0) (nat_cmp k.1 l.1)

-- a client, a group and an age as one list of numbers, in which an end comes before every byte
abbrev pub age_key : List ℕ → ℕ → ℕ → List ℕ
age_key [] group age = 0 ∷ group ∷ age ∷ []
age_key (byte ∷ client) group age = suc byte ∷ age_key client group age

-- what a row is ordered by in the age order: its client, its group (its state and the zone of its
-- address) and how early it was set
abbrev pub age_of : List ℕ → Row → List ℕ
age_of cuts row = age_key row.client (group_in cuts row) (2 ^ 64 - 1 - row.changed)

-- a key comes before another
abbrev pub IsKeyBelow : List ℕ × ℕ → List ℕ × ℕ → Type 0
IsKeyBelow k l = key_order k l ≡ Less

-- what an address in an index is ordered by
abbrev pub key_by : (Row → List ℕ) → List Row → ℕ → List ℕ × ℕ
key_by of rows a = (order_in of (row_at rows a), a)

-- the same for the client index
abbrev pub key_at : List Row → ℕ → List ℕ × ℕ
key_at rows = key_by client_of rows

-- the same for the age index
abbrev pub age_at : List ℕ → List Row → ℕ → List ℕ × ℕ
age_at cuts rows = key_by (age_of cuts) rows

-- the addresses are in the order of their keys
abbrev pub Rises : (ℕ → List ℕ × ℕ) → List ℕ → Type 0
Rises key index =
    (i j : ℕ) → i < j → j < length index
    → IsKeyBelow (key (slice_index index i)) (key (slice_index index j))

-- a list contains an address
abbrev pub lists : List ℕ → ℕ → Bool
lists [] a = false
lists (x ∷ xs) a = (x == a) || lists xs a

-- an index has exactly the addresses of the rows, in the order of their keys
pub record IsIndex (of : Row → List ℕ) (rows : List Row) (index : List ℕ) : Type 0 where
  pub same : (a : ℕ) → lists index a ≡ is_some (row_at rows a)
  pub rising : Rises (key_by of rows) index

-- the row with a number, or a default row past the last
abbrev pub row_in : List Row → ℕ → Row
row_in slots n =
    slice_index_or slots n
    (record { address = 0; client = []; state = Offered; changed = 0; ends = 0 })

-- the rows with these numbers
abbrev pub rows_in : List Row → List ℕ → List Row
rows_in slots numbers = map (row_in slots) numbers

-- the addresses of the rows with these numbers
abbrev pub addresses_in : List Row → List ℕ → List ℕ
addresses_in slots numbers = map (λ n. (row_in slots n).address) numbers

-- each slot's number is one of them, and the rows with the numbers are in ascending order of
-- address
pub record IsByAddress (slots : List Row) (numbers : List ℕ) : Type 0 where
  pub count : length numbers ≡ length slots
  pub same : (n : ℕ) → lists numbers n ≡ nat_lt n (length slots)
  pub within : All (λ n. n < length slots) numbers
  pub rise : Rise (rows_in slots numbers)
  pub bounded : All (λ row. row.address < 2 ^ 32) (rows_in slots numbers)

-- what is true of slots, the addresses and heads of their rows, and the lists of slot numbers in
-- the three orders
pub record IsStored (slots : List Row) (addresses heads by_address by_client by_age : List ℕ)
    : Type 0 where
  pub addressed : addresses ≡ row_addresses slots
  pub headed : AreHeads slots heads
  pub sorted : IsByAddress slots by_address
  pub within : All (λ n. n < length slots) by_client
  pub aged : All (λ n. n < length slots) by_age

-- rows in ascending order of address, their addresses ordered by client and address and by age, the
-- cuts between zones, and the number of further rows for which there is room
pub record Ordered : Type 0 where
  pub rows : List Row
  pub index : List ℕ
  pub ages : List ℕ
  pub cuts : List ℕ
  pub room : ℕ

-- what a slot number is ordered by
abbrev pub key_in : (Row → List ℕ) → List Row → ℕ → List ℕ × ℕ
key_in of slots n = (of (row_in slots n), (row_in slots n).address)

-- the slot numbers, in the order of their keys
pub record IsByKey (of : Row → List ℕ) (slots : List Row) (numbers : List ℕ) : Type 0 where
  pub same : (n : ℕ) → lists numbers n ≡ nat_lt n (length slots)
  pub rising : Rises (key_in of slots) numbers

-- keys with their numbers: the first `count` numbers, each with the key of its slot
pub record AreKeys {X : Type 0} (key : X → List ℕ × ℕ) (number : X → ℕ) (of : Row → List ℕ)
    (slots : List Row) (count : ℕ) (keys : List X) : Type 0 where
  pub numbers : map number keys ≡ range_with_len 0 count
  pub keyed : All (λ x. key x ≡ key_in of slots (number x)) keys

-- the block of an address, which has 64 addresses
abbrev pub block_number : ℕ → ℕ
block_number a = a / 64

-- a bound as a row: its block is the address, and its bound is the end
abbrev pub bound_row : Bound → Row
bound_row bound =
    record { address = bound.block; client = []; state = Offered; changed = 0; ends = bound.least }

-- bounds as rows, and the number of further bounds for which there is room
pub record Bounds : Type 0 where
  pub rows : List Row
  pub room : ℕ

-- the end of the row at an address
abbrev pub end_at : List Row → ℕ → Option ℕ
end_at rows a = option_map (λ row. row.ends) (row_at rows a)

-- no row of a block ends before a time
abbrev pub IsBound : List Row → ℕ → ℕ → Type 0
IsBound rows block least = All (λ row. block_number row.address ≡ block → least ≤ row.ends) rows

-- each row's block has a bound, and no row of a block ends before its bound
pub record IsBounded (rows bounds : List Row) : Type 0 where
  pub rise : Rise bounds
  pub has : All (λ row. IsSome (row_at bounds (block_number row.address))) rows
  pub least : (block : ℕ) (bound : Row) → row_at bounds block ≡ Some bound
      → IsBound rows block bound.ends

-- what remains of a bound is at most that bound, and at most the end of the row that is set
abbrev pub IsLower : Option ℕ → ℕ → Option ℕ → Type 0
IsLower held ends None = Unit {0}
IsLower None ends (Some kept) = ⊥
IsLower (Some bound) ends (Some kept) = (kept ≤ bound) × (kept ≤ ends)

-- a bound is what remains of the old one, or else any bound of the block
abbrev pub IsNow : List Row → ℕ → Option ℕ → ℕ → Type 0
IsNow rows block None least = IsBound rows block least
IsNow rows block (Some kept) least = least ≡ kept

-- what is true of the fields of a table
pub record IsKept (table : Ordered) (latest least : ℕ) (holds : Holds) (bounds : List Row)
    (runs : List Run) (room most : ℕ) : Type 0 where
  pub rise : Rise table.rows
  pub ranged : All IsInRange table.rows
  pub newest : latest ≡ latest_of table.rows
  pub ends : All (λ row. least ≤ row.ends) table.rows
  pub held : AreHolds holds table.rows
  pub indexed : IsIndex client_of table.rows table.index
  pub aged : IsIndex (age_of table.cuts) table.rows table.ages
  pub bounded : IsBounded table.rows bounds
  pub full : AreFull table.rows runs
  pub enough : room ≤ most

-- the rows before an index have lower addresses, and those from it on do not
pub record IsPlace (rows : List Row) (a place : ℕ) : Type 0 where
  pub in_range : place ≤ length rows
  pub below : (i : ℕ) (d : Row) → i < place → (slice_index_or rows i d).address < a
  pub above : (i : ℕ) (d : Row) → place ≤ i → i < length rows
      → a ≤ (slice_index_or rows i d).address

-- an index is that of the row at an address
pub record IsRowPlace (rows : List Row) (a place : ℕ) : Type 0 where
  pub in_range : place < length rows
  pub here : (d : Row) → (slice_index_or rows place d).address ≡ a
  pub found : (d : Row) → row_at rows a ≡ Some (slice_index_or rows place d)
  pub below : (i : ℕ) (d : Row) → i < place → (slice_index_or rows i d).address < a

-- the index of the row at an address, or that there is no row
abbrev pub IsFound : List Row → ℕ → Option ℕ → Type 0
IsFound rows a None = row_at rows a ≡ None
IsFound rows a (Some place) = IsRowPlace rows a place

-- the addresses before an index have keys below k, and those from it on do not
pub record IsKeyPlace (key : ℕ → List ℕ × ℕ) (index : List ℕ) (k : List ℕ × ℕ)
    (place : ℕ) : Type 0 where
  pub in_range : place ≤ length index
  pub below : (i : ℕ) → i < place → IsKeyBelow (key (slice_index index i)) k
  pub above : (i : ℕ) → place ≤ i → i < length index → IsKeyBelow (key (slice_index index i)) k → ⊥

-- an address is inserted at the index of its key
abbrev pub PutsAt : (ℕ → List ℕ × ℕ) → List ℕ → List ℕ × ℕ → List ℕ → Type 0
PutsAt key old k new = (place : ℕ) × IsKeyPlace key old k place × (new ≡ insert old place k.1)

-- an address is removed from its index
abbrev pub Takes : List ℕ → ℕ → List ℕ → Type 0
Takes old a new =
    (place : ℕ) × (place < length old) × (slice_index old place ≡ a) × (new ≡ remove old place)

-- an address is removed from its index, and inserted at that of another key
abbrev pub Moves : (ℕ → List ℕ × ℕ) → List ℕ → List ℕ × ℕ → List ℕ → Type 0
Moves key old k new = (between : List ℕ) × Takes old k.1 between × PutsAt key between k new
