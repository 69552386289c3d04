-- The table of leases with withheld addresses: each of these is for one client and no other.
use Rattle.std.specs.Prelude.{◌≡◌, ℕ, ◌<◌, ◌≤◌, Bool, true, false, ◌||◌, List, Option, Some, None, is_some, ◌==◌}
use Rattle.std.specs.List.{list_any}
use Rattle.kd_rows.specs.declared.row.Row.{Row}
use Rattle.kd_rows.specs.Table.{Table, row_at}

-- a table and the withheld addresses
pub record WithheldTable : Type 0 where
  pub table : Table
  pub withheld : List ℕ

-- an address is one of the withheld addresses
abbrev pub is_withheld : List ℕ → ℕ → Bool
is_withheld withheld a = list_any (λ it. it == a) withheld

-- an address has a row or is withheld
abbrev pub is_taken : List Row → List ℕ → ℕ → Bool
is_taken rows withheld a = is_some (row_at rows a) || is_withheld withheld a

-- the lowest address from first to last that has no row and is not withheld, or that there is none
abbrev pub IsFirstFree : List Row → List ℕ → ℕ → ℕ → Option ℕ → Type 0
IsFirstFree rows withheld first last None =
    (a : ℕ) → first ≤ a → a ≤ last → is_taken rows withheld a ≡ true
IsFirstFree rows withheld first last (Some free) =
    (first ≤ free) × (free ≤ last) × (is_taken rows withheld free ≡ false)
    × ((a : ℕ) → first ≤ a → a < free → is_taken rows withheld a ≡ true)

-- the row with the lowest address from first to last that has ended at a time and is not withheld,
-- or that there is none
abbrev pub IsNextOpenEnded : List Row → List ℕ → ℕ → ℕ → ℕ → Option Row → Type 0
IsNextOpenEnded rows withheld first last moment None =
    (a : ℕ) (row : Row) → first ≤ a → a ≤ last → is_withheld withheld a ≡ false
    → row_at rows a ≡ Some row → moment < row.ends
IsNextOpenEnded rows withheld first last moment (Some row) =
    (row_at rows row.address ≡ Some row) × (first ≤ row.address) × (row.address ≤ last)
    × (is_withheld withheld row.address ≡ false) × (row.ends ≤ moment)
    × ((a : ℕ) (other : Row) → first ≤ a → a < row.address → is_withheld withheld a ≡ false
    → row_at rows a ≡ Some other → moment < other.ends)
