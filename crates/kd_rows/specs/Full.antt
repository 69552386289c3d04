-- Addresses that all have rows.
use Rattle.std.specs.Prelude.{ℕ, ◌≤◌, List, IsSome}
use Rattle.std.specs.List.{All}
use Rattle.kd_rows.specs.Table.{row_at}
use Rattle.kd_rows.specs.declared.full.Run.{Run}
use Rattle.kd_rows.specs.declared.row.Row.{Row}

-- every address from first to last has a row
abbrev pub HasAll : List Row → ℕ → ℕ → Type 0
HasAll rows first last = (a : ℕ) → first ≤ a → a ≤ last → IsSome (row_at rows a)

-- every address of every run has a row
abbrev pub AreFull : List Row → List Run → Type 0
AreFull rows runs = All (λ run. HasAll rows run.first run.last) runs
