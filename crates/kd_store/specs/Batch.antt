-- Rows that are set in one transaction: each by its statement, with one commit.
use Rattle.std.specs.Prelude.{◌≡◌, ◌⊎◌, ℕ, true, List, [], ◌∷◌, ◌++◌, Ok, Err, IsTrue}
use Rattle.sqlite.specs.Held.{Held, state}
use Rattle.sqlite.specs.State.{ExecutesInside, IsRolledBack}
use Rattle.sqlite.specs.Steps.{FailsToCommit}
use Rattle.sqlite.specs.declared.error.Error.{Error}
use Rattle.sqlite.specs.declared.error.Error.TheVariants.{SqliteFailure}
use Rattle.sqlite.specs.declared.error.ErrorCode.TheVariants.{TransactionState}
use Rattle.sqlite_trees.specs.declared.store.Store.{Ghosts}
use Rattle.kd_rows.specs.declared.row.Row.{Row}
use Rattle.kd_store.specs.Lease.{columns_of, put_text}

-- a connection after a transaction has begun on it
abbrev pub begun : {S : Type 0} → Held S → Held S
begun conn = record conn { in_transaction = true }

-- within a transaction rows are set one after another, each by its statement
abbrev pub SetsEach : {S : Type 0} → Ghosts S → List Row → Held S → Held S → Type 0
SetsEach g [] old new = new ≡ old
SetsEach {S} g (row ∷ rows) old new =
    (mid : Held S) × (count : ℕ)
    × ExecutesInside 0 put_text (columns_of row) (state g old) (state g mid) (Ok count)
    × SetsEach g rows mid new

-- within a transaction the first of some rows are set, and the statement for the next is refused
pub record StopsAt {S : Type 0} (g : Ghosts S) (rows : List Row) (old new : Held S)
    (error : Error) : Type 0 where
  pub done : List Row
  pub row : Row
  pub more : List Row
  pub all : rows ≡ done ++ row ∷ more
  pub mid : Held S
  pub set : SetsEach g done old mid
  pub refused : ExecutesInside 0 put_text (columns_of row) (state g mid) (state g new) (Err error)

-- rows are not set together: the connection was already in a transaction, or one began and either a
-- statement in it was refused and it was rolled back, or all rows were set and its commit failed
abbrev pub FailsTogether : {S : Type 0} → Ghosts S → List Row → Held S → Held S → Error → Type 0
FailsTogether {S} g rows old new error =
    (IsTrue old.in_transaction × (error ≡ SqliteFailure TransactionState) × (new ≡ old))
    ⊎ ((mid : Held S)
    × ((StopsAt g rows (begun old) mid error × IsRolledBack (state g mid) (state g new))
    ⊎ (SetsEach g rows (begun old) mid × FailsToCommit (state g mid) (state g new) error)))
