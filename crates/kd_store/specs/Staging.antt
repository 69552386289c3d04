-- Rows that are set in one transaction, which is committed; used only in private contracts.
use Rattle.std.specs.Prelude.{◌≡◌, List}
use Rattle.sqlite.specs.Held.{Held, state}
use Rattle.sqlite.specs.State.{Commits}
use Rattle.sqlite_trees.specs.Tree.{Trees}
use Rattle.sqlite_trees.specs.declared.store.Store.{Ghosts}
use Rattle.kd_rows.specs.declared.row.Row.{Row}
use Rattle.kd_store.specs.Batch.{SetsEach, begun}

-- rows are set in a transaction, which is committed
pub record SetsTogether {S : Type 0} (g : Ghosts S) (rows : List Row) (old new : Held S) : Type 0 where
  pub mid : Held S
  pub set : SetsEach g rows (begun old) mid
  pub committed : Commits (state g mid) (state g new)

-- the trees that the commit writes
abbrev pub CommitsTogether : {S : Type 0} → Ghosts S → List Row → Held S → Trees → Type 0
CommitsTogether {S} g rows old db =
    (mid : Held S) × SetsEach g rows (begun old) mid × (db ≡ (state g mid).now.trees)
