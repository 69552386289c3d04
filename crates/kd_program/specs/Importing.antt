-- What an import does: the table that the lines on standard input stand for is put into a store
-- without leases, in one commit.
use Rattle.std.specs.Prelude.{◌≡◌, ◌≢◌, ◌⊎◌, ◌<◌, ℕ, true, List, [], Some, Result, Ok, Err, length}
use Rattle.kd_keeps.specs.Fault.{store_fault_number}
use Rattle.kd_keeps.specs.Moves.{MovesTable}
use Rattle.kd_keeps.specs.declared.fault.StoreFault.{StoreFault}
use Rattle.kd_keeps.specs.declared.keeps.Keeps.{Ghosts}
use Rattle.kd_log.specs.Import.{IsBadLine, IsTable}
use Rattle.kd_program.specs.Streams.{Stream, Streams, Tells, TellsWith}
use Rattle.kd_rows.specs.declared.row.Row.{Row}
use Rattle.kd_answers.specs.Status.{status_of}

-- the largest input in bytes that is imported: 256 MiB
abbrev pub most_imported : ℕ
most_imported = 268435456

-- if the bytes of a stream are known, this holds of them
abbrev pub WhereKnown : (List ℕ → Type 0) → Stream → Type 0
WhereKnown IsSuch stream = (text : List ℕ) → stream.bytes ≡ Some text → IsSuch text

-- how an import ends: silently, or with its fault reported
abbrev pub EndsImport : Result Unit StoreFault → ℕ → Stream → Stream → Type 0
EndsImport (Ok done) status old new = (status ≡ 0) × (new ≡ old)
EndsImport (Err fault) status old new =
    TellsWith (store_fault_number fault) (status_of (store_fault_number fault)) status old new

-- the first bad line of a text is reported: it is not the line of a lease, or has the address of an
-- earlier line
abbrev pub TellsBadLine : List ℕ → ℕ → Stream → Stream → Type 0
TellsBadLine text status old new =
    (number : ℕ) × IsBadLine text number × TellsWith 97 (status_of 97) status old new

-- the input cannot be read, or is too long, and this is reported
pub record HasUnreadInput (status : ℕ) (old new : Streams) : Type 0 where
  pub why : (new.input.failed ≡ true) ⊎ WhereKnown (λ text. most_imported < length text) old.input
  pub told : Tells 94 status old new

-- over a store of leases
module _ {S : Type 0} (g : Ghosts S) where
  -- a store that stood at the empty table is moved to this table, in one commit
  pub record IsMoved (table : List Row) (store back : S) (status : ℕ)
      (old new : Stream) : Type 0 where
    pub result : Result Unit StoreFault
    pub clean : g.has_clean_disk back → g.has_clean_disk store
    pub moves : g.has_clean_disk back → g.stands store []
        → MovesTable (g.stands back) (g.leaves back) (g.is_open back) [] table result
    pub ends : EndsImport result status old new

  -- a text stands for a table, and a store is moved to it
  abbrev pub Restores : List ℕ → S → S → ℕ → Stream → Stream → Type 0
  Restores text store back status old new =
      (table : List Row) × IsTable text table × IsMoved table store back status old new

  -- what an import of a text does: a store is moved to the text's table; or the store stays as it
  -- is, and the first bad line is reported, or out of memory
  abbrev pub ImportsText : List ℕ → S → S → ℕ → Stream → Stream → Type 0
  ImportsText text store back status old new =
      Restores text store back status old new
      ⊎ ((back ≡ store) × (TellsBadLine text status old new
      ⊎ TellsWith 91 (status_of 91) status old new))

  -- the text of the input is imported
  pub record ImportsInput (store back : S) (status : ℕ) (old new : Streams) : Type 0 where
    pub text : List ℕ
    pub whole : WhereKnown (λ all. text ≡ all) old.input
    pub imports : ImportsText text store back status old.faults new.faults
    pub quiet : new.output ≡ old.output

  -- the input is imported, or it is reported why it was not read
  abbrev pub ImportsIfRead : S → S → ℕ → Streams → Streams → Type 0
  ImportsIfRead store back status old new =
      ImportsInput store back status old new
      ⊎ ((back ≡ store) × (HasUnreadInput status old new ⊎ Tells 91 status old new))

  -- what an import does with a store that has these rows: if there are any, the store is left as it
  -- is
  abbrev pub ImportsInto : List Row → S → S → ℕ → Streams → Streams → Type 0
  ImportsInto rows store back status old new =
      ((rows ≢ []) × (back ≡ store) × Tells 83 status old new)
      ⊎ ((rows ≡ []) × ImportsIfRead store back status old new)
