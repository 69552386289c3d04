-- What `why` and `replay --why` print: the explanation of a datagram, or of a line of the input.
use Rattle.std.specs.Prelude.{◌≡◌, ◌⊎◌, ℕ, Bool, true, List, Some, Result, Ok, Err}
use Rattle.hex.specs.Hex.{decode_of}
use Rattle.hex.specs.declared.FromHexError.{FromHexError}
use Rattle.kd_config.specs.Configuration.{Configuration}
use Rattle.kd_program.specs.Streams.{ShowsOrBreaks, Starves, Streams, Tells, TellsWith}
use Rattle.kd_loops.specs.Faults.{replay_fault_number, serve_fault_number}
use Rattle.kd_loops.specs.declared.fault.ReplayFault.{ReplayFault}
use Rattle.kd_loops.specs.declared.fault.ServeFault.{ServeFault}
use Rattle.kd_rows.specs.declared.row.Row.{Row}
use Rattle.kd_server.specs.Looks.{IsNoList}
use Rattle.kd_server.specs.Trial.{Trying}
use Rattle.kd_answers.specs.Status.{replay_status_of}
use Rattle.kd_why.specs.Inquiring.{IsExplainedAt, IsNotExplained}
use Rattle.kd_why.specs.Saying.{ExplainsEvent}

-- what a server with the standard ports (RFC 2131 section 4.1) would do with these rows
abbrev pub standard_trial : Configuration → List Row → Trying
standard_trial config rows =
    record { ports = record { server = 67; client = 68 }; config = config; rows = rows }

-- the explanation of a datagram at a time over rows is shown, by whether their store has failed; or
-- it is reported why there is none
abbrev pub ShowsWhy : List ℕ → Bool → Configuration → List Row → ℕ → ℕ → Streams → Streams → Type 0
ShowsWhy bytes failed config rows at status old new =
    ((text : List ℕ)
    × ExplainsEvent (standard_trial config rows) (record { moment = at; bytes = bytes }) text
    × ShowsOrBreaks text 0 status old.output new.output old.faults new.faults)
    ⊎ ((fault : ServeFault) × IsNoList failed at fault × Tells (serve_fault_number fault) status old
    new)

-- the same for the bytes of an argument; an argument that is not hexadecimal is a mistake on the
-- command line
abbrev pub ShowsWhyOf : Result (List ℕ) FromHexError → Bool → Configuration → List Row → ℕ → ℕ
    → Streams → Streams → Type 0
ShowsWhyOf (Ok bytes) failed config rows at status old new =
    ShowsWhy bytes failed config rows at status old new
ShowsWhyOf (Err error) failed config rows at status old new = Tells 98 status old new

-- the explanation of the datagram in an argument is shown, or why there is none; memory may run out
-- for it
abbrev pub ExplainsWord : List ℕ → Bool → Configuration → List Row → ℕ → ℕ → Streams → Streams
    → Type 0
ExplainsWord word failed config rows at status old new =
    ShowsWhyOf (decode_of word) failed config rows at status old new ⊎ Starves status old new

-- the explanation of a line of standard input is shown, if the bytes of the stream are known
pub record ShowsLine (t : Trying) (number status : ℕ) (old new : Streams) : Type 0 where
  pub text : List ℕ
  pub explained : (input : List ℕ) → old.input.bytes ≡ Some input → IsExplainedAt t input number text
  pub shown : ShowsOrBreaks text 0 status old.output new.output old.faults new.faults

-- it is reported why there is none
pub record ShowsNoLine (t : Trying) (number status : ℕ) (old new : Streams) : Type 0 where
  pub fault : ReplayFault
  pub unexplained : (input : List ℕ) → old.input.bytes ≡ Some input
      → IsNotExplained (new.input.failed ≡ true) t input number fault
  pub output : new.output ≡ old.output
  pub told : TellsWith (replay_fault_number fault) (replay_status_of fault) status old.faults
      new.faults

-- one of the two
abbrev pub ExplainsLine : Trying → ℕ → ℕ → Streams → Streams → Type 0
ExplainsLine t number status old new =
    ShowsLine t number status old new ⊎ ShowsNoLine t number status old new
