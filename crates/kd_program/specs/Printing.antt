-- What `events` prints: the replies of the log on standard input.
use Rattle.std.specs.Prelude.{◌≡◌, ℕ, true, List, Some, Result}
use Rattle.std.specs.Result.{IsErrOf}
use Rattle.kd_log.specs.Printed.{IsEventText}
use Rattle.kd_log.specs.declared.events.filter.Filter.{Filter}
use Rattle.kd_program.specs.Streams.{Streams}
use Rattle.kd_loops.specs.Filtering.{LeavesFiltered}
use Rattle.kd_loops.specs.declared.fault.ReplayFault.{ReplayFault}
use Rattle.kd_loops.specs.declared.fault.ReplayFault.TheVariants as faults

-- the requested replies are printed, one line each, up to the first bad line of the log, as far as
-- the bytes of the streams are known
pub record PrintsEvents (filter : Filter) (result : Result ℕ ReplayFault)
    (old new : Streams) : Type 0 where
  pub printed : (input output : List ℕ) → old.input.bytes ≡ Some input
      → old.output.bytes ≡ Some output
      → LeavesFiltered (IsEventText filter) (new.input.failed ≡ true) result input output
      new.output.bytes
  pub read : IsErrOf result faults.Read → new.input.failed ≡ true
  pub write : IsErrOf result faults.Write → new.output.failed ≡ true
