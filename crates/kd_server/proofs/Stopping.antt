-- An event whose row is not kept.
use Rattle.std.proofs.Common.{◌≡◌, ◌≢◌, ⊎_elim, IfErr, is_some, List, Option, Result, Ok, Err, false, refl, sym, ap, subst}
use Rattle.kd_config.specs.Configuration.{Configuration}
use Rattle.kd_event.specs.declared.event.Event.{Event}
use Rattle.kd_event.specs.declared.event.Handled.{Handled}
use Rattle.kd_event.specs.declared.ports.Ports.{Ports}
use Rattle.kd_keeps.specs.declared.keeps.Keeps.{Ghosts}
use Rattle.kd_lease.specs.Change.{after}
use Rattle.kd_loops.specs.declared.fault.ServeFault.{ServeFault}
use Rattle.kd_loops.specs.declared.fault.ServeFault.TheVariants as faults
use Rattle.kd_rows.specs.declared.row.Row.{Row}
use Rattle.kd_server.specs.Server.{HasHeader, ServerState, Refuses, StepsTo}
use Rattle.kd_server.specs.Unkept.{IsUnkept}
use Rattle.kd_server.proofs.Headed.{message_headed}

-- an event that changes the rows has a header
pub headed : (config : Configuration) (ports : Ports) (rows new : List Row) (event : Event) (handled : Handled) → StepsTo config ports rows event handled new → new ≢ rows → HasHeader event.bytes
headed config ports rows new event handled step changed =
    ⊎_elim (λ t. absurd (changed t.table)) (λ t. message_headed event.bytes t.message t.reads) step.done

-- a row that is not kept means that the event is refused
pub refused : {S : Type 0} (g : Ghosts S) (old : ServerState S) (event : Event) (row : Option Row) (handled : Handled) (fault : ServeFault) (rows : List Row) (store : S)
    → is_some (g.fault old.store) ≡ false → StepsTo old.config old.ports old.rows event handled (after old.rows row) → IsUnkept g old.rows rows old.store store (after old.rows row) fault
    → Refuses g old event fault (record { ports = old.ports; config = old.config; rows = rows; store = store })
refused g old event row handled faults.MomentTooLarge rows store works step unkept = absurd unkept
refused g old event row handled faults.Memory rows store works step unkept = (
  works,
  step.early,
  headed old.config old.ports old.rows (after old.rows row) event handled step unkept.2,
  subst (λ (r : List Row). record { ports = old.ports; config = old.config; rows = r; store = store } ≡ old) (sym unkept.0)
      (ap (λ s. record { ports = old.ports; config = old.config; rows = old.rows; store = s }) unkept.1),
)
refused g old event row handled (faults.Store fault) rows store works step unkept = record {
  worked = works;
  same = record { ports = refl; config = refl; rows = unkept.0 };
  handled = handled;
  after = after old.rows row;
  step = step;
  store = unkept.1;
}
refused g old event row handled faults.Failed rows store works step unkept = absurd unkept

-- an event is refused because its row is not kept
pub refused_if : {S : Type 0} (g : Ghosts S) (old : ServerState S) (event : Event) (row : Option Row) (handled : Handled) (result : Result Handled ServeFault) (rows : List Row) (store : S)
    → is_some (g.fault old.store) ≡ false → StepsTo old.config old.ports old.rows event handled (after old.rows row) → IfErr result (IsUnkept g old.rows rows old.store store (after old.rows row))
    → IfErr result (λ fault. Refuses g old event fault (record { ports = old.ports; config = old.config; rows = rows; store = store }))
refused_if g old event row handled (Ok h) rows store works step unkept = tt
refused_if g old event row handled (Err fault) rows store works step unkept = refused g old event row handled fault rows store works step unkept
