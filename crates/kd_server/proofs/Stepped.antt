-- What a datagram does is a step of the history.
use Rattle.std.proofs.Common.{◌≡◌, ◌^◌, ◌<◌, ℕ, List, Option, inl, inr, max, refl, subst, sym, ap}
use Rattle.kd_config.specs.Configuration.{Configuration}
use Rattle.kd_event.specs.declared.event.Event.{Event}
use Rattle.kd_event.specs.declared.event.Handled.{Handled}
use Rattle.kd_event.specs.declared.event.Response.{Response}
use Rattle.kd_event.specs.declared.ports.Ports.{Ports}
use Rattle.kd_lease.specs.Change.{after}
use Rattle.kd_rows.specs.Table.{latest_of}
use Rattle.kd_rows.specs.declared.row.Row.{Row}
use Rattle.kd_server.specs.Server.{StepsTo}
use Rattle.kd_server.specs.Turn.{IsTurn}

pub stepped : (config : Configuration) (ports : Ports) (rows : List Row) (event : Event) (now : ℕ) (row : Option Row) (response : Response)
    → event.moment < 2 ^ 40 → now ≡ max event.moment (latest_of rows) → IsTurn config ports rows now event.bytes row response
    → StepsTo config ports rows event (record { now = now; response = response }) (after rows row)
stepped config ports rows event now row response early is (inl t) =
    record { early = early; now = is; done = inl (record { unreadable = t.unreadable; quiet = t.quiet; table = ap (after rows) t.none }) }
stepped config ports rows event now row response early is (inr t) = record {
  early = early;
  now = is;
  done = inr (record {
    message = t.message;
    reads = t.reads;
    outcome = t.turns.outcome;
    changes = record { names = t.turns.names; held = t.turns.held; set = row; decides = t.turns.decides; becomes = refl };
    responds = t.turns.responds;
  });
}

-- the same over an equal configuration and equal rows
pub step_to : (c config : Configuration) (ports : Ports) (r rows new : List Row) (event : Event) (handled : Handled) (row : Option Row) → c ≡ config → r ≡ rows → new ≡ after rows row
    → StepsTo c ports r event handled (after r row) → StepsTo config ports rows event handled new
step_to c config ports r rows new event handled row one two is step =
    subst (StepsTo config ports rows event handled) (sym is)
    (subst (λ (l : List Row). StepsTo config ports l event handled (after l row)) two (subst (λ (k : Configuration). StepsTo k ports r event handled (after r row)) one step))
