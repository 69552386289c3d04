use Rattle.std.proofs.Common.{◌≡◌, false, take}
use Rattle.std.specs.List.{list_any}
use Rattle.kd_loops.specs.Ahead.{is_ahead}
use Rattle.kd_loops.proofs.clocks.some_ahead.Given as goal

abbrev pub invariant-loop-event : goal.invariant-loop-event
invariant-loop-event l =
    list_any (λ event. is_ahead l.limit l.latest l.before l.steady event.moment) (take l.event-index l.events) ≡ false
