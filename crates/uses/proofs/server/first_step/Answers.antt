use Rattle.kd_server.specs.Server.{Opens, Steps}
use Rattle.uses.proofs.Results.{fact_of_some}
use Rattle.uses.proofs.server.first_step.Goals as goal

pub returns : goal.returns
returns g c clean table stands =
    let opens : Opens g.S.Keeps c.args.ports c.args.config c.args.store c.in_ok-server.server =
    fact_of_some (λ server. Opens g.S.Keeps c.args.ports c.args.config c.args.store server) c.open.result c.in_ok-server.server c.in_ok-server.ensures.value c.open.ensures.opened in
    let steps : Steps g.S.Keeps c.in_ok-server.server (record { moment = c.args.event.now.moment; bytes = c.as_slice.result.now }) c.in_ok-handled.handled c.handle.new.self =
    fact_of_some (λ handled. Steps g.S.Keeps c.in_ok-server.server (record { moment = c.args.event.now.moment; bytes = c.as_slice.result.now }) handled c.handle.new.self) c.handle.result c.in_ok-handled.handled c.in_ok-handled.ensures.value c.handle.ensures.handled in
    let rows = (opens.holds (steps.store.clean clean) table stands).0 in
    let step = steps.step in
    let by_config = rw opens.config_is at step in
    let by_ports = rw opens.ports_are at by_config in
    let by_rows = rw rows at by_ports in
    rw c.as_slice.ensures at by_rows
