use Rattle.kd_laws.proofs.Opened.{openings}
use Rattle.kd_laws.proofs.runs.commands_are_openings.Goals as goal

pub returns : goal.returns
returns g c = openings g.H.Host g.H.Socket.Link g.H.Journal.Sink g.S.Keeps c.replaying_is_calls.ensures c.serving_is_calls.ensures
