use Rattle.std.proofs.Common.{arith, ap, max, ◌∙◌}
use Rattle.kd_server.proofs.Stepped.{stepped}
use Rattle.kd_server.proofs.turning.step.Goals as goal

pub returns-clause-steps : goal.returns-clause-steps
returns-clause-steps c =
    stepped c.args.over.config.now c.args.ports c.args.over.rows.now.rows (record { moment = c.args.moment; bytes = c.args.bytes.now }) c.max-now.result c.in_ok-row.row c.in_ok-row.response
    (omega arith) (c.max-now.ensures ∙ ap (max c.args.moment) c.latest.ensures.latest) c.in_ok-row.ensures.found
