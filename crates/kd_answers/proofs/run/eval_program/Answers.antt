use Rattle.kd_answers.specs.Printed.{OfDatagram, RunsOver}
use Rattle.kd_answers.specs.declared.printed.Printed.{Printed}
use Rattle.kd_token.specs.File.{Code}
use Rattle.std.proofs.Common.{ℕ, List}
use Rattle.kd_answers.proofs.Verifying.{accepts, refuses}
use Rattle.kd_answers.proofs.run.eval_program.Goals as goal

-- what is said of a program over this datagram
abbrev runs : List ℕ → Code → Printed → Type 0
runs datagram c p = OfDatagram (RunsOver c) datagram p

pub returns-in-Ok : goal.returns-in-Ok
returns-in-Ok c =
    accepts (runs c.args.datagram.now) c.args.program c.in-Ok.verified c.eval_datagram.result c.in-Ok.ensures.accepted c.program-program.ensures.accepted
    c.eval_datagram.ensures

pub returns : goal.returns
returns c =
    let e = c.in-Err.ensures in
    refuses (runs c.args.datagram.now) c.args.program c.in-Err.fault c.refused_program.result c.refused_program.ensures.ours e.only e.refused.1 e.right
    c.refused_program.ensures.line
