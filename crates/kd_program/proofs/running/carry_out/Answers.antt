use Rattle.std.proofs.Common.{refl}
use Rattle.kd_program.proofs.Answered.{answered}
use Rattle.kd_program.proofs.running.carry_out.Goals as goal

pub returns-in_default : goal.returns-in_default
returns-in_default g c = answered g.H.Host g.H.Named.Keeps g.H.Unnamed.Keeps g.H.Socket.Link g.H.Journal.Sink c.args.order _ _ _
    c.print_answer.ensures.printed refl c.print_answer.ensures.says
