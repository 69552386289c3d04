use Rattle.kd_laws.proofs.Joined.{runs, stands_at}
use Rattle.kd_laws.proofs.runs.runs_are_histories.Goals as goal

pub returns : goal.returns
returns g c = runs _ _ c.commands.ensures.openings.histories c.commands.ensures.openings.ends
    (λ left before after leaves image crash store is_in clean. c.restarts.ensures left.conn before after leaves image crash store is_in clean)
    _ _ _ c.commands.ensures.openings.later_ends c.commands.ensures.commands
    (λ image store held new clean table holds. stands_at image store table held new clean holds)
