use Rattle.kd_laws.proofs.Joined.{never_overlap, stands_at}
use Rattle.kd_laws.proofs.runs.runs_never_overlap.Goals as goal

pub returns : goal.returns
returns g c = never_overlap _ _ c.commands.ensures.openings.histories c.commands.ensures.openings.ends
    (λ left before after leaves image crash store is_in clean. c.restarts.ensures left.conn before after leaves image crash store is_in clean)
    _ _ _ c.commands.ensures.openings.later_ends c.commands.ensures.commands
    (λ image store held new clean table holds. stands_at image store table held new clean holds)
    c.no_reply_overlaps.ensures
    (λ image store held new clean table holds. stands_at image store table held new clean holds)
    (λ store table other first second. c.stands_once.ensures store.conn table other first second)
