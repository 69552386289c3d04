use Rattle.kd_laws.proofs.Joined.{goes_on}
use Rattle.kd_laws.proofs.runs.goes_on.Goals as goal

pub returns : goal.returns
returns g c = goes_on _ _ c.openings.ensures.histories c.openings.ensures.ends
    (λ left before after leaves image crash store is_in clean. c.restarts.ensures left.conn before after leaves image crash store is_in clean)
    c.openings.ensures.later c.openings.ensures.later_ends
