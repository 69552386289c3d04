use Rattle.kd_laws.proofs.Across.{of_one}
use Rattle.kd_laws.proofs.overlap.no_overlap.Goals as goal

pub returns : goal.returns
returns c = λ config rows es history one single i j e f client a g.
    of_one c.no_overlap_across.ensures c.leases_last.ensures c.leases_last_alike.ensures config rows es history one single i j e f client a g
