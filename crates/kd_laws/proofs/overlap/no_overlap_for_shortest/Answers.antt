use Rattle.kd_laws.proofs.Across.{for_shortest}
use Rattle.kd_laws.proofs.overlap.no_overlap_for_shortest.Goals as goal

pub returns : goal.returns
returns c = λ rows es history i j e f client a shortest least g.
    for_shortest c.no_overlap_across.ensures c.leases_last.ensures c.none_is_shorter.ensures rows es history i j e f client a shortest least g
