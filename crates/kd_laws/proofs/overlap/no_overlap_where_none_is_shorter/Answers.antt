use Rattle.kd_laws.proofs.Across.{where_none_is_shorter}
use Rattle.kd_laws.proofs.overlap.no_overlap_where_none_is_shorter.Goals as goal

pub returns : goal.returns
returns c = λ rows es history i j e f client a seconds lasts none g.
    where_none_is_shorter c.no_overlap_across.ensures rows es history i j e f client a seconds lasts none g
