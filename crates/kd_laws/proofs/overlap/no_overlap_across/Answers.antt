use Rattle.kd_laws.proofs.LeasesKept.{across}
use Rattle.kd_laws.proofs.overlap.no_overlap_across.Goals as goal

pub returns : goal.returns
returns c = λ rows es history i j e f client a seconds lasts g.
    across c.get_of_set.ensures c.latest_of_set.ensures c.sets_now.ensures c.ends_are_founded.ensures c.held_has_no_rank.ensures c.held_is_not_usable.ensures c.held_is_not_given.ensures c.one_membership.ensures rows es history i j e f client a seconds lasts g
