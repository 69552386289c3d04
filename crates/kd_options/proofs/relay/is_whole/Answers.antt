use Rattle.std.proofs.Common.{sym, ap, ◌∙◌}
use Rattle.kd_options.specs.RelayWalk.{are_whole_from}
use Rattle.kd_options.proofs.Relays.{are_whole_from-front, are_whole_from-none, are_whole_from-cut}
use Rattle.kd_options.proofs.relay.is_whole.Goals as goal

pub returns-in-End : goal.returns-in-End
returns-in-End c =
    sym are_whole_from-none ∙ ap (are_whole_from 0) (sym c.in-End.ensures) ∙ c.loop-rest.invariant

pub loop-rest-preserved : goal.loop-rest-preserved
loop-rest-preserved c =
    sym (are_whole_from-front _ _ _) ∙ ap (are_whole_from 0) (sym c.in-SubOption.ensures) ∙ c.loop-rest.invariant

pub returns-in-Cut : goal.returns-in-Cut
returns-in-Cut c = sym (are_whole_from-cut _ c.in-Cut.ensures) ∙ c.loop-rest.invariant
