use Rattle.std.proofs.Common.{sym, ap, ◌∙◌}
use Rattle.std.proofs.lemmas.Bool.{false≢true}
use Rattle.kd_options.specs.RelayWalk.{are_whole_from, subs_from}
use Rattle.kd_options.proofs.Relays.{subs_from-front, subs_from-none, are_whole_from-front, are_whole_from-cut}
use Rattle.kd_options.proofs.relay.first_of.Goals as goal

pub unreachable-requires : goal.unreachable-requires
unreachable-requires c = false≢true (sym (are_whole_from-cut _ c.in-Cut.ensures) ∙ c.requires)

pub returns-in-End : goal.returns-in-End
returns-in-End c = ap (subs_from 0) c.in-End.ensures ∙ subs_from-none

pub returns-in-SubOption : goal.returns-in-SubOption
returns-in-SubOption c =
    let is = c.in-SubOption.ensures in (
      ap (subs_from 0) is ∙ subs_from-front _ _ _,
      sym (are_whole_from-front _ _ _) ∙ ap (are_whole_from 0) (sym is) ∙ c.requires,
    )
