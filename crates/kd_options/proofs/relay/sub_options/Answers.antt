use Rattle.std.proofs.Common.{◌≡◌, false, sym, ◌∙◌}
use Rattle.kd_options.specs.RelayWalk.{are_whole_from}
use Rattle.kd_options.proofs.Relays.{subs_from-none, are_whole_from-none}
use Rattle.kd_options.proofs.relay.sub_options.Goals as goal

pub invariant_of-result : goal.invariant_of-result
invariant_of-result c = are_whole_from-none

pub returns-else-is_whole : goal.returns-else-is_whole
returns-else-is_whole c =
    let cut : are_whole_from 0 c.args.value.now ≡ false = sym c.is_whole.ensures ∙ c.if-is_whole.false in rw cut subs_from-none
