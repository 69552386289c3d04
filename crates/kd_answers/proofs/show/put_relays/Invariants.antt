use Rattle.std.proofs.Common.{◌≡◌, ◌-◌, ◌++◌, take, length}
use Rattle.std.specs.Prelude.{string_bytes}
use Rattle.std.specs.List.{flat_map}
use Rattle.kd_options.specs.Relay.{firsts}
use Rattle.kd_options.specs.RelayWalk.{relay_list}
use Rattle.kd_answers.specs.Show.{relay_line}
use Rattle.kd_answers.proofs.show.put_relays.Given as goal

abbrev pub invariant-loop-code : goal.invariant-loop-code
invariant-loop-code l =
    string_bytes l.out ≡ string_bytes l.initial.out ++ flat_map relay_line (take l.index (firsts (relay_list l.message.options)))

abbrev pub decreases-loop-code : goal.decreases-loop-code
decreases-loop-code l = length (firsts (relay_list l.message.options)) - l.index
