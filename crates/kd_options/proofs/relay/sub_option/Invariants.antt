use Rattle.std.proofs.Common.{◌≡◌, nat_eq, None}
use Rattle.std.specs.Map.{lookup}
use Rattle.kd_options.specs.RelayWalk.{sub_options_of}
use Rattle.kd_options.proofs.relay.sub_option.Given as goal

abbrev pub invariant-loop-own : goal.invariant-loop-own
invariant-loop-own l =
    (l.found ≡ None)
    × (lookup (nat_eq l.code) (sub_options_of l.value) ≡ lookup (nat_eq l.code) l.own-iterator)
