use Rattle.std.proofs.Common.{◌≡◌, ◌++◌, ◌||◌, map, Some, take}
use Rattle.std.specs.List.{flat_map}
use Rattle.kd_lease.specs.Client.{wants_option}
use Rattle.kd_lease.specs.Given.{configured}
use Rattle.kd_lease.specs.Plan.{option_of_item}
use Rattle.kd_lease.proofs.given.put_values.Given as goal

abbrev pub invariant-loop-entry : goal.invariant-loop-entry
invariant-loop-entry l =
    map option_of_item l.list.items
    ≡ map option_of_item l.fn.list.items ++ flat_map (λ e. configured (wants_option e.code l.message || e.always) e.code (Some e.value.now)) (take l.entry-index l.values.list.items)
