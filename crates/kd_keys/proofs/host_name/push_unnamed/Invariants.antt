use Rattle.std.proofs.Common.{◌≡◌, ◌++◌, ◌==◌, not}
use Rattle.std.specs.List.{filter}
use Rattle.kd_keys.specs.HostName.{name_code}
use Rattle.kd_keys.proofs.host_name.push_unnamed.Given as goal

abbrev pub invariant-loop-option : goal.invariant-loop-option
invariant-loop-option l =
    l.out.items ≡ l.fn.out.items ++ filter (λ option. not (option.code == name_code)) l.yielded
