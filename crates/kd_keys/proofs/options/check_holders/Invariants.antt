use Rattle.std.proofs.Common.{◌≡◌, drop}
use Rattle.std.specs.List.{list_all}
use Rattle.kd_keys.specs.Options.{may_hold}
use Rattle.kd_keys.proofs.options.check_holders.Given as goal

abbrev pub invariant-loop-i : goal.invariant-loop-i
invariant-loop-i l = list_all (may_hold l.entries) l.entries ≡ list_all (may_hold l.entries) (drop l.i l.entries)
