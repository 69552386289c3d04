use Rattle.std.proofs.Common.{◌≡◌, drop}
use Rattle.kd_lease.specs.Membership.{with_names}
use Rattle.kd_lease.proofs.membership.add_names.Given as goal

abbrev pub invariant-loop-name : goal.invariant-loop-name
invariant-loop-name l = with_names (drop l.name-index l.more) l.names ≡ with_names l.more l.initial.names
