use Rattle.std.proofs.Common.{◌≡◌, ◌++◌, map}
use Rattle.kd_kea.specs.Network.{with_network}
use Rattle.kd_kea.proofs.objects.network.push_members.Given as goal

abbrev pub invariant-loop-member : goal.invariant-loop-member
invariant-loop-member l = l.out.items ≡ l.fn.out.items ++ map (with_network l.number) l.yielded
