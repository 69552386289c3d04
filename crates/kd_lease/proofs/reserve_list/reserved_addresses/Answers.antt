use Rattle.std.proofs.Common.{◌≡◌, List, take, ap, arith, ◌∙◌}
use Rattle.std.specs.List.{flat_map}
use Rattle.std.proofs.lemmas.List.{take_all}
use Rattle.kd_config.specs.Rules.{reserved}
use Rattle.kd_config.specs.declared.subnet.Subnet.{Subnet}
use Rattle.kd_lease.proofs.Withheld.{lists_reserved}
use Rattle.kd_lease.proofs.reserve_list.reserved_addresses.Goals as goal

pub returns : goal.returns
returns c =
    let items = c.subnets-subnet-items.result.now in
    let all : take c.loop-subnet.subnet-index items ≡ items = take_all c.loop-subnet.subnet-index items (omega (arith, c.loop-subnet-test.false)) in
    lists_reserved c.args.config.now c.loop-subnet.addresses.items (c.loop-subnet.invariant ∙ ap (λ (xs : List Subnet). flat_map (λ subnet. reserved subnet.reservations) xs) (all ∙ c.subnets-subnet-items.ensures.same))
