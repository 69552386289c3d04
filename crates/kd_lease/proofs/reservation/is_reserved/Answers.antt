use Rattle.std.proofs.Common.{ap, sym, ◌∙◌}
use Rattle.std.specs.List.{list_any}
use Rattle.kd_lease.specs.Seeking.{reserves}
use Rattle.kd_lease.proofs.Reserved.{none_reserves, reserved_where}
use Rattle.kd_lease.proofs.reservation.is_reserved.Goals as goal

pub returns-then-reserves_any : goal.returns-then-reserves_any
returns-then-reserves_any c =
    let config = c.args.config.now in
    c.are_keeping.ensures ∙ ap (list_any (reserves c.args.address)) c.subnets.ensures.same ∙ sym (reserved_where config c.args.address c.subnets.ensures.sound)

pub returns-else-reserves_any : goal.returns-else-reserves_any
returns-else-reserves_any c =
    sym (none_reserves c.args.config.now c.args.address (sym c.reserves_any.ensures ∙ c.if-reserves_any.false))
