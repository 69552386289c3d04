use Rattle.std.proofs.Common.{ap, sym, ◌∙◌}
use Rattle.kd_lease.specs.Booting.{fields_of}
use Rattle.kd_lease.proofs.Boots.{nothing_given}
use Rattle.kd_lease.proofs.booting.fields_within.Goals as goal

pub returns-else-may_give_boots : goal.returns-else-may_give_boots
returns-else-may_give_boots c =
    let q = c.args.question.now in
    c.zero_fields.ensures
    ∙ ap fields_of (sym (nothing_given q.config.now c.args.subnet.now q.names.now q.message.now c.args.address (sym c.may_give_boots.ensures ∙ c.if-may_give_boots.false)))
