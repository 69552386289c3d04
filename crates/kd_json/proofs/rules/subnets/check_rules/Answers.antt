use Rattle.std.proofs.Common.{subst, ◌∙◌}
use Rattle.std.proofs.lemmas.Result.{IfErr-weaker}
use Rattle.kd_json.proofs.FirstSubnets.{AreApart, may_not_stand}
use Rattle.kd_json.proofs.rules.subnets.check_rules.Goals as goal

pub returns-clause-first : goal.returns-clause-first
returns-clause-first c =
    let apart = c.in_ok-apart.ensures in
    let are_apart = subst (AreApart c.in_ok-apart.apart)
    (c.deref.ensures.value ∙ c.in_ok-ranges.ensures)
    (record { front = apart.apart; more = apart.first }) in
    IfErr-weaker c.check_each.result _ _
    (λ fault h other. may_not_stand c.in_ok-apart.apart c.args.subnets.now fault are_apart
    (h other))
    c.check_each.ensures.first
