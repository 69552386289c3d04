use Rattle.std.proofs.Common.{arith, take}
use Rattle.std.proofs.lemmas.Result.{err_from_is_err_and}
use Rattle.indexmap.specs.IndexSet.{keys}
use Rattle.kd_json.proofs.FirstSubnets.{all_obeyed, more_joined, not_all_obey, path_of_subnet, subnet_failed, subnet_passed}
use Rattle.kd_fields.specs.Place.{path_at}
use Rattle.kd_json.proofs.rules.subnets.check_each.Goals as goal

pub loop-i-preserved : goal.loop-i-preserved
loop-i-preserved c =
    let at = c.loop-i in
    let this = c.index-subnets-i in
    let made = c.in_ok-left.ensures in
    let decide = subnet_passed c.args.apart at.left at.i (keys at.earlier) c.args.subnets.now
    this.result (omega arith) this.is at.invariant.decide made.checked in
    let joined = more_joined at.i (keys at.earlier) c.args.subnets.now this.result (omega arith)
    this.is at.invariant.joined in
    record { decide = rw (made.left, made.joined) decide; joined = rw made.joined joined }

pub returns-in_err-left-clause-checked : goal.returns-in_err-left-clause-checked
returns-in_err-left-clause-checked c =
    let at = c.loop-i in
    let this = c.index-subnets-i in
    let p = err_from_is_err_and c.from_residual.result c.from_residual.ensures.1 in
    rw (p.1, p.2)
    (λ other. not_all_obey c.args.apart at.left at.i (keys at.earlier) c.args.subnets.now this.result
    (omega arith) this.is at.invariant.decide (c.in_err-left.ensures.checked other))

pub returns-in_err-left-clause-first : goal.returns-in_err-left-clause-first
returns-in_err-left-clause-first c =
    let at = c.loop-i in
    let this = c.index-subnets-i in
    let p = err_from_is_err_and c.from_residual.result c.from_residual.ensures.1 in
    rw (p.1, p.2)
    (λ other. subnet_failed c.args.apart at.left at.i _ (keys at.earlier)
    c.args.subnets.now this.result _ (omega arith) this.is at.invariant.decide at.invariant.joined
    (path_of_subnet (take at.i c.args.subnets.now) this.result (path_at c.owner_at-owner.result)
    c.count_in.result c.owner_at-owner.ensures c.count_in.ensures)
    (c.in_err-left.ensures.first other))

pub returns-clause-checked : goal.returns-clause-checked
returns-clause-checked c =
    all_obeyed c.args.apart c.loop-i.left c.loop-i.i (keys c.loop-i.earlier) c.args.subnets.now
    (omega arith) c.loop-i.invariant.decide
