use Rattle.std.proofs.Common.{ℕ, Option, subst, sym}
use Rattle.kd_lease.specs.Rules.{asking}
use Rattle.kd_lease.specs.Seeking.{IsLeast, IsLeastOpen, is_kept_open}
use Rattle.kd_lease.proofs.Least.{lesser_open}
use Rattle.kd_lease.proofs.pool_search.least_open.Goals as goal

pub returns : goal.returns
returns c =
    let choosing = c.args.choosing.now in
    let q = asking choosing.question.now in
    let kept = subst (λ (own : Option ℕ). IsLeast (is_kept_open q own c.args.new) c.args.range.first c.args.range.last c.kept_open.result) choosing.reserved c.kept_open.ensures in
    let least = lesser_open q choosing.subnet.now c.args.new c.args.range.first c.args.range.last c.kept_open.result c.least_common.result kept c.least_common.ensures in
    subst (λ (found : Option ℕ). IsLeastOpen q choosing.subnet.now c.args.new c.args.range.first c.args.range.last found) (sym c.lesser_of.ensures) least
