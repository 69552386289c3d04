use Rattle.std.proofs.Common.{subst, sym, ap, map, ◌∙◌, arith}
use Rattle.std.proofs.lemmas.List.{take_all}
use Rattle.kd_rows.specs.Index.{IsByKey, age_key, age_of}
use Rattle.kd_rows.proofs.Sorting.{sorted_ages, sorted_numbers}
use Rattle.kd_rows.proofs.numbers.numbers_by_age.Goals as goal

pub returns : goal.returns
returns c = subst (IsByKey (age_of c.args.zones.now) c.args.rows.now.items) (sym (c.loop-age.invariant ∙ ap (map (λ x. x.3)) (take_all c.loop-age.age-index c.deref-age-items.result.now (omega arith) ∙ c.deref-age-items.ensures.value)))
    (sorted_numbers (λ x. (age_key x.0.now x.1.0 x.1.1, x.2)) (λ x. x.3) (age_of c.args.zones.now) c.args.rows.now.items c.in_ok-ages.ages.items c.sort_unstable.new.self.items c.requires c.in_ok-ages.ensures c.sort_unstable.ensures.permutation (sorted_ages _ c.sort_unstable.ensures.sorted))
