use Rattle.std.proofs.Common.{◌≡◌, List, ap, eqb, subst, sym, ℕ, ◌∙◌}
use Rattle.std.specs.List.{dedup}
use Rattle.std.proofs.lemmas.List.Filters.{dedup_is}
use Rattle.std.proofs.lemmas.List.Sorted.{list_any-IsPermutation}
use Rattle.std.proofs.lemmas.Map.Keys.{IsStrictlyIncreasing-dedup}
use Rattle.kd_rows.specs.Open.{address_rows}
use Rattle.kd_rows.specs.Table.{Rise}
use Rattle.kd_rows.specs.Withheld.{is_withheld}
use Rattle.kd_rows.proofs.Listed.{listed_dedup, rise_increasing}
use Rattle.kd_rows.proofs.addresses.in_order.Goals as goal

pub returns-clause-rise : goal.returns-clause-rise
returns-clause-rise c =
    let is : c.dedup.new.self.items ≡ dedup eqb c.sort_unstable.new.self.items = dedup_is eqb _ _ c.dedup.ensures.filtered in
    subst (λ (xs : List ℕ). Rise (address_rows xs)) (sym is) (rise_increasing (dedup eqb c.sort_unstable.new.self.items) (IsStrictlyIncreasing-dedup c.sort_unstable.new.self.items c.sort_unstable.ensures.sorted))

pub returns-clause-same : goal.returns-clause-same
returns-clause-same c = λ a.
    let is : c.dedup.new.self.items ≡ dedup eqb c.sort_unstable.new.self.items = dedup_is eqb _ _ c.dedup.ensures.filtered in
    ap (λ (xs : List ℕ). is_withheld xs a) is ∙ listed_dedup c.sort_unstable.new.self.items a
    ∙ sym (list_any-IsPermutation _ c.args.addresses.items c.sort_unstable.new.self.items c.sort_unstable.ensures.permutation)
