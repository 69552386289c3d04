use Rattle.std.proofs.Common.{List, ℕ, ◌++◌, sym, ap, ◌∙◌}
use Rattle.std.proofs.lemmas.List.{append-nil}
use Rattle.kd_keys.proofs.Spaces.{none_inside}
use Rattle.kd_keys.proofs.inside.push_space.Goals as goal

pub returns-else-has_space : goal.returns-else-has_space
returns-else-has_space c =
    sym (ap (λ (xs : List ℕ). c.args.out.now.items ++ xs) (none_inside c.args.entries.now c.args.space.now 255 (sym c.has_space.ensures ∙ c.if-has_space.false))
    ∙ append-nil c.args.out.now.items)
