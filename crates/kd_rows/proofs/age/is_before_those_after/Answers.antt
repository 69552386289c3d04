use Rattle.std.proofs.Common.{ℕ, ◌+◌, List, sym, ◌∙◌}
use Rattle.kd_rows.specs.Ages.{key_of_age}
use Rattle.kd_rows.specs.Index.{age_at}
use Rattle.kd_rows.proofs.Keys.{high_less, not_below_if, not_so}
use Rattle.kd_rows.proofs.age.is_before_those_after.Goals as goal

pub returns : goal.returns
returns c = λ is.
    let k : List ℕ × ℕ = key_of_age c.args.age.now in
    high_less (age_at c.args.rows.now.cuts c.args.rows.now.rows) c.args.rows.now.ages k (c.args.place + 1) c.requires.rises (not_below_if _ k (sym c.is_before.ensures ∙ not_so _ is))
