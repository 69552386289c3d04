use Rattle.std.proofs.Common.{ℕ, ◌-◌, List, arith, sym, ◌∙◌}
use Rattle.kd_rows.specs.Ages.{key_of_age}
use Rattle.kd_rows.specs.Index.{age_at}
use Rattle.kd_rows.proofs.Keys.{below_if, low_more}
use Rattle.kd_rows.proofs.age.is_past_those_before.Goals as goal

pub returns : goal.returns
returns c = λ is.
    let k : List ℕ × ℕ = key_of_age c.args.age.now in
    λ i low. low_more (age_at c.args.rows.now.cuts c.args.rows.now.rows) c.args.rows.now.ages k (c.args.place - 1) c.requires.rises (omega (arith, c.requires.place)) (below_if _ k (sym c.is_before.ensures ∙ is)) i (omega arith)
