use Rattle.std.proofs.Common.{rules, ◌+◌, ◌==◌, not, reverse, take, ap, ◌∙◌}
use Rattle.std.proofs.lemmas.Iterator.Adapters.{YieldsList-from_rev_slice}
use Rattle.std.proofs.lemmas.Iterator.Consumers.{YieldsList-at, count_from_yields_List}
use Rattle.std.proofs.lemmas.Iterator.Search.{YieldsList-from_take_while}
use Rattle.std.proofs.lemmas.List.Folds.{length-prefix_len}
use Rattle.kd_check.proofs.located.column_number.Goals as goal

pub returns : goal.returns
returns c =
    let before = take c.args.place c.args.text.now in
    ap (λ n. n + 1)
    (count_from_yields_List _ c.count.result c.count.ensures.ran
    (YieldsList-from_take_while _ (λ b. not (b == 10))
    (YieldsList-at c.take_while.ensures.source (YieldsList-from_rev_slice before cc))
    c.take_while.ensures.closure c.take_while.ensures.done (λ x b q k. search rules))
    ∙ length-prefix_len (λ b. not (b == 10)) (reverse before))
