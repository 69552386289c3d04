use Rattle.std.proofs.Common.{subst, sym, ap, map, ◌∙◌, arith}
use Rattle.std.proofs.lemmas.List.{take_all}
use Rattle.kd_rows.specs.Index.{IsByKey, client_of}
use Rattle.kd_rows.proofs.Sorting.{sorted_numbers}
use Rattle.kd_rows.proofs.numbers.numbers_by_client.Goals as goal

pub returns : goal.returns
returns c = subst (IsByKey client_of c.args.rows.now.items) (sym (c.loop-key.invariant ∙ ap (map (λ x. x.2)) (take_all c.loop-key.key-index c.deref-key-items.result.now (omega arith) ∙ c.deref-key-items.ensures.value)))
    (sorted_numbers (λ x. (x.0.now, x.1)) (λ x. x.2) client_of c.args.rows.now.items c.in_ok-keys.keys.items c.sort_unstable.new.self.items c.requires c.in_ok-keys.ensures c.sort_unstable.ensures.permutation c.sort_unstable.ensures.sorted)
