use Rattle.std.proofs.Common.{ℕ, List, Some, arith, ap, nat_eq, sym, ◌∙◌}
use Rattle.std.specs.Cmp.Lexicographic.{pointwise}
use Rattle.kd_rows.specs.Index.{client_at, client_in}
use Rattle.kd_rows.proofs.Owned.{nth_none, nth_some}
use Rattle.kd_rows.proofs.index.nth_of.Goals as goal

pub returns-then-i-index_len : goal.returns-then-i-index_len
returns-then-i-index_len c = sym (nth_none _ _ _ _ _ c.requires.rise c.requires.indexed c.key_place-start.ensures (λ within. absurd (omega arith)))

pub returns-then-eq : goal.returns-then-eq
returns-then-eq c =
    let theirs = c.as_slice.ensures ∙ sym (ap client_in c.row_by_client-row.ensures.found) ∙ ap (client_at c.args.rows.now.rows) c.row_by_client-row.ensures.at in
    ap Some c.row_by_client-row.ensures.at
    ∙ sym (nth_some _ _ _ _ _ c.requires.rise c.requires.indexed c.key_place-start.ensures (omega arith) (ap (λ (x : List ℕ). pointwise nat_eq x c.args.client.now) (sym theirs) ∙ sym c.eq.ensures ∙ c.if-eq.true))

pub returns-else-eq : goal.returns-else-eq
returns-else-eq c =
    let theirs = c.as_slice.ensures ∙ sym (ap client_in c.row_by_client-row.ensures.found) ∙ ap (client_at c.args.rows.now.rows) c.row_by_client-row.ensures.at in
    sym (nth_none _ _ _ _ _ c.requires.rise c.requires.indexed c.key_place-start.ensures (λ within. ap (λ (x : List ℕ). pointwise nat_eq x c.args.client.now) (sym theirs) ∙ sym c.eq.ensures ∙ c.if-eq.false))
