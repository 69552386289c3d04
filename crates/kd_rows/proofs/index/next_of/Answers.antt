use Rattle.std.proofs.Common.{ℕ, List, ap, arith, nat_eq, sym, ◌∙◌}
use Rattle.std.specs.Cmp.Lexicographic.{bytes_decides, pointwise}
use Rattle.std.proofs.lemmas.Bool.{false≢true}
use Rattle.kd_rows.specs.Index.{client_at, client_in}
use Rattle.kd_rows.proofs.Onward.{none_unless, next_there}
use Rattle.kd_rows.proofs.index.next_of.Goals as goal
use Rattle.kd_rows.proofs.index.next_of.Goals.{else-eq-via-then-eq+else-from-last, else-eq-via-else-eq}

pub returns-then-place-index_len : goal.returns-then-place-index_len
returns-then-place-index_len c = λ a row from to there. none_unless _ _ _ _ _ a row c.requires c.key_place-place.ensures from there (λ b. omega (arith, b.within))

pub returns-then-from-last : goal.returns-then-from-last
returns-then-from-last c =
    next_there _ _ _ _ c.args.last _ c.row_by_client-row.result.now c.requires c.key_place-place.ensures (omega (arith, c.key_place-place.ensures.in_range)) c.row_by_client-row.ensures.at c.row_by_client-row.ensures.found
    (ap (λ (x : List ℕ). pointwise nat_eq x c.args.client.now) (sym c.as_slice.ensures) ∙ sym c.eq.ensures ∙ c.if-eq.true) (omega arith)

pub returns-else-eq : goal.returns-else-eq
returns-else-eq c = λ a row from to there. none_unless _ _ _ _ _ a row c.requires c.key_place-place.ensures from there
    (λ b. elim c.else-eq.branch [
      | else-eq-via-then-eq+else-from-last w ↦ let h = b.least in omega (arith, c.row_by_client-row.ensures.at, w.from.ensures)
      | else-eq-via-else-eq w ↦
          let theirs = c.as_slice.ensures ∙ sym (ap client_in c.row_by_client-row.ensures.found) ∙ ap (client_at c.args.rows.now.rows) c.row_by_client-row.ensures.at ∙ b.owner in
          false≢true (sym w.if-eq.false ∙ c.eq.ensures ∙ (bytes_decides c.as_slice.result.now c.args.client.now).1 theirs)
    ])
