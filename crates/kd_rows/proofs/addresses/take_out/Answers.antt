use Rattle.std.proofs.Common.{◌≡◌, ◌&&◌, ◌==◌, List, ap, arith, get_or, length, not, subst, sym, ℕ, ◌∙◌}
use Rattle.std.proofs.lemmas.Bool.{le-ltb, ne_eqb}
use Rattle.std.proofs.lemmas.List.{get_or_default}
use Rattle.kd_rows.specs.Index.{IsPlace}
use Rattle.kd_rows.specs.Open.{address_rows}
use Rattle.kd_rows.specs.Table.{Rise}
use Rattle.kd_rows.specs.Withheld.{is_withheld}
use Rattle.kd_rows.proofs.Listed.{listed_at, listed_past, listed_remove, listed_without, rise_remove}
use Rattle.kd_rows.proofs.addresses.take_out.Goals as goal
use Rattle.kd_rows.proofs.addresses.take_out.Goals.{else-place-len-via-then-place-len+else-index-address, else-place-len-via-else-place-len}

pub returns-then-index-address-clause-rise : goal.returns-then-index-address-clause-rise
returns-then-index-address-clause-rise c =
    subst (λ (xs : List ℕ). Rise (address_rows xs)) (sym c.remove.ensures.items) (rise_remove 0 c.args.addresses.now.items c.place_in-place.result (omega arith) c.requires)

pub returns-then-index-address-clause-others : goal.returns-then-index-address-clause-others
returns-then-index-address-clause-others c = λ a.
    let xs = c.args.addresses.now.items in
    let place = c.place_in-place.result in
    let here : get_or xs place 0 ≡ c.args.address = get_or_default xs place 0 c.index.result.now (omega arith) ∙ sym c.index.ensures ∙ c.if-index-address.true in
    ap (λ (ys : List ℕ). is_withheld ys a) c.remove.ensures.items ∙ listed_remove 0 xs place a (omega arith) c.requires ∙ ap (λ (n : ℕ). not (n == a) && is_withheld xs a) here

pub returns-else-place-len-clause-others : goal.returns-else-place-len-clause-others
returns-else-place-len-clause-others c = λ a.
    let xs = c.args.addresses.now.items in
    let place = c.place_in-place.result in
    let at : IsPlace (address_rows xs) c.args.address place = subst (λ (ys : List ℕ). IsPlace (address_rows ys) c.args.address place) c.as_slice.ensures.value c.place_in-place.ensures in
    listed_without xs c.args.address a
    (elim c.else-place-len.branch [
      | else-place-len-via-then-place-len+else-index-address w ↦ listed_at xs c.args.address place c.requires at (omega arith) ∙ ne_eqb (get_or xs place 0) c.args.address (λ e. w.if-index-address.false (w.index.ensures ∙ get_or_default xs place w.index.result.now 0 (omega arith) ∙ e))
      | else-place-len-via-else-place-len w ↦ listed_past xs c.args.address place c.requires at (omega arith) ∙ le-ltb place (length xs) (omega arith)
    ])
