use Rattle.std.proofs.Common.{◌≡◌, ◌+◌, suc, refl, sym, ap, ◌∙◌, subst, drop, ◌∷◌, arith}
use Rattle.std.proofs.lemmas.List.{drop_more, drop_all}
use Rattle.kd_lease.specs.Valuing.{IsCodePlace}
use Rattle.kd_lease.proofs.values.Values.place_of.Goals as goal

pub loop-place-init : goal.loop-place-init
loop-place-init c = λ more at. let same : more ≡ 0 + more = omega arith in subst (IsCodePlace c.args.code c.args.self.now.list.items) same at

pub returns-then-index-code-clause-place : goal.returns-then-index-code-clause-place
returns-then-index-code-clause-place c =
    let list = c.args.self.now.list.items in
    let place = c.loop-place.place in
    let front = drop_more list place c.index.result.now (omega (arith, c.loop-place-test.true, c.len-place-end.ensures)) ∙ ap (λ x. x ∷ drop (place + 1) list) (sym c.index.ensures) in
    let same : place + 0 ≡ place = omega arith in
    subst (IsCodePlace c.args.code list) same (c.loop-place.invariant 0 (subst (λ xs. IsCodePlace c.args.code xs 0) (sym front) c.if-index-code.true))

pub loop-place-preserved : goal.loop-place-preserved
loop-place-preserved c = λ more at.
    let list = c.args.self.now.list.items in
    let place = c.loop-place.place in
    let front = drop_more list place c.index.result.now (omega (arith, c.loop-place-test.true, c.len-place-end.ensures)) ∙ ap (λ x. x ∷ drop (place + 1) list) (sym c.index.ensures) in
    let same : place + suc more ≡ place + 1 + more = omega arith in
    subst (IsCodePlace c.args.code list) same (c.loop-place.invariant (suc more) (subst (λ xs. IsCodePlace c.args.code xs (suc more)) (sym front) (c.if-index-code.false, at)))

pub returns-clause-place : goal.returns-clause-place
returns-clause-place c =
    let list = c.args.self.now.list.items in
    let none = drop_all c.loop-place.place list (omega (arith, c.loop-place-test.false, c.len-place-end.ensures)) in
    let same : c.loop-place.place + 0 ≡ c.len.result = omega (arith, c.loop-place.auto.place-end, c.loop-place-test.false, c.len.ensures, c.len-place-end.ensures) in
    subst (IsCodePlace c.args.code list) same (c.loop-place.invariant 0 (subst (λ xs. IsCodePlace c.args.code xs 0) (sym none) refl))
