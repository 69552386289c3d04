use Rattle.std.proofs.Common.{◌≡◌, ◌≢◌, ℕ, ◌⊎◌, ◌≤◌, ◌++◌, ◌∷◌, [], inl, inr, refl, sym, subst, arith}
use Rattle.std.proofs.lemmas.Option.{slice_get_within}
use Rattle.kd_classes.specs.declared.option_list.OptionData.{OptionData}
use Rattle.kd_lease.specs.Valuing.{HasValues}
use Rattle.kd_wire.specs.Area.{IsCode}
use Rattle.kd_lease.specs.declared.values.Coded.{Coded}
use Rattle.kd_lease.proofs.Valuing.{put_known, put_new, put_none}
use Rattle.kd_lease.proofs.values.Values.put.Goals as goal

no_code : (code k : ℕ) → (code ≡ 0) ⊎ (255 ≤ code) → IsCode k → code ≢ k
no_code code k (inl zero) is eq = omega (arith, zero, is.0, eq)
no_code code k (inr high) is eq = omega (arith, high, is.1, eq)

pub returns-then-code-eq0 : goal.returns-then-code-eq0
returns-then-code-eq0 c = λ options h.
    put_none c.args.self.now.list.items options (record { code = c.args.code; value = c.args.value.now; always = c.args.always }) (λ k is. no_code c.args.code k (which c.then-code-eq0.either) is) h where
      which : (c.args.code ≡ 0) ⊎ ((c.args.code ≢ 0) × (c.args.code ≡ 255)) → (c.args.code ≡ 0) ⊎ (255 ≤ c.args.code)
      which (inl zero) = inl zero
      which (inr last) = inr (omega (arith, last.1))

pub mark-requires : goal.mark-requires
mark-requires c =
    let there = c.has_at.ensures.there c.if-has_at.true in
    slice_get_within c.args.self.now.list.items c.place_of-place.result there.0 there.1

pub returns-then-has_at : goal.returns-then-has_at
returns-then-has_at c = λ options h.
    let there = c.has_at.ensures.there c.if-has_at.true in
    let option : OptionData = record { code = c.args.code; value = c.args.value.now; always = c.args.always } in
    let is : IsCode c.args.code = (omega (arith, c.if-code-eq0.false), omega (arith, c.if-code-eq255.false, c.ranges.code.fits)) in
    subst
    (λ items. HasValues items (options ++ option ∷ []))
    (sym c.mark.ensures)
    (put_known c.place_of-place.result c.args.self.now.list.items there.0 options option there.1 there.2 is h)

pub insert-requires : goal.insert-requires
insert-requires c = c.place_of-place.ensures.within

pub returns : goal.returns
returns c = λ options h.
    let list = c.args.self.now.list.items in
    let place = c.place_of-place.result in
    let entry : Coded = record { code = c.args.code; value = c.args.value; always = c.args.always } in
    let is : IsCode c.args.code = (omega (arith, c.if-code-eq0.false), omega (arith, c.if-code-eq255.false, c.ranges.code.fits)) in
    subst
    (λ items. HasValues items (options ++ record { code = c.args.code; value = c.args.value.now; always = c.args.always } ∷ []))
    (sym c.in_ok-insert.ensures.items)
    (put_new place list entry options (record { code = c.args.code; value = c.args.value.now; always = c.args.always }) refl refl refl is c.place_of-place.ensures.place (c.has_at.ensures.next c.if-has_at.false) h)
