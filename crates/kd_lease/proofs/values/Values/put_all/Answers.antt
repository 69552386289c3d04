use Rattle.std.proofs.Common.{◌≡◌, ◌+◌, ◌++◌, ◌∷◌, [], ap, sym, ◌∙◌, subst, take, append_assoc}
use Rattle.std.proofs.lemmas.List.{take_all, take_more}
use Rattle.kd_classes.specs.declared.option_list.OptionData.{OptionData}
use Rattle.kd_lease.specs.Valuing.{HasValues}
use Rattle.kd_lease.proofs.values.Values.put_all.Goals as goal

pub loop-option-preserved : goal.loop-option-preserved
loop-option-preserved c = λ before h.
    let options = c.args.options.now in
    let i = c.loop-option.option-index in
    let option = c.option-item.result in
    let given : OptionData = record { code = option.code; value = c.as_slice.result.now; always = option.always } in
    let same : given ≡ option = ap (λ value. record { code = option.code; value = value; always = option.always }) c.as_slice.ensures in
    let more : take (i + 1) options ≡ take i options ++ option ∷ [] =
    take_more options i option c.loop-option-test.true ∙ ap (λ o. take i options ++ o ∷ []) (sym c.option-item.is) in
    subst
    (λ all. HasValues c.put.new.self.list.items all)
    (ap (λ o. before ++ take i options ++ o ∷ []) same ∙ append_assoc before (take i options) (option ∷ []) ∙ ap (λ all. before ++ all) (sym more))
    (c.in_ok-put.ensures (before ++ take i options) (c.loop-option.invariant before h))

pub returns : goal.returns
returns c = λ before h.
    subst
    (λ all. HasValues c.loop-option.self.list.items (before ++ all))
    (take_all c.loop-option.option-index c.args.options.now c.loop-option-test.false)
    (c.loop-option.invariant before h)
