use Rattle.std.proofs.Common.{◌≡◌, ◌++◌, ◌∷◌, [], ap, sym, ◌∙◌, subst, take, option_copied, append_assoc, arith}
use Rattle.std.proofs.lemmas.List.{take_all}
use Rattle.kd_lease.specs.Given.{class_options}
use Rattle.kd_lease.specs.Valuing.{HasValues}
use Rattle.kd_lease.proofs.Giving.{more_classes}
use Rattle.kd_lease.proofs.given.put_class_options.Goals as goal

pub loop-i-preserved : goal.loop-i-preserved
loop-i-preserved c = λ before h.
    let classes = c.args.classes.now in
    let names = c.args.names.now in
    let done = class_options (take c.loop-i.i classes) names in
    let one = class_options (c.in-Some.class.now ∷ []) names in
    let more = more_classes classes names c.loop-i.i c.in-Some.class.now (sym c.def_at.ensures ∙ ap option_copied c.in-Some.is) in
    subst
    (λ options. HasValues c.put_options_of.new.values.list.items options)
    (append_assoc before done one ∙ ap (λ options. before ++ options) (sym more))
    (c.in_ok-put_options_of-in-Some.ensures (before ++ done) (c.loop-i.invariant before h))

pub returns : goal.returns
returns c = λ before h.
    let classes = c.args.classes.now in
    let all : take c.loop-i.i classes ≡ classes = take_all c.loop-i.i classes (omega (arith, c.len-i-end.ensures.count)) in
    subst (λ options. HasValues c.loop-i.values.list.items options) (ap (λ cs. before ++ class_options cs c.args.names.now) all) (c.loop-i.invariant before h)
