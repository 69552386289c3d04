use Rattle.std.proofs.Common.{◌||◌, not, ap, sym, ◌∙◌, take, option_copied, arith}
use Rattle.std.specs.List.{list_any}
use Rattle.std.proofs.lemmas.List.{take_all}
use Rattle.kd_config.specs.Booted.{class_gives_boot}
use Rattle.kd_config.proofs.Without.{any_of_more}
use Rattle.kd_config.proofs.config.has_class_boot.Goals as goal
use Rattle.kd_config.proofs.config.has_class_boot.Goals.{then-found, else-found}

pub loop-i-preserved : goal.loop-i-preserved
loop-i-preserved c =
    let class = c.in-Some.class.now in
    let more = any_of_more class_gives_boot c.args.classes.now c.loop-i.i class (sym c.def_at.ensures ∙ ap option_copied c.in-Some.is) in
    elim c.if-found.branch [
      | then-found w ↦ w.found-is ∙ w.if-found.true ∙ sym (more ∙ ap (λ b. b || class_gives_boot class) (sym c.loop-i.invariant ∙ w.if-found.true))
      | else-found w ↦ w.found-is ∙ ap not w.is_none.ensures.same ∙ sym (more ∙ ap (λ b. b || class_gives_boot class) (sym c.loop-i.invariant ∙ w.if-found.false))
    ]

pub returns : goal.returns
returns c =
    c.loop-i.invariant ∙ ap (list_any class_gives_boot) (take_all c.loop-i.i c.args.classes.now (omega (arith, c.len-i-end.ensures.count)))
