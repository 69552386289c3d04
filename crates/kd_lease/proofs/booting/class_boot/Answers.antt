use Rattle.std.proofs.Common.{ap, sym, ◌∙◌, take, option_copied}
use Rattle.kd_classes.specs.Boot.{boot_or, first_boot}
use Rattle.kd_lease.specs.Booting.{class_boots}
use Rattle.kd_lease.proofs.Boots.{more_boots}
use Rattle.kd_lease.proofs.booting.class_boot.Goals as goal

pub loop-i-preserved : goal.loop-i-preserved
loop-i-preserved c =
    let classes = c.args.classes.now in
    let names = c.args.names.now in
    let more = more_boots classes names c.loop-i.i c.in-Some.class.now (sym c.def_at.ensures ∙ ap option_copied c.in-Some.is) in
    c.or-found.ensures
    ∙ ap (λ found. boot_or found c.boot_of_class.result) c.loop-i.invariant
    ∙ ap (boot_or (first_boot (class_boots (take c.loop-i.i classes) names))) c.boot_of_class.ensures
    ∙ sym more
