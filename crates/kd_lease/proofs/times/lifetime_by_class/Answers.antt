use Rattle.std.proofs.Common.{ap, sym, ◌∙◌, take, option_copied}
use Rattle.std.specs.Option.{option_or}
use Rattle.kd_lease.specs.Times.{class_lifetime}
use Rattle.kd_lease.proofs.Lifetimes.{more_lifetimes}
use Rattle.kd_lease.proofs.times.lifetime_by_class.Goals as goal

pub loop-i-preserved : goal.loop-i-preserved
loop-i-preserved c =
    let classes = c.args.classes.now in
    let names = c.args.names.now in
    let more = more_lifetimes classes names c.loop-i.i c.in-Some.class.now (sym c.def_at.ensures ∙ ap option_copied c.in-Some.is) in
    c.or-found.ensures
    ∙ ap (λ found. option_or found c.lifetime_of_class.result) c.loop-i.invariant
    ∙ ap (option_or (class_lifetime (take c.loop-i.i classes) names)) c.lifetime_of_class.ensures
    ∙ sym more
