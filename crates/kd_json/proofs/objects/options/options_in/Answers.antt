use Rattle.std.proofs.Common.{◌≡◌, Some, None, subst, ◌∙◌, arith}
use Rattle.std.proofs.lemmas.Result.{err_from_is_err_and}
use Rattle.kd_json.proofs.Left.{option_read, option_refused}
use Rattle.serde_json.specs.View.{view}
use Rattle.kd_json.specs.Options.{option_after}
use Rattle.kd_json.proofs.objects.options.options_in.Goals as goal

pub loop-i-preserved : goal.loop-i-preserved
loop-i-preserved c =
    let at = c.loop-i in
    let this = c.index-values-i in
    let made = c.in_ok-option in
    rw c.in_ok-push.ensures.items
    (at.invariant ∙ option_read c.args.values.now at.i this.result at.list.items made.option
    (omega arith) this.is
    (subst (λ earlier. option_after earlier (view this.result) ≡ Some made.option)
    c.deref.ensures.value made.ensures))

pub returns-in_err-option : goal.returns-in_err-option
returns-in_err-option c =
    let at = c.loop-i in
    let this = c.index-values-i in
    let p = err_from_is_err_and c.from_residual.result c.from_residual.ensures.1 in
    rw (p.1, p.2)
    (λ other. at.invariant ∙ option_refused c.args.values.now at.i this.result at.list.items
    (omega arith) this.is
    (subst (λ earlier. option_after earlier (view this.result) ≡ None) c.deref.ensures.value
    (c.in_err-option.ensures other)))
