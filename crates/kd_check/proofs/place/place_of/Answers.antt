use Rattle.std.proofs.Common.{◌≡◌, Some, sym, ap, ◌∙◌}
use Rattle.kd_check.proofs.Ends.{place_holds}
use Rattle.kd_check.specs.Place.{named_in}
use Rattle.kd_check.proofs.place.place_of.Goals as goal

pub returns-clause-named : goal.returns-clause-named
returns-clause-named c =
    let text = c.args.text.now in
    let rest = c.in_ok-rest.rest.now in
    let is : named_in text c.args.path.now ≡ Some rest = ap (named_in text) (sym c.as_bytes.ensures.value) ∙ sym c.in_ok-rest.ensures.named in
    ap Some (place_holds text c.args.path.now rest is c.in_ok-rest.ensures.some) ∙ sym is
