use Rattle.std.proofs.Common.{suc, sym, ap, ◌∙◌, arith}
use Rattle.std.specs.Prelude.{slice_get}
use Rattle.kd_check.proofs.Segments.{item_found, item_missed}
use Rattle.kd_check.specs.Place.{an_item, members}
use Rattle.kd_check.proofs.place.find_item.Goals as goal

pub returns-in_err-rest-clause-named : goal.returns-in_err-rest-clause-named
returns-in_err-rest-clause-named c =
    rw c.from_residual.ensures
    (sym (item_missed c.args.content.now c.loop.rest.now c.loop.counter c.args.number (omega arith) c.in_err-rest.ensures.last c.loop.invariant.same))

pub loop-preserved : goal.loop-preserved
loop-preserved c = record {
  within = omega (arith, c.in_ok-rest.ensures.shorter);
  same = λ k. ap (λ t. slice_get t (suc k)) (sym c.in_ok-rest.ensures.next) ∙ c.loop.invariant.same (suc k) ∙ ap (slice_get (members c.args.content.now)) (omega arith);
}

pub returns-clause-named : goal.returns-clause-named
returns-clause-named c =
    c.item_in.ensures.named ∙ ap an_item c.skip_white.ensures.value
    ∙ sym (item_found c.args.content.now c.loop.rest.now c.loop.counter c.args.number (omega arith) c.loop.invariant.same)
