use Rattle.std.proofs.Common.{◌≡◌, ◌<◌, ◌∷◌, false, true, sym, ap, ◌∙◌, arith, length, get_or, set, length-set}
use Rattle.std.specs.Prelude.{slice_get}
use Rattle.kd_wire.specs.Area.{Piece}
use Rattle.kd_options.specs.Relay.{firsts}
use Rattle.kd_options.proofs.SeenCodes.{unseen, unseen-none, unseen-met, unseen-new, slice_get-later, marks, marks-none, marks-set, marks-lt}
use Rattle.kd_options.proofs.relay.sub_option_at.Goals as goal

pub loop-code-init : goal.loop-code-init
loop-code-init c =
    let all = sym c.sub_options-code-items.ensures ∙ sym c.into_iter-code-iterator.ensures.into_iter_gives in (
      ap (λ x. slice_get (firsts x) c.args.index) all ∙ ap (λ x. slice_get x c.args.index) (sym (unseen-none _ (firsts c.into_iter-code-iterator.result) c.no_codes-seen.ensures.none)),
      c.no_codes-seen.ensures.len,
      omega (arith, marks-none _ c.no_codes-seen.ensures.none),
    )

pub loop-code-preserved-then-seen-from : goal.loop-code-preserved-then-seen-from
loop-code-preserved-then-seen-from c =
    let i = c.loop-code.invariant in
    let met : get_or c.loop-code.seen c.in-Some.code false ≡ true = ap (λ k. get_or c.loop-code.seen k false) (sym c.from.ensures) ∙ c.if-seen-from.true in (
      i.0 ∙ ap (λ x. slice_get (unseen c.loop-code.seen (firsts x)) c.loop-code.before) c.in-Some.ensures.steps ∙ ap (λ x. slice_get x c.loop-code.before) (unseen-met c.loop-code.seen _ _ met),
      i.1,
      i.2,
    )

pub loop-code-preserved : goal.loop-code-preserved
loop-code-preserved c =
    let i = c.loop-code.invariant in
    let p : Piece = (c.in-Some.code, c.in-Some.sub.now) in
    let new : get_or c.loop-code.seen c.in-Some.code false ≡ false = ap (λ k. get_or c.loop-code.seen k false) (sym c.from.ensures) ∙ c.if-seen-from.false in
    let within : c.in-Some.code < length c.loop-code.seen = grind (arith, i.1) in (
      i.0 ∙ ap (λ x. slice_get (unseen c.loop-code.seen (firsts x)) c.loop-code.before) c.in-Some.ensures.steps ∙ ap (λ x. slice_get x c.loop-code.before) (unseen-new c.loop-code.seen _ _ new within) ∙ ap (λ k. slice_get (p ∷ unseen (set c.loop-code.seen k true) (firsts c.next.new.self)) c.loop-code.before) (sym c.from-in-loop-code.ensures) ∙ slice_get-later p _ _ c.if-before-eq0.false,
      length-set c.loop-code.seen c.from-in-loop-code.result true ∙ i.1,
      (let more = ap (λ k. marks (set c.loop-code.seen k true)) c.from-in-loop-code.ensures ∙ marks-set c.loop-code.seen c.in-Some.code new within in omega (arith, more, i.2, c.if-before-eq0.false)),
    )

pub returns-then-before-eq0-clause-within : goal.returns-then-before-eq0-clause-within
returns-then-before-eq0-clause-within c = λ there.
    let i = c.loop-code.invariant in
    let new : get_or c.loop-code.seen c.in-Some.code false ≡ false = ap (λ k. get_or c.loop-code.seen k false) (sym c.from.ensures) ∙ c.if-seen-from.false in
    let within : c.in-Some.code < length c.loop-code.seen = grind (arith, i.1) in
    let fewer = marks-lt c.loop-code.seen c.in-Some.code new within in
    omega (arith, fewer, i.1, i.2, c.if-before-eq0.true)
