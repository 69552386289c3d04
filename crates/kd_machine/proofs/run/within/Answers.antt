use Rattle.std.proofs.Common.{rules, ◌≡◌, ◌∙◌, ℕ, List, length, Some, refl, sym, ap, subst, arith}
use Rattle.std.specs.Prelude.{slice_get}
use Rattle.std.proofs.lemmas.Option.{slice_get_read}
use Rattle.kd_token.specs.File.{HasFile}
use Rattle.kd_machine.specs.World.{world}
use Rattle.kd_machine.specs.Run.{moves, Reached}
use Rattle.kd_machine.specs.Val.{Val}
use Rattle.kd_machine.proofs.Ending.{has_room, running_first, running_next}
use Rattle.kd_machine.proofs.run.within.Goals as goal

abbrev reached : ℕ → List Val → ℕ → ℕ → Reached
reached at stack depth length = record { spot = record { at = at; stack = stack }; peak_depth = depth; peak_length = length }

pub tokens-init : goal.tokens-init
tokens-init g c = rw c.requires.empty (running_first c.args.verified.now c.args.message.now c.args.held.now c.program-program.ensures.accepted)

pub advance-requires : goal.advance-requires
advance-requires g c =
    let same = c.program-program.ensures.program in
    let stand = c.tokens_stand.ensures c.args.verified.now (subst HasFile same c.tokens-tokens.ensures.limits) in
    let sizes = c.messages_have_sizes.ensures c.args.message.now c.len-size.ensures.message in
    let list = c.tokens-tokens.ensures.tokens ∙ ap (λ p. p.tokens) same in
    let there : slice_get c.args.verified.now.tokens c.tokens.at ≡ Some c.index-tokens-at.result =
    ap (λ xs. slice_get xs c.tokens.at) (sym list) ∙ slice_get_read c.tokens-tokens.result.now (length c.tokens-tokens.result.now) c.tokens.at c.index-tokens-at.result refl c.tokens-test.true c.index-tokens-at.is in
    (search rules, (search rules, rw same (has_room g.row.ROOM c.args.verified.now c.args.message.now c.args.held.now c.tokens.steps (reached c.tokens.at c.tokens.stack c.tokens.peak_depth c.tokens.peak_length) c.index-tokens-at.result c.requires.room stand sizes c.tokens.invariant there)))

pub overflow_add-steps : goal.overflow_add-steps
overflow_add-steps g c =
    let few = c.tokens-tokens.ensures.limits.few_tokens in
    let size = ap length c.tokens-tokens.ensures.tokens in
    omega (arith, few, size, c.tokens-test.true, c.tokens.invariant.forward)

pub tokens-preserved : goal.tokens-preserved
tokens-preserved g c =
    let same = c.program-program.ensures.program in
    let stand = c.tokens_stand.ensures c.args.verified.now (subst HasFile same c.tokens-tokens.ensures.limits) in
    let sizes = c.messages_have_sizes.ensures c.args.message.now c.len-size.ensures.message in
    let list = c.tokens-tokens.ensures.tokens ∙ ap (λ p. p.tokens) same in
    let there : slice_get c.args.verified.now.tokens c.tokens.at ≡ Some c.index-tokens-at.result =
    ap (λ xs. slice_get xs c.tokens.at) (sym list) ∙ slice_get_read c.tokens-tokens.result.now (length c.tokens-tokens.result.now) c.tokens.at c.index-tokens-at.result refl c.tokens-test.true c.index-tokens-at.is in
    let moved = ap (λ p. moves (world p c.args.message.now c.args.held.now) c.index-tokens-at.result c.tokens.at c.tokens.stack) (sym same) ∙ c.in_ok-at.ensures.moved in
    rw (c.max-peak_depth.ensures, c.len.ensures, c.max-peak_length.ensures, c.top_size.ensures) (running_next c.args.verified.now c.args.message.now c.args.held.now c.tokens.steps (reached c.tokens.at c.tokens.stack c.tokens.peak_depth c.tokens.peak_length) c.index-tokens-at.result (record { at = c.in_ok-at.at; stack = c.advance.new.stack }) stand sizes c.tokens.invariant there moved)
