use Rattle.std.proofs.Common.{◌≡◌, ℕ, List, [], ◌∷◌, ◌++◌, sym, ap, ◌∙◌, arith}
use Rattle.std.proofs.lemmas.List.{append_assoc, append-nil}
use Rattle.kd_config.specs.declared.pool.Pool.{Pool}
use Rattle.kd_keys.proofs.PartByPart.{none_before, one_more}
use Rattle.kd_keys.specs.Parts.{first_parts, pool_part}
use Rattle.kd_keys.proofs.parts.push_parts.Goals as goal

pub loop-i-init : goal.loop-i-init
loop-i-init c =
    sym (ap (λ (xs : List Pool). c.args.out.now.items ++ xs) (none_before c.args.pool.now)
    ∙ append-nil c.args.out.now.items)

pub loop-i-preserved : goal.loop-i-preserved
loop-i-preserved c =
    let before : List Pool = c.args.out.now.items in
    let part : Pool = pool_part c.args.pool.now c.loop-i.i in
    c.in_ok-push.ensures.items
    ∙ ap (λ (p : Pool). c.loop-i.out.items ++ (p ∷ [])) c.in_ok-part.ensures
    ∙ ap (λ (xs : List Pool). xs ++ (part ∷ [])) c.loop-i.invariant
    ∙ append_assoc before (first_parts c.args.pool.now c.loop-i.i) (part ∷ [])
    ∙ ap (λ (xs : List Pool). before ++ xs) (sym (one_more c.args.pool.now c.loop-i.i))

pub returns : goal.returns
returns c =
    let end : c.loop-i.i ≡ c.args.count = omega (arith, c.loop-i-test.false, c.loop-i.auto.i-end) in
    c.loop-i.invariant
    ∙ ap (λ (n : ℕ). c.args.out.now.items ++ first_parts c.args.pool.now n) end
