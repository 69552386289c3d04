use Rattle.std.proofs.Common.{◌≡◌, ℕ, List, ◌++◌, Option, sym, ap, ◌∙◌, arith}
use Rattle.std.proofs.lemmas.List.{append_assoc, append-nil}
use Rattle.std.specs.List.{find}
use Rattle.kd_keys.proofs.Spaces.{below_more, none_below}
use Rattle.kd_keys.specs.Options.{inner_option, is_entry, options_below}
use Rattle.kd_keys.specs.declared.entry.OptionEntry.{OptionEntry}
use Rattle.kd_keys.proofs.inside.push_inside.Goals as goal

pub loop-code-init : goal.loop-code-init
loop-code-init c =
    sym (ap (λ (xs : List ℕ). c.args.out.now.items ++ xs) (none_below c.args.entries.now c.args.space.now)
    ∙ append-nil c.args.out.now.items)

pub loop-code-preserved : goal.loop-code-preserved
loop-code-preserved c =
    let more : List ℕ = inner_option (find (is_entry c.args.space.now c.loop-code.code) c.args.entries.now) in
    let below : List ℕ = options_below c.args.entries.now c.args.space.now c.loop-code.code in
    c.in_ok-push_option.ensures
    ∙ ap (λ (o : Option OptionEntry). c.loop-code.out.items ++ inner_option o) c.entry_with.ensures
    ∙ ap (λ (xs : List ℕ). xs ++ more) c.loop-code.invariant
    ∙ append_assoc c.args.out.now.items below more
    ∙ ap (λ (xs : List ℕ). c.args.out.now.items ++ xs) (sym (below_more c.args.entries.now c.args.space.now c.loop-code.code))

pub returns : goal.returns
returns c =
    let end : c.loop-code.code ≡ c.args.end = omega (arith, c.loop-code-test.false, c.loop-code.auto.code-end) in
    c.loop-code.invariant
    ∙ ap (λ (n : ℕ). c.args.out.now.items ++ options_below c.args.entries.now c.args.space.now n) end
