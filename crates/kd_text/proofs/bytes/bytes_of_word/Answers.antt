use Rattle.std.proofs.Common.{◌≡◌, sym, ap, ◌∙◌, rules, Some}
use Rattle.std.specs.Prelude.{codes}
use Rattle.kd_text.proofs.Fields.{dash_is_none, decoded, found_as_decoded}
use Rattle.kd_text.proofs.bytes.bytes_of_word.Goals as goal

pub returns-then-eq-clause-only : goal.returns-then-eq-clause-only
returns-then-eq-clause-only c = λ bytes are is.
    let dash : c.args.word.now ≡ codes "-" = search rules in
    let none = dash_is_none bytes (sym is ∙ dash) in
    ap Some (c.own.ensures ∙ c.new.ensures.items ∙ sym none)

pub returns-clause-only : goal.returns-clause-only
returns-clause-only c = λ bytes are is.
    let other : c.args.word.now ≡ codes "-" → ⊥ = search rules in
    found_as_decoded bytes c.args.word.now c.bytes_of_hex.result (decoded bytes c.args.word.now are is other) c.bytes_of_hex.ensures.found
