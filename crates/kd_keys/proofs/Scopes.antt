-- Definitions of a class, and then those of the whole server.
use Rattle.std.proofs.Common.{◌≡◌, Bool, List, ◌++◌, Option, Some, None, sym, ap, ◌∙◌}
use Rattle.std.proofs.lemmas.List.Folds.{find-append}
use Rattle.std.specs.List.{find}
use Rattle.std.specs.Option.{option_or}
use Rattle.kd_keys.specs.declared.definition.DefinedOption.{DefinedOption}

-- the definition is among the first ones
pub found_first : (test : DefinedOption → Bool) (own shared : List DefinedOption) (it : DefinedOption) → Some it ≡ find test own → Some it ≡ find test (own ++ shared)
found_first test own shared it e =
    ap (λ (o : Option DefinedOption). option_or o (find test shared)) e ∙ sym (find-append test own shared)

-- the definition is among the later ones, if anywhere
pub found_later : (test : DefinedOption → Bool) (own shared : List DefinedOption) (o : Option DefinedOption) → None ≡ find test own → o ≡ find test shared → o ≡ find test (own ++ shared)
found_later test own shared o e f =
    f ∙ ap (λ (p : Option DefinedOption). option_or p (find test shared)) e ∙ sym (find-append test own shared)
