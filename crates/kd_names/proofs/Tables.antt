-- A lookup in lists of definitions, one after another.
use Rattle.std.proofs.Common.{◌≡◌, ◌∙◌, ℕ, refl, sym, ap, ap₂, List, ◌++◌, Option, Some, None, option_map}
use Rattle.std.specs.Prelude.{◌==◌, find}
use Rattle.std.specs.Option.{option_or}
use Rattle.std.proofs.lemmas.List.Folds.{find-append}
use Rattle.kd_names.specs.Table.{Definition, definition_in}
use Rattle.kd_names.specs.declared.kind.Kind.{Kind}

or_mapped : {A B : Type 0} (f : A → B) (x y : Option A) → option_map f (option_or x y) ≡ option_or (option_map f x) (option_map f y)
or_mapped f None y = refl
or_mapped f (Some a) y = refl

-- what the first list has for a code, or otherwise the second
in_both : (a b : List Definition) (code : ℕ) → option_or (definition_in a code) (definition_in b code) ≡ definition_in (a ++ b) code
in_both a b code =
    sym (ap (option_map (λ d. (d.1, d.2))) (find-append (λ d. d.0 == code) a b)
    ∙ or_mapped (λ d. (d.1, d.2)) (find (λ d. d.0 == code) a) (find (λ d. d.0 == code) b))

pub in_either : {A : Type 0} (f : A → List ℕ × Kind) (x y r : Option A) (a b : List Definition) (code : ℕ) → r ≡ option_or x y
    → option_map f x ≡ definition_in a code → option_map f y ≡ definition_in b code → option_map f r ≡ definition_in (a ++ b) code
in_either f x y r a b code is p q = ap (option_map f) is ∙ or_mapped f x y ∙ ap₂ option_or p q ∙ in_both a b code
