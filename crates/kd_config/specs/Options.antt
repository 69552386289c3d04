-- The codes of options (RFC 2132) that a configuration has.
use Rattle.std.specs.Prelude.{ℕ, Bool, ◌==◌, List, [], ◌∷◌}
use Rattle.std.specs.List.{list_any}
use Rattle.kd_classes.specs.declared.option_list.OptionData.{OptionData}

-- the codes of the options that the server generates itself
abbrev pub own_codes : List ℕ
own_codes = 50 ∷ 51 ∷ 52 ∷ 53 ∷ 54 ∷ 55 ∷ 57 ∷ 58 ∷ 59 ∷ 61 ∷ 82 ∷ []

-- one of these options has the code
abbrev pub code_among : ℕ → List OptionData → Bool
code_among code options = list_any (λ option. option.code == code) options
