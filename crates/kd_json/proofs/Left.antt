-- Lists of values, read one after another.
use Rattle.std.proofs.Common.{◌≡◌, ℕ, ◌+◌, ◌<◌, List, [], ◌∷◌, ◌++◌, length, get_or, drop, Option, Some, None, ap, ◌∙◌}
use Rattle.kd_classes.specs.declared.option_list.OptionData.{OptionData}
use Rattle.kd_fields.proofs.Left.{value_at}
use Rattle.kd_json.specs.Options.{option_after, options_behind}
use Rattle.kd_wire.specs.Steps.{◌>>=◌}
use Rattle.serde_json.specs.View.{items_view, view}
use Rattle.serde_json.specs.declared.value.Value.{Value}

-- if an option is read after earlier ones, the rest decides
pub option_read : (values : List Value) (i : ℕ) (v : Value) (earlier : List OptionData)
    (option : OptionData) → i < length values → v ≡ get_or values i v
    → option_after earlier (view v) ≡ Some option
    → options_behind earlier (items_view (drop i values))
    ≡ options_behind (earlier ++ option ∷ []) (items_view (drop (i + 1) values))
option_read values i v earlier option below is e =
    value_at (options_behind earlier) values i v below is
    ∙ ap (λ (o : Option OptionData). o >>= λ option. options_behind (earlier ++ option ∷ [])
    (items_view (drop (i + 1) values))) e

-- if an option is refused, the list describes nothing
pub option_refused : (values : List Value) (i : ℕ) (v : Value) (earlier : List OptionData)
    → i < length values → v ≡ get_or values i v → option_after earlier (view v) ≡ None
    → options_behind earlier (items_view (drop i values)) ≡ None
option_refused values i v earlier below is e =
    value_at (options_behind earlier) values i v below is
    ∙ ap (λ (o : Option OptionData). o >>= λ option. options_behind (earlier ++ option ∷ [])
    (items_view (drop (i + 1) values))) e
