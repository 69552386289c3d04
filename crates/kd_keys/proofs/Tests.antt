-- Plain values, as the code compares them.
use Rattle.std.proofs.Common.{◌≡◌, ℕ, Bool, true, false, List, [], ◌∷◌, length, Option, Some, refl, sym, ap, ◌∙◌, arith}
use Rattle.std.proofs.lemmas.Bool.Decides.{nat_tests}
use Rattle.std.specs.Prelude.{◌==◌, bytes_eq}
use Rattle.std.specs.Option.{option_map_or}
use Rattle.serde_json.specs.Data.{Data, null, boolean, number, string, array, object, Items, no_items, item}
use Rattle.serde_json.specs.View.{items_view}
use Rattle.serde_json.specs.declared.value.Value.{Value}
use Rattle.serde_json.specs.Find.{as_array, as_str}
use Rattle.kd_keys.specs.Keys.{is_plain, no_list, word}

pub word_is : (text : List ℕ) (d : Data) → is_plain (word text) d ≡ option_map_or (bytes_eq text) (as_str d) false
word_is text null = refl
word_is text (boolean b) = refl
word_is text (number n) = refl
word_is text (string s) = refl
word_is text (array ds) = refl
word_is text (object ms) = refl

-- a list has no items
abbrev pub is_empty_list : Items → Bool
is_empty_list no_items = true
is_empty_list (item d ds) = false

pub list_is : (d : Data) → is_plain no_list d ≡ option_map_or is_empty_list (as_array d) false
list_is null = refl
list_is (boolean b) = refl
list_is (number n) = refl
list_is (string s) = refl
list_is (array no_items) = refl
list_is (array (item d ds)) = refl
list_is (object ms) = refl

-- there are no items if there are no values
none_in : (values : List Value) → (length values == 0) ≡ is_empty_list (items_view values)
none_in [] = refl
none_in (v ∷ values) = grind (arith, nat_tests)

pub empty_list : (values : List Value) (d : Data) (b : Bool) → b ≡ (length values == 0) → Some (items_view values) ≡ as_array d → b ≡ is_plain no_list d
empty_list values d b e f =
    e ∙ none_in values ∙ sym (list_is d ∙ ap (λ (o : Option Items). option_map_or is_empty_list o false) (sym f))
