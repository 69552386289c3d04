-- The options of a reservation, its host name among them, obey what all options obey.
use Rattle.std.proofs.Common.{◌≡◌, ℕ, ◌-◌, ◌≤◌, Bool, true, false, not, cond, nat_le, nat_eq, ◌==◌, List, [], ◌∷◌, length, take, codes, Option, Some, None, refl, subst, ap, ◌∙◌, arith}
use Rattle.std.proofs.lemmas.List.{length-map, length-take}
use Rattle.std.specs.Char.{to_ascii_lowercase}
use Rattle.std.specs.List.{AllByRecursion, ends_with, filter}
use Rattle.std.specs.Prelude.{◌||◌, if◌then◌else◌}
use borrow.Author.Tests.{leb-true}
use Rattle.kd_classes.specs.declared.option_list.OptionData.{OptionData}
use Rattle.kd_config.proofs.Tests.{both_passed, or_false, some_is}
use Rattle.kd_config.specs.Options.{code_among}
use Rattle.kd_config.specs.Sound.{AreOptions, HaveOwnCodes, IsOption}
use Rattle.kd_json.proofs.Came.{came_from, passed, passed_only}
use Rattle.kd_fields.specs.Values.{text_if_given}
use Rattle.kd_kea.proofs.Sounds.{options_sound}
use Rattle.kd_keys.specs.HostName.{host_name, host_options, is_host_name, may_be_named, name_by, name_code, sent_name, with_host_name, without_dot}
use Rattle.kd_keys.specs.Options.{kea_options}
use Rattle.kd_keys.specs.Values.{unless_empty}
use Rattle.kd_keys.specs.declared.definition.DefinedOption.{DefinedOption}
use Rattle.serde_json.specs.Data.{Data}
use Rattle.serde_json.specs.Find.{get}

-- ---- the name

fewer : (text : List ℕ) → length (without_dot text) ≤ length text
fewer text = by (ends_with nat_eq text (codes ".")) where
  by : (b : Bool) → length (if b then take (length text - 1) text else text) ≤ length text
  by true = omega (arith, length-take (length text - 1) text)
  by false = omega arith

sent_length : (text : List ℕ) → is_host_name text ≡ true → length (sent_name text) ≤ 255
sent_length text e =
    let both = both_passed (nat_le (length text) 255) (nat_le 1 (length (sent_name text))) e in
    omega (arith, fewer text, length-map (without_dot text) to_ascii_lowercase, leb-true (length text) 255 both.0)

-- a name, if there is one, has at most 255 bytes
abbrev FitsName : Option (List ℕ) → Type 0
FitsName None = Unit {0}
FitsName (Some name) = length name ≤ 255

by_sound : (text name : Option (List ℕ)) → name_by text ≡ Some name → FitsName name
by_sound None name e = subst FitsName (some_is None name e) tt
by_sound (Some text) name e =
    let test = passed_only (is_host_name text) (Some (sent_name text)) name e in
    subst FitsName test.1 (sent_length text test.0)

name_sound : (value : Option Data) (name : Option (List ℕ)) → host_name value ≡ Some name → FitsName name
unfolding host_name
name_sound value name e =
    let text = came_from (text_if_given value) _ name e in
    by_sound (unless_empty text.first) name text.gives

-- ---- the options that are not a host name

-- the options without a host name
abbrev unnamed : List OptionData → List OptionData
unnamed options = filter (λ option. not (option.code == name_code)) options

kept_apart : (b : Bool) (code : ℕ) (o : OptionData) (left : List OptionData) → (o.code == code) ≡ false → code_among code left ≡ false → code_among code (cond (not b) (o ∷ left) left) ≡ false
kept_apart true code o left h k = k
kept_apart false code o left h k = ap (λ (x : Bool). x || code_among code left) h ∙ k

unnamed_apart : (code : ℕ) (options : List OptionData) → code_among code options ≡ false → code_among code (unnamed options) ≡ false
unnamed_apart code [] e = refl
unnamed_apart code (o ∷ options) e =
    let h = or_false (o.code == code) (code_among code options) e in
    kept_apart (o.code == name_code) code o (unnamed options) h.0 (unnamed_apart code options h.1)

kept_own : (b : Bool) (o : OptionData) (left : List OptionData) → code_among o.code left ≡ false → HaveOwnCodes left → HaveOwnCodes (cond (not b) (o ∷ left) left)
kept_own true o left h k = k
kept_own false o left h k = (h, k)

unnamed_own : (options : List OptionData) → HaveOwnCodes options → HaveOwnCodes (unnamed options)
unnamed_own [] h = tt
unnamed_own (o ∷ options) h =
    kept_own (o.code == name_code) o (unnamed options) (unnamed_apart o.code options h.0) (unnamed_own options h.1)

kept_sound : (b : Bool) (o : OptionData) (left : List OptionData) → IsOption o → AllByRecursion IsOption left → AllByRecursion IsOption (cond (not b) (o ∷ left) left)
kept_sound true o left h k = k
kept_sound false o left h k = (h, k)

unnamed_sound : (options : List OptionData) → AllByRecursion IsOption options → AllByRecursion IsOption (unnamed options)
unnamed_sound [] h = tt
unnamed_sound (o ∷ options) h =
    kept_sound (o.code == name_code) o (unnamed options) h.0 (unnamed_sound options h.1)

-- none of them has the code of a host name
no_name : (b : Bool) (o : OptionData) (left : List OptionData) → (o.code == name_code) ≡ b → code_among name_code left ≡ false → code_among name_code (cond (not b) (o ∷ left) left) ≡ false
no_name true o left h k = k
no_name false o left h k = ap (λ (x : Bool). x || code_among name_code left) h ∙ k

unnamed_free : (options : List OptionData) → code_among name_code (unnamed options) ≡ false
unnamed_free [] = refl
unnamed_free (o ∷ options) =
    no_name (o.code == name_code) o (unnamed options) refl (unnamed_free options)

-- ---- all options of a reservation

named_sound : (name : Option (List ℕ)) (options : List OptionData) → FitsName name → AreOptions options → length (with_host_name name options) ≤ 64 → AreOptions (with_host_name name options)
named_sound None options fits h few = h
named_sound (Some name) options fits h few = record {
  few = few;
  each = (record { code = record { above = omega arith; below = omega arith }; free = refl; value = omega (arith, fits) }, unnamed_sound options h.each);
  own = (unnamed_free options, unnamed_own options h.own);
}

pub host_options_sound : (known : List DefinedOption) (bare : Bool) (d : Data) (options : List OptionData) → host_options known bare d ≡ Some options → AreOptions options
unfolding host_options
host_options_sound known bare d options e =
    let name = came_from (host_name (get (codes "hostname") d)) _ options e in
    let may = passed (may_be_named bare name.first) _ options name.gives in
    let own = came_from (kea_options false known (get (codes "option-data") d)) _ options may.1 in
    let few = passed_only (nat_le (length (with_host_name name.first own.first)) 64) (with_host_name name.first own.first) options own.gives in
    subst AreOptions few.1
    (named_sound name.first own.first (name_sound (get (codes "hostname") d) name.first name.is)
    (options_sound known (get (codes "option-data") d) own.first own.is)
    (leb-true (length (with_host_name name.first own.first)) 64 few.0))
