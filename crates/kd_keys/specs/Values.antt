-- Values in a configuration of Kea's that may be absent.
use Rattle.std.specs.Prelude.{ℕ, ◌==◌, Bool, true, false, not, ◌&&◌, ◌||◌, List, [], ◌∷◌, Option, Some, None, if◌then◌else◌}
use Rattle.serde_json.specs.Data.{Data, Items, no_items, item, string}
use Rattle.serde_json.specs.Find.{as_bool, as_str}
use Rattle.kd_keys.specs.Keys.{Plain, is_plain}

-- a value is absent, or this plain one
abbrev pub is_plain_if_given : Plain → Option Data → Bool
is_plain_if_given plain None = true
is_plain_if_given plain (Some d) = is_plain plain d

-- a truth value; an absent one is false
abbrev pub flag_given : Option Data → Option Bool
flag_given None = Some false
flag_given (Some d) = as_bool d

-- a truth value; an absent one is another
abbrev pub flag_or : Bool → Option Data → Option Bool
flag_or other None = Some other
flag_or other (Some d) = as_bool d

-- a text; an absent one is another text
abbrev pub text_otherwise : List ℕ → Option Data → Option (List ℕ)
text_otherwise other None = Some other
text_otherwise other (Some d) = as_str d

-- a sign between bytes in hexadecimal
abbrev pub is_between_bytes : ℕ → Bool
is_between_bytes b = b == 58 || b == 32

-- hexadecimal text has both digits of each byte side by side: between bytes there may be colons and
-- spaces. In Kea a digit that stands alone is a byte
unfoldable pub has_whole_bytes : List ℕ → Bool
has_whole_bytes [] = true
has_whole_bytes (a ∷ []) = is_between_bytes a
has_whole_bytes (a ∷ b ∷ text) =
    if is_between_bytes a then has_whole_bytes (b ∷ text)
    else not (is_between_bytes b) && has_whole_bytes text

-- a value, if it is a text, has whole bytes
abbrev pub is_whole_text : Data → Bool
is_whole_text (string text) = has_whole_bytes text
is_whole_text d = true

-- a text, unless it is empty
abbrev pub unless_empty : Option (List ℕ) → Option (List ℕ)
unless_empty None = None
unless_empty (Some []) = None
unless_empty (Some (b ∷ text)) = Some (b ∷ text)

-- an item of a list is this plain value
abbrev pub has_plain : Plain → Items → Bool
has_plain plain no_items = false
has_plain plain (item d ds) = is_plain plain d || has_plain plain ds
