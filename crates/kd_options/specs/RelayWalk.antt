-- The sub-options of relay information, computed byte by byte. By the law `relay_list_is_standard`
-- they are those of the definition (`Relay.antt`), and by `one_relay_list` there is only one such
-- list.
use Rattle.std.specs.Prelude.{ℕ, zero, suc, Bool, true, false, List, [], ◌∷◌, Option, Some, None, if◌then◌else◌, take}
use Rattle.kd_wire.specs.Area.{Piece}
use Rattle.kd_options.specs.Joined.{value_of}

-- the sub-options in the bytes after the first `skip`
unfoldable pub subs_from : ℕ → List ℕ → List Piece
subs_from skip [] = []
subs_from (suc skip) (b ∷ bytes) = subs_from skip bytes
subs_from zero (code ∷ []) = []
subs_from zero (code ∷ n ∷ bytes) = (code, take n bytes) ∷ subs_from n bytes

-- whether there are at least `skip` bytes and no sub-option after them is cut off
unfoldable pub are_whole_from : ℕ → List ℕ → Bool
are_whole_from zero [] = true
are_whole_from (suc skip) [] = false
are_whole_from (suc skip) (b ∷ bytes) = are_whole_from skip bytes
are_whole_from zero (code ∷ []) = false
are_whole_from zero (code ∷ n ∷ bytes) = are_whole_from n bytes

-- the sub-options of a value, or none if one is cut off
abbrev pub sub_options_of : List ℕ → List Piece
sub_options_of value = if are_whole_from 0 value then subs_from 0 value else []

-- the sub-options of a value that may be absent
abbrev pub sub_options_in : Option (List ℕ) → List Piece
sub_options_in None = []
sub_options_in (Some value) = sub_options_of value

-- the sub-options of a message's option 82
abbrev pub relay_list : List Piece → List Piece
relay_list options = sub_options_in (value_of 82 options)
