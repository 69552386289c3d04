-- Values in a JSON text: objects with known keys, numbers, texts and lists.
use Rattle.std.specs.Prelude.{ℕ, Bool, true, false, ◌&&◌, nat_le, bytes_eq, List, length, Option, Some, None, is_some, option_and_then, option_map}
use Rattle.std.specs.List.{list_all, list_any}
use Rattle.serde_json.specs.Data.{Data, Members, no_members, member}
use Rattle.serde_json.specs.Find.{get, as_number, as_object, as_str, as_u64}
use Rattle.kd_fields.specs.Address as address
use Rattle.kd_fields.specs.HexText as hex
use Rattle.kd_wire.specs.Steps.{◌>>=◌}
use Rattle.kd_fields.specs.Steps.{only_if}

-- a key is one of these
abbrev pub is_key : List (List ℕ) → List ℕ → Bool
is_key known key = list_any (bytes_eq key) known

-- the key of every member is one of these
abbrev pub are_known : List (List ℕ) → Members → Bool
are_known known no_members = true
are_known known (member key d ms) = is_key known key && are_known known ms

-- a value is an object with only known keys
abbrev pub is_object_of : List (List ℕ) → Option Members → Bool
is_object_of known None = false
is_object_of known (Some members) = are_known known members

-- a value is an object with all of the required keys and only known ones
unfoldable pub has_keys : List (List ℕ) → List (List ℕ) → Data → Bool
has_keys known required d =
    is_object_of known (as_object d) && list_all (λ key. is_some (get key d)) required

-- a whole number in a range
unfoldable pub number_within : ℕ → ℕ → Data → Option ℕ
number_within least most d = do
  n ← option_and_then as_u64 (as_number d)
  only_if (nat_le least n && nat_le n most) n

-- a whole number in a range, or a default if there is no value
abbrev pub number_if_given : ℕ → ℕ → ℕ → Option Data → Option ℕ
number_if_given least most default None = Some default
number_if_given least most default (Some d) = number_within least most d

-- the text of a value, or none if there is no value
abbrev pub text_if_given : Option Data → Option (Option (List ℕ))
text_if_given None = Some None
text_if_given (Some d) = option_map Some (as_str d)

-- an address
unfoldable pub address_given : Data → Option ℕ
address_given d = as_str d >>= address.address_spelled

-- the bytes of a hexadecimal text, from `least` to `most` of them
unfoldable pub hex_bytes_in : ℕ → ℕ → Data → Option (List ℕ)
hex_bytes_in least most d = do
  bytes ← as_str d >>= hex.bytes_spelled
  only_if (nat_le least (length bytes) && nat_le (length bytes) most) bytes

-- the bytes of a hexadecimal text, or none if there is no value
abbrev pub bytes_if_given : ℕ → ℕ → Option Data → Option (Option (List ℕ))
bytes_if_given least most None = Some None
bytes_if_given least most (Some d) = option_map Some (hex_bytes_in least most d)

-- the name of a class: 1 to 255 bytes
unfoldable pub class_name_in : Data → Option (List ℕ)
class_name_in d = do
  name ← as_str d
  only_if (nat_le 1 (length name) && nat_le (length name) 255) name
