-- What is done with the keys of an object in a configuration of Kea's (our own format): a key is
-- read, or skipped because no client notices it, or may only have a value that asks for what is
-- done anyway. No other key and no other value is allowed.
use Rattle.std.specs.Prelude.{ℕ, Float, ◌==◌, nat_eq, Bool, true, false, ◌&&◌, List, codes, bytes_eq, Option, Some, None, if◌then◌else◌}
use Rattle.std.specs.Bool.{beq}
use Rattle.std.specs.List.{list_any, starts_with}
use Rattle.std.specs.Map.{lookup}
use Rattle.serde_json.specs.Data.{Data, boolean, number, string, array, unsigned, no_items, Members, no_members, member}
use Rattle.serde_json.specs.Find.{as_object, get, to_float}
use Rattle.std.specs.Float.Ieee.{eq}

-- a value with nothing in it that could be left out
pub data Plain : Type 0 where
  -- a truth value
  flag : Bool → Plain
  -- a whole number
  whole : ℕ → Plain
  -- a number with a fraction
  fraction : Float → Plain
  -- a text
  word : List ℕ → Plain
  -- an empty list
  no_list : Plain

-- a value is this plain one
abbrev pub is_plain : Plain → Data → Bool
is_plain (flag a) (boolean b) = beq a b
is_plain (whole n) (number (unsigned m)) = n == m
is_plain (fraction x) (number n) = eq x (to_float n)
is_plain (word text) (string other) = bytes_eq text other
is_plain no_list (array no_items) = true
is_plain _ _ = false

-- what is done with a key
pub data KeyUse : Type 0 where
  -- its value is read
  served : KeyUse
  -- it is skipped, whatever its value: no client notices it
  skipped : KeyUse
  -- its value must be one of these, and is not read: they ask for what is done anyway
  usual : List Plain → KeyUse

-- what is done with a key, if it is allowed: keys of DNS updates are skipped everywhere
abbrev pub key_use : List (List ℕ × KeyUse) → List ℕ → Option KeyUse
key_use table key =
    if starts_with nat_eq key (codes "ddns-") then Some skipped else lookup (bytes_eq key) table

-- a key with this use may have a value
abbrev pub allows_value : Option KeyUse → Option Data → Bool
allows_value None value = false
allows_value (Some served) value = true
allows_value (Some skipped) value = true
allows_value (Some (usual values)) None = false
allows_value (Some (usual values)) (Some d) = list_any (λ plain. is_plain plain d) values

-- each key of the members passes a test
abbrev pub each_key : (List ℕ → Bool) → Members → Bool
each_key test no_members = true
each_key test (member key d ms) = test key && each_key test ms

-- there are members, and each key of them passes a test
abbrev pub has_only_keys : (List ℕ → Bool) → Option Members → Bool
has_only_keys test None = false
has_only_keys test (Some members) = each_key test members

-- a value is an object of a kind: each key of it may have its value, by the kind's table
unfoldable pub keys_are_read : List (List ℕ × KeyUse) → Data → Bool
keys_are_read table d =
    has_only_keys (λ key. allows_value (key_use table key) (get key d)) (as_object d)
