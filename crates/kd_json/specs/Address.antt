-- The texts of addresses: an IPv4 address as a number, a prefix `address/length`, and a pool, which
-- is `first - last` or a prefix.
use Rattle.std.specs.Prelude.{ℕ, ◌+◌, ◌-◌, ◌*◌, ◌&&◌, ◌==◌, nat_le, if◌then◌else◌, List, [], ◌∷◌, reverse, Option, Some, None, option_map, option_and_then}
use Rattle.kd_config.specs.Address.{network_address, prefix_size}
use Rattle.kd_config.specs.declared.prefix.Prefix.{Prefix}
use Rattle.kd_config.specs.declared.range.Range.{Range}
use Rattle.kd_expr.specs.Address.{a_digit}
use Rattle.kd_expr.specs.Lexing as lexing
use Rattle.kd_expr.specs.Lexing.{behind_of}
use Rattle.kd_fields.specs.Address.{address_spelled}
use Rattle.kd_wire.specs.Steps.{◌>>=◌}

-- the texts before and after the first occurrence of a byte
abbrev pub parts_at : ℕ → List ℕ → Option (List ℕ × List ℕ)
parts_at b [] = None
parts_at b (c ∷ text) =
    if c == b then Some ([], text) else option_map (λ x. (c ∷ x.0, x.1)) (parts_at b text)

-- a text without its leading spaces
abbrev pub after_spaces : List ℕ → List ℕ
after_spaces text = behind_of (λ b. b == 32) text

-- a text without its trailing spaces
abbrev pub before_spaces : List ℕ → List ℕ
before_spaces text = reverse (after_spaces (reverse text))

-- the number of one or two decimal digits
abbrev pub short_decimal : List ℕ → Option ℕ
short_decimal (a ∷ []) = if a_digit a then Some (a - 48) else None
short_decimal (a ∷ b ∷ []) =
    if a_digit a && a_digit b then Some ((a - 48) * 10 + (b - 48)) else None
short_decimal _ = None

-- the length of a prefix: at most 32, in one or two digits
unfoldable pub length_spelled : List ℕ → Option ℕ
length_spelled text = do
  length ← short_decimal text
  if nat_le length 32 then Some length else None

-- the prefix that a text gives
unfoldable pub prefix_spelled : List ℕ → Option Prefix
prefix_spelled text = do
  parts ← parts_at 47 text
  address ← address_spelled parts.0
  length ← length_spelled parts.1
  Some (record { address = network_address address length; length = length })

-- the addresses from the first to the last: at least one
abbrev pub addresses_from : ℕ → ℕ → Option Range
addresses_from first last =
    if nat_le first last then Some (record { first = first; last = last }) else None

-- the addresses of a prefix
abbrev pub prefix_addresses : Prefix → Option Range
prefix_addresses prefix =
    addresses_from prefix.address (prefix.address + (prefix_size prefix.length - 1))

-- the addresses from one to another, with optional spaces around the dash between them
unfoldable pub addresses_of_parts : List ℕ × List ℕ → Option Range
addresses_of_parts parts = do
  first ← address_spelled (before_spaces parts.0)
  last ← address_spelled (after_spaces parts.1)
  addresses_from first last

-- the addresses of a text without a dash, or of the two parts at its dash
abbrev pub addresses_by : List ℕ → Option (List ℕ × List ℕ) → Option Range
addresses_by text None = option_and_then prefix_addresses (prefix_spelled text)
addresses_by text (Some parts) = addresses_of_parts parts

-- the addresses that the text of a pool gives
unfoldable pub addresses_spelled : List ℕ → Option Range
addresses_spelled text = addresses_by text (parts_at 45 text)
