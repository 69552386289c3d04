-- The text of an IPv4 address.
use Rattle.std.specs.Prelude.{ℕ, List, Option, option_map}
use Rattle.std.specs.Int.{from_be_bytes, w32}
use Rattle.kd_expr.specs.Lexing as lexing

-- the address that a text gives, as a number
unfoldable pub address_spelled : List ℕ → Option ℕ
address_spelled text = option_map (from_be_bytes w32) (lexing.address_read text)
