-- The value of a class test (Kea Administrator Reference Manual, chapter Client Classification), by
-- recursion on its tree: a truth value, a number, or a byte string. Where a byte string is needed,
-- a number stands for its four bytes in network byte order.
use Rattle.std.specs.Prelude.{ℕ, Bool, false, not, ◌&&◌, ◌||◌, is_some, nat_eq, if◌then◌else◌, List, [], ◌++◌, map, Option}
use Rattle.std.specs.Char.{to_ascii_lowercase, to_ascii_uppercase}
use Rattle.std.specs.Fmt.{decimal}
use Rattle.std.specs.Map.{lookup}
use Rattle.byteorder.specs.Endian.{big_bytes}
use Rattle.kd_expr.specs.Tree.{Tree, Literal, Int, OptionValue, RelayValue, FieldValue, OptionExists, RelayExists, Member, Equal, Not, And, Or, Group, Concat, IfElse, Substring, HexString, Lower, Upper, IntToText}
use Rattle.kd_options.specs.Joined.{value_of}
use Rattle.kd_options.specs.Message.{Seen}
use Rattle.kd_options.specs.RelayWalk.{relay_list}
use Rattle.kd_machine.specs.Strings.{substring, hex_of}
use Rattle.kd_machine.specs.Val.{Val, Truth, Number, Text}
use Rattle.kd_machine.specs.Parts.{same, is_held, or_empty, value_of_field}

-- the truth value that a value is, or else false
abbrev pub truth_in : Val → Bool
truth_in (Truth b) = b
truth_in (Number n) = false
truth_in (Text bytes) = false

-- the number that a value is, or else 0
abbrev pub number_in : Val → ℕ
number_in (Number n) = n
number_in (Truth b) = 0
number_in (Text bytes) = 0

-- the byte string that a value is, or the four bytes of a number
abbrev pub bytes_in : Val → List ℕ
bytes_in (Text bytes) = bytes
bytes_in (Number n) = big_bytes 4 n
bytes_in (Truth b) = []

-- a sub-option of a message's relay information, if it is present (kd_options
-- `laws::relay_list_is_standard`)
abbrev pub relay_value : Seen → ℕ → Option (List ℕ)
relay_value m code = lookup (nat_eq code) (relay_list m.options)

-- the value of an expression over a message, with these class names held
abbrev pub value : Seen → List (List ℕ) → Tree → Val
value m held (Literal at bytes) = Text bytes
value m held (Int at n) = Number n
value m held (OptionValue at code) = Text (or_empty (value_of code m.options))
value m held (RelayValue at code) = Text (or_empty (relay_value m code))
value m held (FieldValue at field) = value_of_field m field
value m held (OptionExists at code) = Truth (is_some (value_of code m.options))
value m held (RelayExists at code) = Truth (is_some (relay_value m code))
value m held (Member at name) = Truth (is_held name held)
value m held (Equal at a b) = Truth (same (bytes_in (value m held a)) (bytes_in (value m held b)))
value m held (Not at a) = Truth (not (truth_in (value m held a)))
value m held (And at a b) = Truth (truth_in (value m held a) && truth_in (value m held b))
value m held (Or at a b) = Truth (truth_in (value m held a) || truth_in (value m held b))
value m held (Group at a) = value m held a
value m held (Concat at a b) = Text (bytes_in (value m held a) ++ bytes_in (value m held b))
value m held (IfElse at t a b) =
    Text (if truth_in (value m held t) then bytes_in (value m held a) else bytes_in
    (value m held b))
value m held (Substring at a start count) = Text (substring start count (bytes_in (value m held a)))
value m held (HexString at a b) =
    Text (hex_of (bytes_in (value m held b)) (bytes_in (value m held a)))
value m held (Lower at a) = Text (map to_ascii_lowercase (bytes_in (value m held a)))
value m held (Upper at a) = Text (map to_ascii_uppercase (bytes_in (value m held a)))
value m held (IntToText at a) = Text (decimal (number_in (value m held a)))

-- the truth value of a class test over a message, with these class names held
abbrev pub truth : Seen → List (List ℕ) → Tree → Bool
truth m held t = truth_in (value m held t)
