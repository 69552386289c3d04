-- What a class test asks: whether byte strings are equal, whether a name is held, the value of an
-- option or the empty string, and the value of a field of the message.
use Rattle.std.specs.Prelude.{ℕ, nat_eq, Bool, List, [], ◌∷◌, Option, Some, None}
use Rattle.std.specs.Cmp.Lexicographic.{pointwise}
use Rattle.std.specs.List.{list_any}
use Rattle.byteorder.specs.Endian.{big_bytes}
use Rattle.kd_options.specs.Joined.{value_of}
use Rattle.kd_options.specs.Message.{Seen, mac_of}
use Rattle.kd_wire.specs.declared.field.Field.{Field}
use Rattle.kd_wire.specs.declared.field.Field.TheVariants as fields
use Rattle.kd_machine.specs.Val.{Val, Number, Text}

-- two byte strings are equal
abbrev pub same : List ℕ → List ℕ → Bool
same a b = pointwise nat_eq a b

-- a name is among those held
abbrev pub is_held : List ℕ → List (List ℕ) → Bool
is_held name held = list_any (same name) held

-- a value, or the empty string if there is none
abbrev pub or_empty : Option (List ℕ) → List ℕ
or_empty None = []
or_empty (Some value) = value

-- the number of a message type: the first byte of option 53, 0 if there is none
abbrev pub type_in : Option (List ℕ) → ℕ
type_in None = 0
type_in (Some []) = 0
type_in (Some (n ∷ bytes)) = n

-- the value of a field of the message
abbrev pub value_of_field : Seen → Field → Val
value_of_field m fields.Mac = Text (mac_of m.header)
value_of_field m fields.Hlen = Number m.header.hlen
value_of_field m fields.Htype = Number m.header.htype
value_of_field m fields.Ciaddr = Text (big_bytes 4 m.header.ciaddr)
value_of_field m fields.Giaddr = Text (big_bytes 4 m.header.giaddr)
value_of_field m fields.Yiaddr = Text (big_bytes 4 m.header.yiaddr)
value_of_field m fields.Siaddr = Text (big_bytes 4 m.header.siaddr)
value_of_field m fields.MessageType = Number (type_in (value_of 53 m.options))
value_of_field m fields.Transaction = Number m.header.xid
value_of_field m fields.Length = Number m.len
