-- The fields of a message that class tests name, by their numbers in token files (our own format).
use Rattle.std.specs.Prelude.{ℕ}
use Rattle.kd_wire.specs.declared.field.Field.{Field}
use Rattle.kd_wire.specs.declared.field.Field.TheVariants as fields

-- the number of each field
abbrev pub field_number : Field → ℕ
field_number fields.Mac = 0
field_number fields.Hlen = 1
field_number fields.Htype = 2
field_number fields.Ciaddr = 3
field_number fields.Giaddr = 4
field_number fields.Yiaddr = 5
field_number fields.Siaddr = 6
field_number fields.MessageType = 7
field_number fields.Transaction = 8
field_number fields.Length = 9
