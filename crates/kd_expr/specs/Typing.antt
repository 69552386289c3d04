-- The types of class tests (Kea Administrator Reference Manual, chapter Client Classification): the
-- type of an expression, or its first fault. Operands are taken from left to right; each is typed
-- completely and then checked against the type that is needed. A number may stand for its four
-- bytes.
use Rattle.std.specs.Prelude.{ℕ, Result, Ok, Err}
use Rattle.kd_expr.specs.Tree.{Tree, Literal, Int, OptionValue, RelayValue, FieldValue, OptionExists, RelayExists, Member, Equal, Not, And, Or, Group, Concat, IfElse, Substring, HexString, Lower, Upper, IntToText, at_of}
use Rattle.kd_expr.specs.declared.fault.TypeFault.{TypeFault}
use Rattle.kd_expr.specs.declared.fault.TypeFault.TheVariants.{WantsBool, WantsBytes, WantsInt}
use Rattle.kd_wire.specs.declared.field.Field.{Field}
use Rattle.kd_wire.specs.declared.field.Field.TheVariants as fields
use Rattle.kd_expr.specs.declared.typing.ValueType.{ValueType}
use Rattle.kd_expr.specs.declared.typing.ValueType.TheVariants as types

-- the type of a message field
abbrev pub field_type : Field → ValueType
field_type fields.Mac = types.Bytes
field_type fields.Hlen = types.Int
field_type fields.Htype = types.Int
field_type fields.Ciaddr = types.Bytes
field_type fields.Giaddr = types.Bytes
field_type fields.Yiaddr = types.Bytes
field_type fields.Siaddr = types.Bytes
field_type fields.MessageType = types.Int
field_type fields.Transaction = types.Int
field_type fields.Length = types.Int

-- an operand at a place, of this type, must be a truth value
abbrev pub want_bool : ℕ → Result ValueType TypeFault → Result (Unit {0}) TypeFault
want_bool at (Ok types.Bool) = Ok tt
want_bool at (Ok types.Int) = Err (WantsBool at)
want_bool at (Ok types.Bytes) = Err (WantsBool at)
want_bool at (Err fault) = Err fault

-- an operand at a place, of this type, must be a byte string; a number may stand for one
abbrev pub want_bytes : ℕ → Result ValueType TypeFault → Result (Unit {0}) TypeFault
want_bytes at (Ok types.Bool) = Err (WantsBytes at)
want_bytes at (Ok types.Int) = Ok tt
want_bytes at (Ok types.Bytes) = Ok tt
want_bytes at (Err fault) = Err fault

-- an operand at a place, of this type, must be a number
abbrev pub want_int : ℕ → Result ValueType TypeFault → Result (Unit {0}) TypeFault
want_int at (Ok types.Bool) = Err (WantsInt at)
want_int at (Ok types.Int) = Ok tt
want_int at (Ok types.Bytes) = Err (WantsInt at)
want_int at (Err fault) = Err fault

-- the first fault, or otherwise the second result
abbrev pub andthen : {A : Type 0} → Result (Unit {0}) TypeFault → Result A TypeFault
    → Result A TypeFault
andthen (Ok done) answer = answer
andthen (Err fault) answer = Err fault

-- the type of an expression, or its first fault
abbrev pub type_of : Tree → Result ValueType TypeFault
type_of (Literal at bytes) = Ok types.Bytes
type_of (Int at value) = Ok types.Int
type_of (OptionValue at code) = Ok types.Bytes
type_of (RelayValue at code) = Ok types.Bytes
type_of (FieldValue at field) = Ok (field_type field)
type_of (OptionExists at code) = Ok types.Bool
type_of (RelayExists at code) = Ok types.Bool
type_of (Member at name) = Ok types.Bool
type_of (Equal at a b) =
    andthen (want_bytes (at_of a) (type_of a))
    (andthen (want_bytes (at_of b) (type_of b)) (Ok types.Bool))
type_of (Not at a) = andthen (want_bool (at_of a) (type_of a)) (Ok types.Bool)
type_of (And at a b) =
    andthen (want_bool (at_of a) (type_of a))
    (andthen (want_bool (at_of b) (type_of b)) (Ok types.Bool))
type_of (Or at a b) =
    andthen (want_bool (at_of a) (type_of a))
    (andthen (want_bool (at_of b) (type_of b)) (Ok types.Bool))
type_of (Group at a) = andthen (want_bool (at_of a) (type_of a)) (Ok types.Bool)
type_of (Concat at a b) =
    andthen (want_bytes (at_of a) (type_of a))
    (andthen (want_bytes (at_of b) (type_of b)) (Ok types.Bytes))
type_of (IfElse at t a b) =
    andthen (want_bool (at_of t) (type_of t))
    (andthen (want_bytes (at_of a) (type_of a))
    (andthen (want_bytes (at_of b) (type_of b)) (Ok types.Bytes)))
type_of (Substring at a start len) = andthen (want_bytes (at_of a) (type_of a)) (Ok types.Bytes)
type_of (HexString at a b) =
    andthen (want_bytes (at_of a) (type_of a))
    (andthen (want_bytes (at_of b) (type_of b)) (Ok types.Bytes))
type_of (Lower at a) = andthen (want_bytes (at_of a) (type_of a)) (Ok types.Bytes)
type_of (Upper at a) = andthen (want_bytes (at_of a) (type_of a)) (Ok types.Bytes)
type_of (IntToText at a) = andthen (want_int (at_of a) (type_of a)) (Ok types.Bytes)

-- a whole expression is a truth value, or has a first fault
abbrev pub test_type : Tree → Result (Unit {0}) TypeFault
test_type t = want_bool (at_of t) (type_of t)
