-- Token files read from left to right, computed: the fields one after another, with the fault of
-- each field if it is not as it must be. The first fault ends the reading. Proofs tie these
-- functions to the definition of a file and of its first fault; no public contract cites them.
-- them.
use Rattle.std.specs.Prelude.{◌≡◌, ◌≤◌, ◌-◌, ℕ, ℤ, zero, suc, nat_lt, not, Bool, List, [], ◌∷◌, length, take, drop, Option, Some, None, Result, Ok, Err, if◌then◌else◌, ◌==◌}
use Rattle.std.specs.Int.{w32, cast_signed}
use Rattle.byteorder.specs.Endian.{big_number}
use Rattle.kd_token.specs.declared.fault.FileFault.{FileFault}
use Rattle.kd_token.specs.declared.fault.FileFault.TheVariants as faults
use Rattle.kd_wire.specs.declared.field.Field.{Field}
use Rattle.kd_wire.specs.declared.field.Field.TheVariants as fields
use Rattle.kd_token.specs.declared.token.Token.{Token}
use Rattle.kd_token.specs.declared.token.Token.TheVariants as tokens
use Rattle.kd_token.specs.declared.token.Version.{Version}
use Rattle.kd_token.specs.declared.token.Version.TheVariants as versions
use Rattle.kd_token.specs.File.{Code, code}

-- exactly the fault that comes, or out of memory, which may come for any file
abbrev pub IsReadFault : {A : Type 0} → FileFault → Result A FileFault → Type 0
IsReadFault faults.Memory read = Unit {0}
IsReadFault fault read = read ≡ Err fault

-- what a function returned, as it is seen, is what is read, or it is the fault that comes, or
-- memory ran out
abbrev pub ReaderGives : {X A : Type 0} → (X → A) → Result X FileFault → Result A FileFault → Type 0
ReaderGives view (Ok x) read = read ≡ Ok (view x)
ReaderGives view (Err fault) read = IsReadFault fault read

-- a file that is partly read: the whole, and the remaining bytes
pub record Rest : Type 0 where
  pub whole : List ℕ
  pub left : List ℕ

-- these bytes remain of the whole
abbrev pub rest : List ℕ → List ℕ → Rest
rest whole left = record { whole = whole; left = left }

-- the remaining bytes are the last of the whole
pub record IsRest (r : Rest) : Type 0 where
  pub within : length r.left ≤ length r.whole
  pub last : drop (length r.whole - length r.left) r.whole ≡ r.left

-- the place of the next byte
abbrev pub place_in : Rest → ℕ
place_in r = length r.whole - length r.left

-- what is read from a place on, and what remains after it, or the first fault
abbrev pub ReadStep : Type 0 → Type 0
ReadStep X = Rest → Result (X × Rest) FileFault

-- goes on if nothing is wrong
abbrev pub unless_faulty : {A B : Type 0} → Result A FileFault → (A → Result B FileFault)
    → Result B FileFault
unless_faulty (Ok x) next = next x
unless_faulty (Err fault) next = Err fault

infixl 10 ◌>>=◌
-- one step, and then the next
abbrev pub ◌>>=◌ : {X Y : Type 0} → ReadStep X → (X → ReadStep Y) → ReadStep Y
(field >>= next) r = unless_faulty (field r) (λ x. next x.0 x.1)

-- this value, without reading a byte
abbrev pub already : {X : Type 0} → X → ReadStep X
already x r = Ok (x, r)

-- a value made from what is read
abbrev pub makes : {X Y : Type 0} → (X → Y) → ReadStep X → ReadStep Y
makes view field r = unless_faulty (field r) (λ x. Ok (view x.0, x.1))

-- the place of the next byte
abbrev pub here : ReadStep ℕ
here r = Ok (place_in r, r)

-- how many bytes remain
abbrev pub bytes_left : ReadStep ℕ
bytes_left r = Ok (length r.left, r)

-- this fault if something is wrong
abbrev pub fault_where : Bool → FileFault → ReadStep (Unit {0})
fault_where wrong fault r = if wrong then Err fault else Ok (tt, r)

-- a known value, or otherwise this fault
abbrev pub known_or : {X : Type 0} → FileFault → Option X → ReadStep X
known_or fault (Some x) r = Ok (x, r)
known_or fault None r = Err fault

-- the next n bytes as a field
abbrev pub bytes_next : ℕ → ReadStep (List ℕ)
bytes_next n r =
    if nat_lt (length r.left) n then Err (faults.Cut (place_in r))
    else Ok (take n r.left, rest r.whole (drop n r.left))

-- an n-byte number
abbrev pub number_next : ℕ → ReadStep ℕ
number_next n = makes (big_number n) (bytes_next n)

-- an n-byte number that is at most `most`
unfoldable pub limited_at : ℕ → ℕ → ReadStep ℕ
limited_at n most = do
  number ← number_next n
  _ ← fault_where (nat_lt most number) faults.Limit
  already number

-- a signed 4-byte number
abbrev pub signed_at : ReadStep ℤ
signed_at = makes (cast_signed w32) (number_next 4)

-- a number of items, each read with the number of items after it
unfoldable pub many_at : {X : Type 0} → (ℕ → ReadStep X) → ℕ → ReadStep (List X)
many_at item zero = already []
many_at item (suc n) = do
  first ← item n
  others ← many_at item n
  already (first ∷ others)

-- the magic number; if the file ends within it, the fault is also Magic
unfoldable pub magic_at : ReadStep (Unit {0})
magic_at = do
  left ← bytes_left
  _ ← fault_where (nat_lt left 4) faults.Magic
  magic ← number_next 4
  fault_where (not (magic == 0x4b34544b)) faults.Magic

-- the version of a version byte
abbrev pub version_of : ℕ → Option Version
version_of byte =
    if byte == 1 then Some versions.One else if byte == 2 then Some versions.Two else None

-- a version
unfoldable pub version_at : ReadStep Version
version_at = do
  byte ← number_next 1
  known_or faults.Version (version_of byte)

-- a name after its length, which is not 0
unfoldable pub name_at : ReadStep (List ℕ)
name_at = do
  at ← here
  size ← number_next 1
  _ ← fault_where (size == 0) (faults.Operand at)
  bytes_next size

-- `count` names
abbrev pub names_at : ℕ → ReadStep (List (List ℕ))
names_at count = many_at (λ behind. name_at) count

-- the number of names, and then the names
unfoldable pub all_names_at : ReadStep (List (List ℕ))
all_names_at = do
  count ← limited_at 1 64
  names_at count

-- a byte string after its 2-byte length
unfoldable pub long_at : ReadStep (List ℕ)
long_at = do
  size ← number_next 2
  bytes_next size

-- the field with a number
unfoldable pub field_numbered : ℕ → Option Field
field_numbered number =
    if number == 0 then Some fields.Mac
    else if number == 1 then Some fields.Hlen
    else if number == 2 then Some fields.Htype
    else if number == 3 then Some fields.Ciaddr
    else if number == 4 then Some fields.Giaddr
    else if number == 5 then Some fields.Yiaddr
    else if number == 6 then Some fields.Siaddr
    else if number == 7 then Some fields.MessageType
    else if number == 8 then Some fields.Transaction
    else if number == 9 then Some fields.Length
    else None

-- a field
unfoldable pub field_at : ReadStep Field
field_at = do
  at ← here
  number ← number_next 1
  known_or (faults.Operand at) (field_numbered number)

-- how many bytes a substring has: a number after a mode of 0, all after a mode of 1
unfoldable pub count_after : ℕ → ℕ → ReadStep (Option ℤ)
count_after at mode r =
    if mode == 1 then Ok (None, r)
    else if mode == 0 then makes Some signed_at r
    else Err (faults.Operand at)

-- a mode, and how many bytes a substring has
unfoldable pub count_at : ReadStep (Option ℤ)
count_at = do
  at ← here
  mode ← number_next 1
  count_after at mode

-- a substring's start and number of bytes
unfoldable pub substring_at : ReadStep Token
substring_at = do
  start ← signed_at
  count ← count_at
  already (tokens.Substring start count)

-- how many tokens a branch skips, at most `behind`
unfoldable pub branch_at : ℕ → ReadStep ℕ
branch_at behind = do
  at ← here
  skip ← number_next 2
  _ ← fault_where (nat_lt behind skip) (faults.Operand at)
  already skip

-- the same if the version has branches; otherwise there is no such opcode
abbrev pub skip_at : Version → ℕ → ℕ → ReadStep ℕ
skip_at versions.One behind opcode_at r = Err (faults.Opcode opcode_at)
skip_at versions.Two behind opcode_at r = branch_at behind r

-- the token of an opcode without operands
unfoldable pub plain_token : ℕ → Option Token
plain_token opcode =
    if opcode == 0x09 then Some tokens.Equal
    else if opcode == 0x0a then Some tokens.Not
    else if opcode == 0x0b then Some tokens.And
    else if opcode == 0x0c then Some tokens.Or
    else if opcode == 0x0d then Some tokens.IfElse
    else if opcode == 0x0f then Some tokens.Concat
    else if opcode == 0x10 then Some tokens.HexString
    else if opcode == 0x11 then Some tokens.Lower
    else if opcode == 0x12 then Some tokens.Upper
    else if opcode == 0x13 then Some tokens.IntToText
    else if opcode == 0x14 then Some tokens.IntBytes
    else None

-- the operands of an opcode at a place, and so its token, with `behind` tokens after it
unfoldable pub operands_at : Version → ℕ → ℕ → ℕ → ReadStep Token
operands_at version behind opcode at r =
    if opcode == 0x01 then makes tokens.PushBytes long_at r
    else if opcode == 0x02 then makes tokens.PushInt (number_next 4) r
    else if opcode == 0x03 then makes tokens.PushOption (number_next 1) r
    else if opcode == 0x04 then makes tokens.PushRelay (number_next 1) r
    else if opcode == 0x05 then makes tokens.PushField field_at r
    else if opcode == 0x06 then makes tokens.OptionExists (number_next 1) r
    else if opcode == 0x07 then makes tokens.RelayExists (number_next 1) r
    else if opcode == 0x08 then makes tokens.Member (number_next 1) r
    else if opcode == 0x0e then substring_at r
    else if opcode == 0x20 then makes tokens.Branch (skip_at version behind at) r
    else if opcode == 0x21 then makes tokens.PopBranchFalse (skip_at version behind at) r
    else if opcode == 0x22 then makes tokens.BranchFalseElsePop (skip_at version behind at) r
    else if opcode == 0x23 then makes tokens.BranchTrueElsePop (skip_at version behind at) r
    else known_or (faults.Opcode at) (plain_token opcode) r

-- a token with `behind` tokens after it
unfoldable pub token_at : Version → ℕ → ReadStep Token
token_at version behind = do
  at ← here
  opcode ← number_next 1
  operands_at version behind opcode at

-- `count` tokens
abbrev pub tokens_at : Version → ℕ → ReadStep (List Token)
tokens_at version count = many_at (token_at version) count

-- the number of tokens, and then the tokens
unfoldable pub all_tokens_at : Version → ReadStep (List Token)
all_tokens_at version = do
  count ← limited_at 2 1024
  tokens_at version count

-- the fields after the magic number
unfoldable pub fields_at : ReadStep Code
fields_at = do
  version ← version_at
  steps ← limited_at 2 1024
  depth ← limited_at 1 64
  bound ← number_next 2
  names ← all_names_at
  tokens ← all_tokens_at version
  already (code version steps depth bound names tokens)

-- the end of the file
unfoldable pub file_end : ReadStep (Unit {0})
file_end = do
  at ← here
  left ← bytes_left
  fault_where (nat_lt 0 left) (faults.Rest at)

-- a file
unfoldable pub file_at : ReadStep Code
file_at = do
  _ ← magic_at
  program ← fields_at
  _ ← file_end
  already program

-- the program of a file, or its fault
abbrev pub program_at : List ℕ → Result Code FileFault
program_at bytes = unless_faulty (file_at (rest bytes bytes)) (λ x. Ok x.0)
