-- Which fault bytes have that are not a token file, and where. A file is a list of fields. The
-- bytes before the place of a fault are the first fields of a file; together with the next field
-- they begin no file.
use Rattle.std.specs.Prelude.{◌≡◌, ◌⊎◌, ◌<◌, ◌≤◌, ◌+◌, ℕ, ℤ, List, [], ◌∷◌, ◌++◌, length, take, Option, Some, None}
use Rattle.std.specs.List.{flat_map}
use Rattle.byteorder.specs.Endian.{big_bytes}
use Rattle.kd_token.specs.declared.fault.FileFault.{FileFault}
use Rattle.kd_token.specs.declared.fault.FileFault.TheVariants as faults
use Rattle.kd_token.specs.declared.token.Token.{Token}
use Rattle.kd_token.specs.declared.token.Token.TheVariants as tokens
use Rattle.kd_token.specs.File.{Code, HasFile, IsFileOf, signed_bytes, token_bytes, version_number}
use Rattle.kd_wire.specs.Field.{field_number}

-- a field of a file: its bytes, the fault if the file ends within it, and the fault if it has bytes
-- that no file has there; both faults depend on the place of its first byte
pub record Part : Type 0 where
  pub bytes : List ℕ
  pub cut : ℕ → FileFault
  pub wrong : ℕ → FileFault

-- a field with these bytes, and with this fault if others are there
abbrev pub part_with : (ℕ → FileFault) → List ℕ → Part
part_with wrong bytes = record { bytes = bytes; cut = faults.Cut; wrong = wrong }

-- a field that may have any bytes, and so is never wrong
abbrev pub free : List ℕ → Part
free bytes = part_with faults.Cut bytes

-- a number with a limit
abbrev pub limited : List ℕ → Part
limited bytes = part_with (λ at. faults.Limit) bytes

-- an operand that cannot be all bytes
abbrev pub operand : List ℕ → Part
operand bytes = part_with faults.Operand bytes

-- the magic number; if the file ends within it, the fault is also that of a wrong one
abbrev pub magic : Part
magic = record {
  bytes = big_bytes 4 0x4b34544b;
  cut = λ at. faults.Magic;
  wrong = λ at. faults.Magic;
}

-- the fields of a name
abbrev pub name_parts : List ℕ → List Part
name_parts name = operand (length name ∷ []) ∷ free name ∷ []

-- the fields of a substring's number of bytes
abbrev pub count_parts : Option ℤ → List Part
count_parts None = operand (1 ∷ []) ∷ []
count_parts (Some count) = operand (0 ∷ []) ∷ free (signed_bytes count) ∷ []

-- the fields of a token's operands
abbrev pub operand_parts : Token → List Part
operand_parts (tokens.PushBytes bytes) = free (big_bytes 2 (length bytes)) ∷ free bytes ∷ []
operand_parts (tokens.PushInt number) = free (big_bytes 4 number) ∷ []
operand_parts (tokens.PushOption code) = free (code ∷ []) ∷ []
operand_parts (tokens.PushRelay code) = free (code ∷ []) ∷ []
operand_parts (tokens.PushField field) = operand (field_number field ∷ []) ∷ []
operand_parts (tokens.OptionExists code) = free (code ∷ []) ∷ []
operand_parts (tokens.RelayExists code) = free (code ∷ []) ∷ []
operand_parts (tokens.Member index) = free (index ∷ []) ∷ []
operand_parts (tokens.Substring start count) = free (signed_bytes start) ∷ count_parts count
operand_parts (tokens.Branch skip) = operand (big_bytes 2 skip) ∷ []
operand_parts (tokens.PopBranchFalse skip) = operand (big_bytes 2 skip) ∷ []
operand_parts (tokens.BranchFalseElsePop skip) = operand (big_bytes 2 skip) ∷ []
operand_parts (tokens.BranchTrueElsePop skip) = operand (big_bytes 2 skip) ∷ []
operand_parts token = []

-- the fields of a token: its opcode and its operands
abbrev pub token_parts : Token → List Part
token_parts token = part_with faults.Opcode (take 1 (token_bytes token)) ∷ operand_parts token

-- the fields after the magic number
abbrev pub later_parts : Code → List Part
later_parts p =
    part_with (λ at. faults.Version) (version_number p.version ∷ []) ∷ limited (big_bytes 2 p.steps)
    ∷ limited (p.depth ∷ []) ∷ free (big_bytes 2 p.bound) ∷ limited (length p.names ∷ [])
    ∷ (flat_map name_parts p.names
    ++ (limited (big_bytes 2 (length p.tokens)) ∷ flat_map token_parts p.tokens))

-- the fields of a program's file
abbrev pub parts : Code → List Part
parts p = magic ∷ later_parts p

-- the bytes of fields, one after another
abbrev pub bytes_of_parts : List Part → List ℕ
bytes_of_parts row = flat_map (λ one. one.bytes) row

-- the bytes before a place are the first fields of a file in which this field comes next
pub record ComesNext (bytes : List ℕ) (at : ℕ) (next : Part) : Type 0 where
  pub file : Code
  pub limits : HasFile file
  pub before : List Part
  pub after : List Part
  pub fields : parts file ≡ before ++ next ∷ after
  pub within : at ≤ length bytes
  pub same : take at bytes ≡ bytes_of_parts before

-- no file begins with these bytes
abbrev pub BeginsNone : List ℕ → Type 0
BeginsNone bytes = (p : Code) (more : List ℕ) → IsFileOf (bytes ++ more) p → ⊥

-- the file ends within the field that comes next
abbrev pub IsCutFault : List ℕ → FileFault → Type 0
IsCutFault bytes fault =
    (at : ℕ) × (next : Part) × ComesNext bytes at next × (length bytes < at + length next.bytes)
    × (fault ≡ next.cut at)

-- the field that comes next has bytes with which no file continues
abbrev pub IsWrongFault : List ℕ → FileFault → Type 0
IsWrongFault bytes fault =
    (at : ℕ) × (next : Part) × ComesNext bytes at next × (at + length next.bytes ≤ length bytes)
    × BeginsNone (take (at + length next.bytes) bytes) × (fault ≡ next.wrong at)

-- bytes follow a file
abbrev pub IsRestFault : List ℕ → FileFault → Type 0
IsRestFault bytes fault =
    (at : ℕ) × (p : Code) × IsFileOf (take at bytes) p × (at < length bytes)
    × (fault ≡ faults.Rest at)

-- the first fault of bytes that are not a file
abbrev pub IsFileFault : List ℕ → FileFault → Type 0
IsFileFault bytes fault =
    IsCutFault bytes fault ⊎ (IsWrongFault bytes fault ⊎ IsRestFault bytes fault)
