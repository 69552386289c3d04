-- Token files (our own format): a program and the bytes of its file, field by field, with all
-- numbers in network byte order.
use Rattle.std.specs.Prelude.{◌≡◌, ℕ, ℤ, ◌^◌, ◌<◌, ◌≤◌, List, [], ◌∷◌, ◌++◌, length, Option, Some, None}
use Rattle.std.specs.Int.{w32, cast_unsigned}
use Rattle.std.specs.Int.RustNames.{FitsSigned}
use Rattle.std.specs.List.{flat_map, AllByRecursion}
use Rattle.byteorder.specs.Endian.{big_bytes}
use Rattle.kd_token.specs.declared.token.Token.{Token}
use Rattle.kd_token.specs.declared.token.Token.TheVariants as tokens
use Rattle.kd_token.specs.declared.token.Version.{Version}
use Rattle.kd_token.specs.declared.token.Version.TheVariants as versions
use Rattle.kd_wire.specs.Field.{field_number}

-- what contracts see of a program; `bound` is the declared greatest length of a value
pub record Code : Type 0 where
  pub version : Version
  pub steps : ℕ
  pub depth : ℕ
  pub bound : ℕ
  pub names : List (List ℕ)
  pub tokens : List Token

-- the program of these parts
abbrev pub code : Version → ℕ → ℕ → ℕ → List (List ℕ) → List Token → Code
code version steps depth bound names tokens = record {
  version = version;
  steps = steps;
  depth = depth;
  bound = bound;
  names = names;
  tokens = tokens;
}

-- the version byte
abbrev pub version_number : Version → ℕ
version_number versions.One = 1
version_number versions.Two = 2

-- a byte string after its 2-byte length
abbrev pub long_bytes : List ℕ → List ℕ
long_bytes bytes = big_bytes 2 (length bytes) ++ bytes

-- a signed number, in four bytes of two's complement
abbrev pub signed_bytes : ℤ → List ℕ
signed_bytes z = big_bytes 4 (cast_unsigned w32 z)

-- how many bytes a substring has: a mode byte of 0 and a signed number, or a mode byte of 1 for all
abbrev pub count_bytes : Option ℤ → List ℕ
count_bytes (Some count) = 0 ∷ signed_bytes count
count_bytes None = 1 ∷ []

-- a token's bytes: its opcode and its operands
abbrev pub token_bytes : Token → List ℕ
token_bytes (tokens.PushBytes bytes) = 0x01 ∷ long_bytes bytes
token_bytes (tokens.PushInt number) = 0x02 ∷ big_bytes 4 number
token_bytes (tokens.PushOption code) = 0x03 ∷ code ∷ []
token_bytes (tokens.PushRelay code) = 0x04 ∷ code ∷ []
token_bytes (tokens.PushField field) = 0x05 ∷ field_number field ∷ []
token_bytes (tokens.OptionExists code) = 0x06 ∷ code ∷ []
token_bytes (tokens.RelayExists code) = 0x07 ∷ code ∷ []
token_bytes (tokens.Member index) = 0x08 ∷ index ∷ []
token_bytes tokens.Equal = 0x09 ∷ []
token_bytes tokens.Not = 0x0a ∷ []
token_bytes tokens.And = 0x0b ∷ []
token_bytes tokens.Or = 0x0c ∷ []
token_bytes tokens.IfElse = 0x0d ∷ []
token_bytes (tokens.Substring start count) = 0x0e ∷ (signed_bytes start ++ count_bytes count)
token_bytes tokens.Concat = 0x0f ∷ []
token_bytes tokens.HexString = 0x10 ∷ []
token_bytes tokens.Lower = 0x11 ∷ []
token_bytes tokens.Upper = 0x12 ∷ []
token_bytes tokens.IntToText = 0x13 ∷ []
token_bytes tokens.IntBytes = 0x14 ∷ []
token_bytes (tokens.Branch skip) = 0x20 ∷ big_bytes 2 skip
token_bytes (tokens.PopBranchFalse skip) = 0x21 ∷ big_bytes 2 skip
token_bytes (tokens.BranchFalseElsePop skip) = 0x22 ∷ big_bytes 2 skip
token_bytes (tokens.BranchTrueElsePop skip) = 0x23 ∷ big_bytes 2 skip

-- the bytes of a name: its length, and the name
abbrev pub name_bytes : List ℕ → List ℕ
name_bytes name = length name ∷ name

-- what comes before the names: the magic number K4TK, the version, the declared steps, depth and
-- length
abbrev pub head_bytes : Version → ℕ → ℕ → ℕ → List ℕ
head_bytes version steps depth bound =
    big_bytes 4 0x4b34544b ++ version_number version ∷ [] ++ big_bytes 2 steps ++ depth ∷ []
    ++ big_bytes 2 bound

-- the number of names, and then the names
abbrev pub names_bytes : List (List ℕ) → List ℕ
names_bytes names = length names ∷ flat_map name_bytes names

-- the number of tokens, and then the tokens
abbrev pub tokens_bytes : List Token → List ℕ
tokens_bytes tokens = big_bytes 2 (length tokens) ++ flat_map token_bytes tokens

-- a program's file: its head, its names, its tokens
abbrev pub file_bytes : Code → List ℕ
file_bytes p =
    head_bytes p.version p.steps p.depth p.bound ++ names_bytes p.names ++ tokens_bytes p.tokens

-- a name has 1 to 255 bytes
abbrev pub IsName : List ℕ → Type 0
IsName name = (1 ≤ length name) × (length name ≤ 255)

-- a substring's number of bytes fits in four bytes, or all bytes are meant
abbrev pub IsCount : Option ℤ → Type 0
IsCount (Some count) = FitsSigned w32 count
IsCount None = Unit {0}

-- a branch skips no more tokens than come after it; version 1 has no branches
abbrev pub IsBranch : Version → ℕ → ℕ → Type 0
IsBranch versions.One behind skip = ⊥
IsBranch versions.Two behind skip = skip ≤ behind

-- a byte string has a 2-byte length
abbrev pub IsShort : Token → Type 0
IsShort (tokens.PushBytes bytes) = length bytes < 2 ^ 16
IsShort token = Unit {0}

-- what a file of this version can say of a token with `behind` tokens after it: its operands fit
-- their bytes
abbrev pub IsToken : Version → ℕ → Token → Type 0
IsToken version behind (tokens.PushBytes bytes) = length bytes < 2 ^ 16
IsToken version behind (tokens.PushInt number) = number < 2 ^ 32
IsToken version behind (tokens.Substring start count) = FitsSigned w32 start × IsCount count
IsToken version behind (tokens.Branch skip) = IsBranch version behind skip
IsToken version behind (tokens.PopBranchFalse skip) = IsBranch version behind skip
IsToken version behind (tokens.BranchFalseElsePop skip) = IsBranch version behind skip
IsToken version behind (tokens.BranchTrueElsePop skip) = IsBranch version behind skip
IsToken version behind token = Unit {0}

-- the same for each token of a list
abbrev pub AreTokens : Version → List Token → Type 0
AreTokens version [] = Unit {0}
AreTokens version (token ∷ tokens) =
    IsToken version (length tokens) token × AreTokens version tokens

-- a program that has a file: each field is within its limit
pub record HasFile (p : Code) : Type 0 where
  pub steps : p.steps ≤ 1024
  pub depth : p.depth ≤ 64
  pub bound : p.bound < 2 ^ 16
  pub few_names : length p.names ≤ 64
  pub names : AllByRecursion IsName p.names
  pub few_tokens : length p.tokens ≤ 1024
  pub tokens : AreTokens p.version p.tokens

-- the bytes are the program's file
pub record IsFileOf (bytes : List ℕ) (p : Code) : Type 0 where
  pub spelled : bytes ≡ file_bytes p
  pub limits : HasFile p
