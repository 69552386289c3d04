-- Shapes of a stack (our own format): a kind for each value, the top first; which shape covers
-- another, and how a token changes a shape.
use Rattle.std.specs.Prelude.{ℕ, ℤ, ◌+◌, ◌-◌, ◌*◌, ◌≤◌, min, max, nat_lt, List, [], ◌∷◌, length, Option, Some, None, if◌then◌else◌, ◌==◌}
use Rattle.std.specs.Int.RustNames.{unsigned_abs}
use Rattle.kd_token.specs.declared.shape.Kind.{Kind}
use Rattle.kd_token.specs.declared.shape.Kind.TheVariants as kinds
use Rattle.kd_wire.specs.declared.field.Field.{Field}
use Rattle.kd_wire.specs.declared.field.Field.TheVariants as fields
use Rattle.kd_token.specs.declared.token.Token.{Token}
use Rattle.kd_token.specs.declared.token.Token.TheVariants as tokens
use Rattle.kd_wire.specs.Steps.{◌>>=◌}

-- a kind covers another: it is the same kind, and its length is no less
abbrev pub CoversKind : Kind → Kind → Type 0
CoversKind kinds.Bool kinds.Bool = Unit {0}
CoversKind kinds.Int kinds.Int = Unit {0}
CoversKind (kinds.Bytes most) (kinds.Bytes n) = n ≤ most
CoversKind kinds.Bool kinds.Int = ⊥
CoversKind kinds.Bool (kinds.Bytes n) = ⊥
CoversKind kinds.Int kinds.Bool = ⊥
CoversKind kinds.Int (kinds.Bytes n) = ⊥
CoversKind (kinds.Bytes most) kinds.Bool = ⊥
CoversKind (kinds.Bytes most) kinds.Int = ⊥

-- a shape covers another kind by kind, and they have the same number of values
abbrev pub Covers : List Kind → List Kind → Type 0
Covers [] [] = Unit {0}
Covers [] (k ∷ s) = ⊥
Covers (k ∷ r) [] = ⊥
Covers (k ∷ r) (l ∷ s) = CoversKind k l × Covers r s

-- a kind is no longer than this
abbrev pub IsShortKind : ℕ → Kind → Type 0
IsShortKind most (kinds.Bytes n) = n ≤ most
IsShortKind most kinds.Bool = Unit {0}
IsShortKind most kinds.Int = Unit {0}

-- no kind of a shape is longer than this
abbrev pub AreShort : ℕ → List Kind → Type 0
AreShort most [] = Unit {0}
AreShort most (k ∷ s) = IsShortKind most k × AreShort most s

-- the bound of the byte string on top, and what is below it
abbrev pub bytes_taken : List Kind → Option (ℕ × List Kind)
bytes_taken [] = None
bytes_taken (kinds.Bytes n ∷ s) = Some (n, s)
bytes_taken (kinds.Bool ∷ s) = None
bytes_taken (kinds.Int ∷ s) = None

-- what is below the truth value on top
abbrev pub bool_taken : List Kind → Option (List Kind)
bool_taken [] = None
bool_taken (kinds.Bool ∷ s) = Some s
bool_taken (kinds.Int ∷ s) = None
bool_taken (kinds.Bytes n ∷ s) = None

-- what is below the number on top
abbrev pub int_taken : List Kind → Option (List Kind)
int_taken [] = None
int_taken (kinds.Int ∷ s) = Some s
int_taken (kinds.Bool ∷ s) = None
int_taken (kinds.Bytes n ∷ s) = None

-- the kind of each field
abbrev pub field_kind : Field → Kind
field_kind fields.Mac = kinds.Bytes 16
field_kind fields.Hlen = kinds.Int
field_kind fields.Htype = kinds.Int
field_kind fields.Ciaddr = kinds.Bytes 4
field_kind fields.Giaddr = kinds.Bytes 4
field_kind fields.Yiaddr = kinds.Bytes 4
field_kind fields.Siaddr = kinds.Bytes 4
field_kind fields.MessageType = kinds.Int
field_kind fields.Transaction = kinds.Int
field_kind fields.Length = kinds.Int

-- the greatest length of a substring of at most n bytes
abbrev pub bound_of_substring : ℕ → Option ℤ → ℕ
bound_of_substring n None = n
bound_of_substring n (Some count) = min n (unsigned_abs count)

-- the greatest length of the hexadecimal text of at most n bytes, with separators of at most m
-- bytes between them
abbrev pub bound_of_hex : ℕ → ℕ → ℕ
bound_of_hex n m = if n == 0 then 0 else 2 * n + (n - 1) * m

-- what a token that goes on makes of a shape, if it can take what it needs; `names` is the number
-- of names in the program. For branches see their flows (`flows_by`)
unfoldable pub gives : ℕ → Token → List Kind → Option (List Kind)
gives names (tokens.PushBytes bytes) s = Some (kinds.Bytes (length bytes) ∷ s)
gives names (tokens.PushInt number) s = Some (kinds.Int ∷ s)
gives names (tokens.PushOption code) s = Some (kinds.Bytes 4096 ∷ s)
gives names (tokens.PushRelay code) s = Some (kinds.Bytes 255 ∷ s)
gives names (tokens.PushField field) s = Some (field_kind field ∷ s)
gives names (tokens.OptionExists code) s = Some (kinds.Bool ∷ s)
gives names (tokens.RelayExists code) s = Some (kinds.Bool ∷ s)
gives names (tokens.Member index) s = if nat_lt index names then Some (kinds.Bool ∷ s) else None
gives names tokens.Equal s = bytes_taken s >>= λ b. bytes_taken b.1 >>= λ a. Some (kinds.Bool ∷ a.1)
gives names tokens.Not s = bool_taken s >>= λ r. Some (kinds.Bool ∷ r)
gives names tokens.And s = bool_taken s >>= λ q. bool_taken q >>= λ r. Some (kinds.Bool ∷ r)
gives names tokens.Or s = bool_taken s >>= λ q. bool_taken q >>= λ r. Some (kinds.Bool ∷ r)
gives names tokens.IfElse s =
    bytes_taken s >>= λ b. bytes_taken b.1 >>= λ a. bool_taken a.1 >>= λ r. Some
    (kinds.Bytes (max a.0 b.0) ∷ r)
gives names (tokens.Substring start count) s =
    bytes_taken s >>= λ a. Some (kinds.Bytes (bound_of_substring a.0 count) ∷ a.1)
gives names tokens.Concat s =
    bytes_taken s >>= λ b. bytes_taken b.1 >>= λ a. Some (kinds.Bytes (a.0 + b.0) ∷ a.1)
gives names tokens.HexString s =
    bytes_taken s >>= λ b. bytes_taken b.1 >>= λ a. Some (kinds.Bytes (bound_of_hex a.0 b.0) ∷ a.1)
gives names tokens.Lower s = bytes_taken s >>= λ a. Some (kinds.Bytes a.0 ∷ a.1)
gives names tokens.Upper s = bytes_taken s >>= λ a. Some (kinds.Bytes a.0 ∷ a.1)
gives names tokens.IntToText s = int_taken s >>= λ r. Some (kinds.Bytes 10 ∷ r)
gives names tokens.IntBytes s = int_taken s >>= λ r. Some (kinds.Bytes 4 ∷ r)
gives names (tokens.Branch skip) s = None
gives names (tokens.PopBranchFalse skip) s = None
gives names (tokens.BranchFalseElsePop skip) s = None
gives names (tokens.BranchTrueElsePop skip) s = None

-- how many values a token takes from the stack
abbrev pub taken_count : Token → ℕ
taken_count tokens.IfElse = 3
taken_count tokens.Equal = 2
taken_count tokens.And = 2
taken_count tokens.Or = 2
taken_count tokens.Concat = 2
taken_count tokens.HexString = 2
taken_count tokens.Not = 1
taken_count (tokens.Substring start count) = 1
taken_count tokens.Lower = 1
taken_count tokens.Upper = 1
taken_count tokens.IntToText = 1
taken_count tokens.IntBytes = 1
taken_count (tokens.PopBranchFalse skip) = 1
taken_count (tokens.BranchFalseElsePop skip) = 1
taken_count (tokens.BranchTrueElsePop skip) = 1
taken_count token = 0
