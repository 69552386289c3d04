-- Which options make a message readable, and the first fault of options that do not (RFC 2132
-- sections 9.1, 9.6, 9.7).
use Rattle.std.specs.Prelude.{◌≡◌, ℕ, ◌≤◌, Bool, true, false, not, ◌&&◌, nat_le, List, [], ◌∷◌, length, Option, Some, None, is_some, IfSome, IsSomeAnd, if◌then◌else◌, ◌==◌}
use Rattle.kd_wire.specs.Area.{Piece}
use Rattle.kd_options.specs.Joined.{value_of}
use Rattle.kd_options.specs.declared.fault.AddressOption.TheVariants.{RequestedAddress, ServerIdentifier}
use Rattle.kd_options.specs.declared.fault.ReadFault.{ReadFault}
use Rattle.kd_options.specs.declared.fault.ReadFault.TheVariants.{NoType, BadType, BadOption}

-- a message type: one byte from 1 to 8
abbrev pub IsType : List ℕ → Type 0
IsType [] = ⊥
IsType (n ∷ []) = (1 ≤ n) × (n ≤ 8)
IsType (n ∷ m ∷ bytes) = ⊥

-- an address: four bytes
abbrev pub IsAddressValue : List ℕ → Type 0
IsAddressValue value = length value ≡ 4

-- a readable message's options: 53 is present and is a type; 50 and 54, if present, are addresses
pub record IsReadable (options : List Piece) : Type 0 where
  pub kind : IsSomeAnd (value_of 53 options) IsType
  pub requested : IfSome (value_of 50 options) IsAddressValue
  pub server : IfSome (value_of 54 options) IsAddressValue

-- the test of a message type
abbrev pub is_type : Option (List ℕ) → Bool
is_type None = false
is_type (Some []) = false
is_type (Some (n ∷ [])) = nat_le 1 n && nat_le n 8
is_type (Some (n ∷ m ∷ bytes)) = false

-- the test of an address that may be absent
abbrev pub absent_or_address : Option (List ℕ) → Bool
absent_or_address None = true
absent_or_address (Some value) = length value == 4

-- the first fault of the options: no type, a bad type, a bad option 50, a bad option 54
unfoldable pub option_fault : List Piece → Option ReadFault
option_fault options =
    if not (is_some (value_of 53 options)) then Some NoType
    else if not (is_type (value_of 53 options)) then Some BadType
    else if not (absent_or_address (value_of 50 options)) then Some (BadOption RequestedAddress)
    else if not (absent_or_address (value_of 54 options)) then Some (BadOption ServerIdentifier)
    else None
