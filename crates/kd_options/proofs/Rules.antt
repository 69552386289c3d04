-- The rules of a readable message's options: there is no first fault exactly when they hold.
use Rattle.std.proofs.Common.{◌≡◌, ℕ, ◌≤◌, Bool, true, false, List, [], ◌∷◌, length, Option, Some, None, Result, Ok, refl, sym, ap, ◌∙◌, eq-eqb, eqb-true, le-leb, leb-true, true≢false, arith, ◌<◌, get_or}
use Rattle.std.specs.Prelude.{◌&&◌, nat_le, not, is_some, IfSome, IsSomeAnd, if◌then◌else◌}
use Rattle.kd_wire.specs.Area.{Piece}
use Rattle.kd_options.specs.Joined.{value_of}
use Rattle.kd_options.specs.Options.{IsType, IsAddressValue, IsReadable, is_type, absent_or_address, option_fault}
use Rattle.kd_wire.specs.Header.{header_read}
use Rattle.kd_wire.specs.declared.header.Header.{Header as HeaderRecord}
use Rattle.kd_wire.specs.declared.header.WireFault.{WireFault}
use Rattle.kd_options.specs.Joined.{HasOptions}
use Rattle.kd_options.specs.Message.{IsFirstFault}
use Rattle.kd_options.specs.declared.fault.AddressOption.TheVariants.{RequestedAddress, ServerIdentifier}
use Rattle.kd_options.specs.declared.fault.ReadFault.{ReadFault}
use Rattle.kd_options.specs.declared.fault.ReadFault.TheVariants.{Header, Cut, NoType, BadType, BadOption, Memory}

type_tested : (value : Option (List ℕ)) → is_type value ≡ true → IsSomeAnd value IsType
type_tested None is = absurd (true≢false (sym is))
type_tested (Some []) is = absurd (true≢false (sym is))
type_tested (Some (n ∷ [])) is = by (nat_le 1 n) (nat_le n 8) refl refl is
  where
    by : (a b : Bool) → nat_le 1 n ≡ a → nat_le n 8 ≡ b → (a && b) ≡ true → (1 ≤ n) × (n ≤ 8)
    by true true least greatest both = (leb-true 1 n least, leb-true n 8 greatest)
    by true false least greatest both = absurd (true≢false (sym both))
    by false b least greatest both = absurd (true≢false (sym both))
type_tested (Some (n ∷ m ∷ bytes)) is = absurd (true≢false (sym is))

type_passes : (value : Option (List ℕ)) → IsSomeAnd value IsType → is_type value ≡ true
type_passes None is = absurd is
type_passes (Some []) is = absurd is
type_passes (Some (n ∷ [])) is = rw (le-leb 1 n is.0, le-leb n 8 is.1) refl
type_passes (Some (n ∷ m ∷ bytes)) is = absurd is

type_is_there : (value : Option (List ℕ)) → IsSomeAnd value IsType → is_some value ≡ true
type_is_there None is = absurd is
type_is_there (Some value) is = refl

address_tested : (value : Option (List ℕ)) → absent_or_address value ≡ true → IfSome value IsAddressValue
address_tested None is = tt
address_tested (Some value) is = eqb-true (length value) 4 is

address_passes : (value : Option (List ℕ)) → IfSome value IsAddressValue → absent_or_address value ≡ true
address_passes None is = refl
address_passes (Some value) is = eq-eqb (length value) 4 is

-- readable options have no fault
pub no_fault : (options : List Piece) → IsReadable options → option_fault options ≡ None
unfolding option_fault
no_fault options is =
    rw (type_is_there (value_of 53 options) is.kind, type_passes (value_of 53 options) is.kind, address_passes (value_of 50 options) is.requested, address_passes (value_of 54 options) is.server) refl

-- options without a fault are readable
pub readable : (options : List Piece) → option_fault options ≡ None → IsReadable options
unfolding option_fault
readable options none =
    by (is_some (value_of 53 options)) (is_type (value_of 53 options)) (absent_or_address (value_of 50 options)) (absent_or_address (value_of 54 options)) refl refl refl none
  where
    some : {A : Type 0} (f : ReadFault) → Some f ≡ None → A
    some f e = absurd (true≢false (ap is_some e))

    by : (a b c d : Bool) → is_type (value_of 53 options) ≡ b → absent_or_address (value_of 50 options) ≡ c → absent_or_address (value_of 54 options) ≡ d → (if not a then Some NoType else if not b then Some BadType else if not c then Some (BadOption RequestedAddress) else if not d then Some (BadOption ServerIdentifier) else None) ≡ None → IsReadable options
    by false b c d second third fourth e = some _ e
    by true false c d second third fourth e = some _ e
    by true true false d second third fourth e = some _ e
    by true true true false second third fourth e = some _ e
    by true true true true second third fourth e = record {
      kind = type_tested (value_of 53 options) second;
      requested = address_tested (value_of 50 options) third;
      server = address_tested (value_of 54 options) fourth;
    }

-- a fault that options can have
abbrev is_of_options : ReadFault → Bool
is_of_options (Header fault) = false
is_of_options (Cut at) = false
is_of_options Memory = false
is_of_options fault = true

abbrev may_be_of_options : Option ReadFault → Bool
may_be_of_options None = true
may_be_of_options (Some fault) = is_of_options fault

of_options : (options : List Piece) → may_be_of_options (option_fault options) ≡ true
unfolding option_fault
of_options options =
    by (is_some (value_of 53 options)) (is_type (value_of 53 options)) (absent_or_address (value_of 50 options)) (absent_or_address (value_of 54 options))
  where
    by : (a b c d : Bool) → may_be_of_options (if not a then Some NoType else if not b then Some BadType else if not c then Some (BadOption RequestedAddress) else if not d then Some (BadOption ServerIdentifier) else None) ≡ true
    by false b c d = refl
    by true false c d = refl
    by true true false d = refl
    by true true true false = refl
    by true true true true = refl

-- the fault of a datagram's options is its first
pub first_of_options : (bytes : List ℕ) (header : HeaderRecord) (options : List Piece) (fault : ReadFault) → header_read bytes ≡ Ok header → HasOptions bytes options → Some fault ≡ option_fault options → IsFirstFault fault bytes
first_of_options bytes header options fault head are is =
    by fault is (ap may_be_of_options is ∙ of_options options)
  where
    by : (f : ReadFault) → Some f ≡ option_fault options → is_of_options f ≡ true → IsFirstFault f bytes
    by (Header inner) e t = absurd (true≢false (sym t))
    by (Cut at) e t = absurd (true≢false (sym t))
    by Memory e t = absurd (true≢false (sym t))
    by NoType e t = record { header = header; options = options; header_is = head; options_are = are; first = sym e }
    by BadType e t = record { header = header; options = options; header_is = head; options_are = are; first = sym e }
    by (BadOption option) e t = record { header = header; options = options; header_is = head; options_are = are; first = sym e }

-- a readable message's options have no fault
pub not_readable : (options : List Piece) (fault : ReadFault) → Some fault ≡ option_fault options → IsReadable options → ⊥
not_readable options fault e is = true≢false (ap is_some (e ∙ no_fault options is))

-- two results of reading one header are the same
pub same_header : (a b : HeaderRecord) (answer : Result HeaderRecord WireFault) → answer ≡ Ok a → answer ≡ Ok b → a ≡ b
same_header a b answer x y = cc

-- a type is one byte from 1 to 8
pub type_is : (value : List ℕ) → IsType value → (0 < length value) × (1 ≤ get_or value 0 0) × (get_or value 0 0 ≤ 8) × (value ≡ get_or value 0 0 ∷ [])
type_is [] is = absurd is
type_is (n ∷ []) is = (omega arith, is.0, is.1, refl)
type_is (n ∷ m ∷ bytes) is = absurd is
