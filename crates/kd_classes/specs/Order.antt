-- Client class definitions in order (Kea Administrator Reference Manual, chapter Client
-- Classification): which are accepted, and the first fault of those that are not.
use Rattle.std.specs.Prelude.{◌≡◌, ℕ, ◌<◌, ◌≤◌, nat_eq, Bool, true, false, ◌||◌, List, [], length, take, slice_get, codes, Option, Some, None}
use Rattle.std.specs.List.{list_all, list_any, starts_with}
use Rattle.kd_classes.specs.declared.definition.ClassDef.{ClassDef}
use Rattle.kd_classes.specs.declared.fault.ClassFault.{ClassFault}
use Rattle.kd_classes.specs.declared.fault.ClassFault.TheVariants as faults
use Rattle.kd_machine.specs.Parts.{same}
use Rattle.kd_token.specs.File.{Code}

-- the number of each fault
abbrev pub class_fault_number : ClassFault → ℕ
class_fault_number (faults.Duplicate i) = 60
class_fault_number (faults.UnknownMember i) = 61
class_fault_number faults.TooMany = 62

-- one of these definitions has the name
abbrev pub named_among : List ℕ → List ClassDef → Bool
named_among name defs = list_any (λ def. same name def.name) defs

-- a built-in name: ALL, or one that begins with VENDOR_CLASS_
abbrev pub built_in : List ℕ → Bool
built_in name = same name (codes "ALL") || starts_with nat_eq name (codes "VENDOR_CLASS_")

-- a name is known after these definitions
abbrev pub known_after : List ClassDef → List ℕ → Bool
known_after earlier name = built_in name || named_among name earlier

-- the names of a test's program, used or not
abbrev pub names_of : Option Code → List (List ℕ)
names_of None = []
names_of (Some program) = program.names

-- the names that a definition asks for
abbrev pub asked : ClassDef → List (List ℕ)
asked def = names_of def.test

-- a definition after these has a name of its own and asks only for known names
pub record IsInOrder (earlier : List ClassDef) (def : ClassDef) : Type 0 where
  pub own : named_among def.name earlier ≡ false
  pub known : list_all (known_after earlier) (asked def) ≡ true

-- the first `count` definitions are in order
abbrev pub AreInOrderTo : List ClassDef → ℕ → Type 0
AreInOrderTo defs count =
    (i : ℕ) (def : ClassDef) → i < count → slice_get defs i ≡ Some def → IsInOrder (take i defs) def

-- definitions that are accepted: at most 256, all in order
pub record AreInOrder (defs : List ClassDef) : Type 0 where
  pub few : length defs ≤ 256
  pub each : AreInOrderTo defs (length defs)

-- what is wrong with definition i, after these
abbrev pub IsFaultOf : ℕ → List ClassDef → ClassDef → ClassFault → Type 0
IsFaultOf i earlier def (faults.Duplicate at) = (at ≡ i) × (named_among def.name earlier ≡ true)
IsFaultOf i earlier def (faults.UnknownMember at) =
    (at ≡ i) × (named_among def.name earlier ≡ false)
    × (list_all (known_after earlier) (asked def) ≡ false)
IsFaultOf i earlier def faults.TooMany = ⊥

-- a fault of definition i, given that those before it are in order
pub record IsClassFault (defs : List ClassDef) (i : ℕ) (fault : ClassFault) : Type 0 where
  pub def : ClassDef
  pub at : slice_get defs i ≡ Some def
  pub before : AreInOrderTo defs i
  pub wrong : IsFaultOf i (take i defs) def fault

-- the first fault of definitions: there are more than 256, or it is the fault of the first
-- definition that is not in order
abbrev pub IsFirstClassFault : List ClassDef → ClassFault → Type 0
IsFirstClassFault defs faults.TooMany = 256 < length defs
IsFirstClassFault defs fault = (length defs ≤ 256) × (i : ℕ) × IsClassFault defs i fault
