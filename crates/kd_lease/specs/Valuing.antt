-- What the list of values holds: for proofs only, no promise names it.
use Rattle.std.specs.Prelude.{◌≡◌, ◌≢◌, ℕ, zero, suc, ◌<◌, ◌≤◌, Bool, ◌&&◌, ◌||◌, ◌==◌, List, [], ◌∷◌, Option, Some, option_map, slice_get}
use Rattle.std.specs.List.{find, list_any}
use Rattle.kd_classes.specs.declared.option_list.OptionData.{OptionData}
use Rattle.kd_lease.specs.Given.{always_has, value_in}
use Rattle.kd_lease.specs.declared.values.Coded.{Coded}
use Rattle.kd_wire.specs.Area.{IsCode}

-- the value of a code in a list: that of the first entry that has it
abbrev pub value_at : ℕ → List Coded → Option (List ℕ)
value_at code list =
    option_map (λ entry. entry.value.now) (find (λ entry. entry.code == code) list)

-- one of the entries of a list has the code, and is sent to clients that do not ask for it
abbrev pub always_at : ℕ → List Coded → Bool
always_at code list = list_any (λ entry. entry.always && entry.code == code) list

-- a list after its entry at a place, if there is one, is marked as sent to all clients, or not
abbrev pub marked : Bool → ℕ → List Coded → List Coded
marked always place [] = []
marked always zero (entry ∷ more) =
    record { code = entry.code; value = entry.value; always = entry.always || always } ∷ more
marked always (suc place) (entry ∷ more) = entry ∷ marked always place more

-- the codes of a list are in ascending order, all above this one
abbrev pub RiseAbove : ℕ → List Coded → Type 0
RiseAbove code [] = Unit {0}
RiseAbove code (entry ∷ more) = (code < entry.code) × RiseAbove entry.code more

-- exactly this many entries at the start of a list have codes below this one
abbrev pub IsCodePlace : ℕ → List Coded → ℕ → Type 0
IsCodePlace code [] place = place ≡ 0
IsCodePlace code (entry ∷ more) zero = code ≤ entry.code
IsCodePlace code (entry ∷ more) (suc place) = (entry.code < code) × IsCodePlace code more place

-- the entry at a place of a list, if there is one, does not have this code
abbrev pub HasOtherCode : ℕ → List Coded → ℕ → Type 0
HasOtherCode code list place =
    (entry : Coded) → slice_get list place ≡ Some entry → entry.code ≢ code

-- entries have codes of options
abbrev pub HaveCodes : List Coded → Type 0
HaveCodes [] = Unit {0}
HaveCodes (entry ∷ more) = IsCode entry.code × HaveCodes more

-- a list has, for each code, the value that the options give it, and whether any of them is sent to
-- all clients, in ascending order of code
pub record HasValues (list : List Coded) (options : List OptionData) : Type 0 where
  pub rise : RiseAbove 0 list
  pub codes : HaveCodes list
  pub each : (code : ℕ) → IsCode code → value_at code list ≡ value_in code options
  pub flags : (code : ℕ) → IsCode code → always_at code list ≡ always_has code options
