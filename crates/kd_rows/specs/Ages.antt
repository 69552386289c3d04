-- Positions in the age order, used only in private contracts.
use Rattle.std.specs.Prelude.{◌≡◌, ℕ, ◌+◌, ◌-◌, ◌<◌, ◌≤◌, ◌^◌, Bool, ◌&&◌, not, List, Option, Some, None, length, nat_eq, nat_lt, ◌==◌, slice_index}
use Rattle.std.specs.Cmp.Lexicographic.{pointwise}
use Rattle.kd_rows.specs.declared.age.Age.{Age}
use Rattle.kd_rows.specs.declared.row.Row.{Row}
use Rattle.kd_rows.specs.Index.{IsKeyBelow, age_key}
use Rattle.kd_rows.specs.Zones.{group_in}

-- what a position is ordered by
abbrev pub key_of_age : Age → List ℕ × ℕ
key_of_age place = (age_key place.client.now place.group place.left, place.address)

-- where the rows after a row begin, or where all rows begin
abbrev pub IsAgeFrom : Option Row → ℕ → ℕ → Type 0
IsAgeFrom None left address = (left ≡ 0) × (address ≡ 0)
IsAgeFrom (Some row) left address = (left + row.changed ≡ 2 ^ 64 - 1) × (address ≡ row.address + 1)

-- a position is where the rows of a client and a group begin, all of them or those after another
-- row
pub record IsAgeStart (client : List ℕ) (group : ℕ) (before : Option Row) (place : Age)
    : Type 0 where
  pub owner : place.client.now ≡ client
  pub kind : place.group ≡ group
  pub from : IsAgeFrom before place.left place.address

-- a row belongs to the client and the group of a position
abbrev pub is_of_place : List ℕ → Age → Row → Bool
is_of_place cuts place row =
    pointwise nat_eq row.client place.client.now && (group_in cuts row == place.group)

-- a row's address is from first to last
abbrev pub is_between : ℕ → ℕ → Row → Bool
is_between first last row = not (nat_lt row.address first) && not (nat_lt last row.address)

-- the addresses before an index have keys below k
abbrev pub AreBelow : (ℕ → List ℕ × ℕ) → List ℕ → ℕ → List ℕ × ℕ → Type 0
AreBelow key index place k = (i : ℕ) → i < place → IsKeyBelow (key (slice_index index i)) k

-- the addresses from an index on do not have keys below k
abbrev pub AreNotBelow : (ℕ → List ℕ × ℕ) → List ℕ → ℕ → List ℕ × ℕ → Type 0
AreNotBelow key index place k =
    (i : ℕ) → place ≤ i → i < length index → IsKeyBelow (key (slice_index index i)) k → ⊥
