-- A list of numbers in tiers of equal size; used only in private contracts and invariants.
use Rattle.std.specs.Prelude.{◌≡◌, ℕ, ◌+◌, ◌-◌, ◌*◌, ◌^◌, ◌<◌, ◌≤◌, min, List, length, slice_index_or}
use Rattle.std.specs.List.{All, flat_map}

-- numbers, and how many more there is room for
pub record Roomy : Type 0 where
  pub numbers : List ℕ
  pub room : ℕ

-- tiers have room for 4,096 numbers each, and each is as full as it can be: the remaining numbers
-- are in the tiers after it
pub record AreTiers {T : Type 0} (numbers : T → List ℕ) (capacity : T → ℕ) (tiers : List T)
    : Type 0 where
  pub full : (i : ℕ) (d : T) → i < length tiers
      → length (numbers (slice_index_or tiers i d))
      ≡ min 4096 (length (flat_map numbers tiers) - 4096 * i)
  pub roomy : All (λ tier. 4096 ≤ capacity tier) tiers

-- tiers with this many numbers and this much room
pub record IsTiered {T : Type 0} (numbers : T → List ℕ) (capacity : T → ℕ) (tiers : List T)
    (len room : ℕ) : Type 0 where
  pub stand : AreTiers numbers capacity tiers
  pub counted : len ≡ length (flat_map numbers tiers)
  pub spare : len + room ≡ 4096 * length tiers
  pub bound : len + room < 2 ^ 64
