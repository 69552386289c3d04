-- Lists in a JSON text, and what their values describe.
use Rattle.std.specs.Prelude.{ℕ, nat_le, List, [], ◌∷◌, Option, Some, None}
use Rattle.serde_json.specs.Data.{Data, Items, no_items, item}
use Rattle.serde_json.specs.Events.{items_len}
use Rattle.serde_json.specs.Find.{as_array}
use Rattle.kd_wire.specs.Steps.{◌>>=◌}
use Rattle.kd_fields.specs.Steps.{only_if}

-- the items of a list, at most `most` of them; no items if there is no value
abbrev pub items_or_none : ℕ → Option Data → Option Items
items_or_none most None = Some no_items
items_or_none most (Some d) = do
  items ← as_array d
  only_if (nat_le (items_len items) most) items

-- what the items describe, in order
abbrev pub all_of : {A : Type 0} → (Data → Option A) → Items → Option (List A)
all_of means no_items = Some []
all_of means (item d ds) = do
  x ← means d
  xs ← all_of means ds
  Some (x ∷ xs)

-- what the items of a list describe, at most `most` of them
unfoldable pub list_of : {A : Type 0} → ℕ → (Data → Option A) → Option Data → Option (List A)
list_of most means value = items_or_none most value >>= all_of means
