-- Helpers of private contracts: keys as borrowed texts.
use Rattle.std.specs.Prelude.{ℕ, Bool, List, bytes_eq, is_some}
use Rattle.std.specs.Borrow.{Bor}
use Rattle.std.specs.List.{list_any}
use Rattle.serde_json.specs.Data.{Data}
use Rattle.serde_json.specs.Find.{get}

-- a key is one of these
abbrev pub is_one_of : List (Bor (List ℕ)) → List ℕ → Bool
is_one_of known key = list_any (λ k. bytes_eq key k.now) known

-- a value has this key
abbrev pub is_there : Data → Bor (List ℕ) → Bool
is_there d key = is_some (get key.now d)
