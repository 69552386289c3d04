-- The result of a reader of a configuration, compared with the definition of what it reads. One of
-- its faults is out of memory.
use Rattle.std.specs.Prelude.{◌≡◌, ◌≢◌, Option, Some, None, Result, Ok, Err}

-- a fault other than out of memory: there is nothing to read
abbrev pub MeansNothing : {A E : Type 0} → E → E → Option A → Type 0
MeansNothing memory fault meant = fault ≢ memory → meant ≡ None

-- a result, viewed by a function, is what is meant
abbrev pub GivesAs : {A B E : Type 0} → E → (A → B) → Result A E → Option B → Type 0
GivesAs memory seen (Ok a) meant = meant ≡ Some (seen a)
GivesAs memory seen (Err fault) meant = MeansNothing memory fault meant

-- a result is what is meant
abbrev pub Means : {A E : Type 0} → E → Result A E → Option A → Type 0
Means memory result meant = GivesAs memory (λ a. a) result meant
