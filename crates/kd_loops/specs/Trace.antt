-- What happens at a link, in order: datagrams come, its clock is read, and replies are handed over
-- to be sent.
use Rattle.std.specs.Prelude.{◌≡◌, ℕ, Bool, List, [], ◌∷◌, ◌++◌, Option, None, Some, take}
use Rattle.kd_loops.specs.declared.happening.Happening.{Happening}
use Rattle.kd_loops.specs.declared.happening.Happening.TheVariants as happens

-- what is known to have happened grows by more, or is forgotten for good
abbrev pub Grows : Option (List Happening) → Option (List Happening) → List Happening → Type 0
Grows None new more = new ≡ None
Grows (Some old) None more = Unit {0}
Grows (Some old) (Some new) more = new ≡ old ++ more

-- a datagram comes, waited for or not; the start of the buffer holds all of it, up to its room
pub record Comes (waited : Bool) (old out : Option (List Happening)) (room : ℕ)
    (front : List ℕ) : Type 0 where
  pub datagram : List ℕ
  pub grows : Grows old out (happens.Came waited datagram ∷ [])
  pub cut : front ≡ take room datagram
