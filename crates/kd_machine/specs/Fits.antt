-- A stack fits a shape: the kinds agree place by place, no byte string is longer than the shape
-- allows, and numbers fit in four bytes.
use Rattle.std.specs.Prelude.{◌≡◌, ℕ, ◌^◌, ◌<◌, ◌≤◌, List, [], ◌∷◌, length, Some}
use Rattle.kd_token.specs.Accepts.{Accepts, Point}
use Rattle.kd_token.specs.File.{Code}
use Rattle.kd_token.specs.declared.shape.Kind.{Kind}
use Rattle.kd_token.specs.declared.shape.Kind.TheVariants as kinds
use Rattle.kd_options.specs.Message.{Seen}
use Rattle.kd_machine.specs.Run.{Reached, Segment, first_spot}
use Rattle.kd_machine.specs.World.{world}
use Rattle.kd_machine.specs.Val.{Val, Truth, Number, Text, longest}

-- a value fits a kind
abbrev pub FitsKind : Kind → Val → Type 0
FitsKind kinds.Bool (Truth b) = Unit {0}
FitsKind kinds.Bool (Number n) = ⊥
FitsKind kinds.Bool (Text bytes) = ⊥
FitsKind kinds.Int (Number n) = n < 2 ^ 32
FitsKind kinds.Int (Truth b) = ⊥
FitsKind kinds.Int (Text bytes) = ⊥
FitsKind (kinds.Bytes most) (Text bytes) = length bytes ≤ most
FitsKind (kinds.Bytes most) (Truth b) = ⊥
FitsKind (kinds.Bytes most) (Number n) = ⊥

-- values fit a shape
abbrev pub Fits : List Kind → List Val → Type 0
Fits [] [] = Unit {0}
Fits [] (v ∷ s) = ⊥
Fits (k ∷ r) [] = ⊥
Fits (k ∷ r) (v ∷ s) = FitsKind k v × Fits r s

-- the values at place i of an accepted program after n steps: they fit what an assignment knows
-- there and are within what the program declares
pub record StandsAt (p : Code) (i : ℕ) (n : ℕ) (s : List Val) : Type 0 where
  pub assigned : Accepts p
  pub point : Point
  pub known : assigned.0 i ≡ Some point
  pub fits : Fits point.shape s
  pub counted : n ≤ point.count
  pub place : i ≤ length p.tokens
  pub deep : length s ≤ p.depth
  pub long : longest s ≤ p.bound

-- a run of an accepted program, after n steps, and how far it has come
pub record IsRunning (p : Code) (message : Seen) (held : List (List ℕ)) (n : ℕ)
    (reached : Reached) : Type 0 where
  pub chain : Segment p (world p message held) first_spot n reached
  pub stands : StandsAt p reached.spot.at n reached.spot.stack
  pub depth : reached.peak_depth ≤ p.depth
  pub bound : reached.peak_length ≤ p.bound
  pub covers : longest reached.spot.stack ≤ reached.peak_length
  pub forward : n ≤ reached.spot.at
