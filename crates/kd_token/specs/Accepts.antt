-- Accepted programs (our own format): there is an assignment of a shape and a count of steps to the
-- places of a program that holds along every path through it.
use Rattle.std.specs.Prelude.{◌≡◌, ℕ, ◌+◌, ◌<◌, ◌≤◌, nat_lt, List, [], ◌∷◌, length, slice_get, ◌⊎◌, if◌then◌else◌, true, false, Option, Some, None, MatchOption}
use Rattle.std.specs.List.{AllByRecursion}
use Rattle.kd_token.specs.declared.fault.VerifyFault.{VerifyFault}
use Rattle.kd_token.specs.declared.fault.VerifyFault.TheVariants as faults
use Rattle.kd_token.specs.declared.shape.Kind.{Kind}
use Rattle.kd_token.specs.declared.shape.Kind.TheVariants as kinds
use Rattle.kd_token.specs.declared.token.Token.{Token}
use Rattle.kd_token.specs.declared.way.Way.{Way}
use Rattle.kd_token.specs.declared.way.Way.TheVariants as routes
use Rattle.kd_token.specs.declared.token.Token.TheVariants as tokens
use Rattle.kd_token.specs.File.{Code}
use Rattle.kd_wire.specs.Steps.{◌>>=◌}
use Rattle.kd_token.specs.Shape.{Covers, AreShort, gives, bool_taken, taken_count}

-- what is known at a place: the shape of the stack, and how many steps at most led there
pub record Point : Type 0 where
  pub shape : List Kind
  pub count : ℕ

-- a flow from a place: where it leads, and with what
pub record Flow : Type 0 where
  pub to : ℕ
  pub point : Point

-- an assignment: what is known at each place, or nothing if no path leads there
abbrev pub Assignment : Type 0
Assignment = ℕ → Option Point

-- a program begins with the empty stack and no steps
abbrev pub origin : Point
origin = record { shape = []; count = 0 }

-- one more step, to a place, with a shape
abbrev pub flow_to : ℕ → Point → List Kind → Flow
flow_to to q shape = record { to = to; point = record { shape = shape; count = q.count + 1 } }

-- how a token goes on: to the next one, over some, or to either, depending on the truth value on
-- top, which a branch may keep
abbrev pub way_of : Token → Way
way_of (tokens.Branch skip) = routes.Skip skip
way_of (tokens.PopBranchFalse skip) = routes.Fork skip
way_of (tokens.BranchFalseElsePop skip) = routes.Keep false skip
way_of (tokens.BranchTrueElsePop skip) = routes.Keep true skip
way_of token = routes.On

-- the flows of a way from place i
abbrev pub flows_by : Way → ℕ → Token → ℕ → Point → Option (List Flow)
flows_by routes.On names token i q =
    gives names token q.shape >>= λ s. Some (flow_to (i + 1) q s ∷ [])
flows_by (routes.Skip skip) names token i q = Some (flow_to (i + 1 + skip) q q.shape ∷ [])
flows_by (routes.Fork skip) names token i q =
    bool_taken q.shape >>= λ r. Some (flow_to (i + 1 + skip) q r ∷ flow_to (i + 1) q r ∷ [])
flows_by (routes.Keep stays skip) names token i q =
    bool_taken q.shape >>= λ r. Some
    (flow_to (i + 1 + skip) q (kinds.Bool ∷ r) ∷ flow_to (i + 1) q r ∷ [])

-- the flows of a token at place i, or none if it cannot take what it needs
abbrev pub flows : ℕ → Token → ℕ → Point → Option (List Flow)
flows names token i q = flows_by (way_of token) names token i q

-- what leaves place i: nothing if no path leads there, and nothing at the end
abbrev pub leaving : ℕ → Option Token → ℕ → Option Point → Option (List Flow)
leaving names token i None = Some []
leaving names None i (Some q) = Some []
leaving names (Some token) i (Some q) = flows names token i q

-- what leaves place i of a program under an assignment
abbrev pub out : Code → Assignment → ℕ → Option (List Flow)
out p a i = leaving (length p.names) (slice_get p.tokens i) i (a i)

-- a place knows at least what a flow brings: its shape covers the flow's, and its count is no less
abbrev pub IsCovered : Option Point → Point → Type 0
IsCovered None q = ⊥
IsCovered (Some x) q = Covers x.shape q.shape × (q.count ≤ x.count)

-- a flow is within the declared depth and length
abbrev pub IsWithin : Code → Flow → Type 0
IsWithin p f = (length f.point.shape ≤ p.depth) × AreShort p.bound f.point.shape

-- place j is sound: the first is the origin; every flow to j is covered there; its token can take
-- what it needs, and what it leaves is within what is declared
pub record IsSoundAt (p : Code) (a : Assignment) (j : ℕ) : Type 0 where
  pub start : j ≡ 0 → a j ≡ Some origin
  pub enter : (i : ℕ) → MatchOption (out p a i) (Unit {0})
      (AllByRecursion (λ f. f.to ≡ j → IsCovered (a j) f.point))
  pub leave : MatchOption (out p a j) ⊥ (AllByRecursion (IsWithin p))

-- the places before n are sound
abbrev pub AreSound : Code → Assignment → ℕ → Type 0
AreSound p a n = (j : ℕ) → j < n → IsSoundAt p a j

-- all places are sound, including the end
abbrev pub IsSoundThroughout : Code → Assignment → Type 0
IsSoundThroughout p a = AreSound p a (length p.tokens + 1)

-- the end is reached within the declared steps
abbrev pub EndsInTime : Code → Assignment → Type 0
EndsInTime p a = MatchOption (a (length p.tokens)) ⊥ (λ q. q.count ≤ p.steps)

-- the stack at the end is one truth value
abbrev pub EndsWithBool : Code → Assignment → Type 0
EndsWithBool p a = MatchOption (a (length p.tokens)) ⊥ (λ q. q.shape ≡ kinds.Bool ∷ [])

-- an accepted program: some assignment is sound throughout and ends in time with one truth value
abbrev pub Accepts : Code → Type 0
Accepts p = (a : Assignment) × IsSoundThroughout p a × EndsInTime p a × EndsWithBool p a

-- the first place that cannot be sound: those before it can be, but not together with it
abbrev pub IsFaultAt : Code → ℕ → Type 0
IsFaultAt p at =
    (at ≤ length p.tokens) × ((a : Assignment) × AreSound p a at)
    × ((a : Assignment) → AreSound p a (at + 1) → ⊥)

-- all places can be sound, but never so that the end comes in time
abbrev pub IsTooManySteps : Code → Type 0
IsTooManySteps p =
    ((a : Assignment) × IsSoundThroughout p a)
    × ((a : Assignment) → IsSoundThroughout p a → EndsInTime p a → ⊥)

-- all places can be sound with the end in time, but then the end is never one truth value
abbrev pub IsNoFinish : Code → Type 0
IsNoFinish p =
    ((a : Assignment) × IsSoundThroughout p a × EndsInTime p a)
    × ((a : Assignment) → IsSoundThroughout p a → EndsInTime p a → EndsWithBool p a → ⊥)

-- what a fault of the verifier means; out of memory may come for any program
abbrev pub IsVerifyFault : Code → VerifyFault → Type 0
IsVerifyFault p (faults.Short at) = IsFaultAt p at
IsVerifyFault p (faults.Kind at) = IsFaultAt p at
IsVerifyFault p (faults.Name at) = IsFaultAt p at
IsVerifyFault p (faults.Deep at) = IsFaultAt p at
IsVerifyFault p (faults.Long at) = IsFaultAt p at
IsVerifyFault p faults.Steps = IsTooManySteps p
IsVerifyFault p faults.Finish = IsNoFinish p
IsVerifyFault p faults.Memory = Unit {0}

-- the place that a fault reports
abbrev pub place_of : VerifyFault → Option ℕ
place_of (faults.Short at) = Some at
place_of (faults.Kind at) = Some at
place_of (faults.Deep at) = Some at
place_of (faults.Long at) = Some at
place_of (faults.Name at) = Some at
place_of faults.Steps = None
place_of faults.Finish = None
place_of faults.Memory = None

-- the fault is this one, or there was no memory to find it
abbrev pub IsInPlaceOf : VerifyFault → VerifyFault → Type 0
IsInPlaceOf wanted fault = (fault ≡ wanted) ⊎ (fault ≡ faults.Memory)

-- the fault reports this place, or there was no memory to find it
abbrev pub IsPlaceOf : ℕ → VerifyFault → Type 0
IsPlaceOf at fault = (place_of fault ≡ Some at) ⊎ (fault ≡ faults.Memory)

-- what a token leaves on the stack; a branch that keeps its truth value leaves it there
abbrev pub leaves : Way → ℕ → Token → List Kind → Option (List Kind)
leaves routes.On names token s = gives names token s
leaves (routes.Skip skip) names token s = Some s
leaves (routes.Fork skip) names token s = bool_taken s
leaves (routes.Keep stays skip) names token s = bool_taken s >>= λ r. Some (kinds.Bool ∷ r)

-- the fault of a token that cannot take what it needs from this many values: a missing name,
-- otherwise too few values, otherwise another kind
abbrev pub misfit_of : Token → ℕ → ℕ → VerifyFault
misfit_of (tokens.Member index) values at = faults.Name at
misfit_of token values at =
    if nat_lt values (taken_count token) then faults.Short at else faults.Kind at

-- the greatest length of the value on top, if it is a byte string
abbrev pub top_length : List Kind → ℕ
top_length [] = 0
top_length (kinds.Bytes n ∷ s) = n
top_length (kinds.Bool ∷ s) = 0
top_length (kinds.Int ∷ s) = 0

-- the fault of what a token leaves: more values than declared, otherwise a longer one on top than
-- declared
abbrev pub excess : Code → ℕ → List Kind → Option VerifyFault
excess p at s =
    if nat_lt p.depth (length s) then Some (faults.Deep at)
    else if nat_lt p.bound (top_length s) then Some (faults.Long at)
    else None

-- the fault of a token that finds this many values and leaves this
abbrev pub fault_by : Code → ℕ → Token → ℕ → Option (List Kind) → Option VerifyFault
fault_by p at token values None = Some (misfit_of token values at)
fault_by p at token values (Some s) = excess p at s

-- the fault of a token at this place with this shape before it, if it is at fault
abbrev pub token_fault : Code → ℕ → Token → List Kind → Option VerifyFault
token_fault p at token s =
    fault_by p at token (length s) (leaves (way_of token) (length p.names) token s)

-- what is known at place j is enough: the origin if it is the first, and what each flow to it
-- brings
pub record IsEntered (p : Code) (a : Assignment) (j : ℕ) : Type 0 where
  pub start : j ≡ 0 → a j ≡ Some origin
  pub enter : (i : ℕ) → MatchOption (out p a i) (Unit {0})
      (AllByRecursion (λ f. f.to ≡ j → IsCovered (a j) f.point))

-- the least shape that is possible at place j, if those before it are sound
pub record IsLeastShape (p : Code) (j : ℕ) (s : List Kind) : Type 0 where
  pub some : Assignment
  pub sound : AreSound p some j
  pub entered : IsEntered p some j
  pub shape : MatchOption (some j) ⊥ (λ q. q.shape ≡ s)
  pub least : (a : Assignment) → AreSound p a j → IsEntered p a j
      → MatchOption (a j) ⊥ (λ q. Covers q.shape s)

-- no shape is possible at place j: the paths to it bring different ones
abbrev pub IsClash : Code → ℕ → Type 0
IsClash p j = (a : Assignment) → AreSound p a j → IsEntered p a j → ⊥

-- the fault at a place: Kind if no shape is possible there, otherwise that of its token with the
-- least shape
abbrev pub IsFaultThere : Code → VerifyFault → ℕ → Type 0
IsFaultThere p fault at = (IsClash p at × (fault ≡ faults.Kind at))
    ⊎ ((token : Token) × (s : List Kind) × (slice_get p.tokens at ≡ Some token)
    × IsLeastShape p at s × (token_fault p at token s ≡ Some fault))

-- a fault that reports a place is the one there
abbrev pub IsRightFault : Code → VerifyFault → Type 0
IsRightFault p fault = MatchOption (place_of fault) (Unit {0}) (IsFaultThere p fault)
