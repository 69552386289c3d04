-- Where the pass ends: at a place that cannot be sound, or at the end of the program.
use Rattle.std.proofs.Common.{◌≡◌, ℕ, ◌+◌, ◌<◌, ◌≤◌, List, length, Option, Some, None, refl, ap, subst, arith, inl, inr}
use Rattle.std.specs.Prelude.{◌⊎◌, slice_get, MatchOption}
use Rattle.std.specs.List.{AllByRecursion}
use Rattle.std.proofs.lemmas.Bool.{cases_lt}
use Rattle.kd_token.specs.declared.fault.VerifyFault.{VerifyFault}
use Rattle.kd_token.specs.declared.fault.VerifyFault.TheVariants as faults
use Rattle.kd_token.specs.declared.shape.Kind.{Kind}
use Rattle.kd_token.specs.declared.token.Token.{Token}
use Rattle.kd_token.specs.declared.table.Entry.{Entry}
use Rattle.kd_token.specs.declared.table.Entry.TheVariants.{Joined, Clash}
use Rattle.kd_token.specs.File.{Code}
use Rattle.kd_token.specs.Accepts.{Point, Flow, Assignment, flows, leaving, IsWithin, IsSoundAt, AreSound, IsFaultAt, IsTooManySteps, IsNoFinish, IsVerifyFault, IsInPlaceOf, IsPlaceOf, Accepts, IsSoundThroughout}
use Rattle.kd_token.specs.Table.{IsBelow, IsPassed}
use Rattle.kd_token.proofs.Down.{Down}
use Rattle.kd_token.proofs.FlowsDown.{EachBelow, flows_down, within_down}

-- an assignment that is sound through n is above what has arrived at n
pub above_here : (p : Code) (n : ℕ) (entries : ℕ → Entry) → IsPassed p n entries → (a : Assignment) → AreSound p a (n + 1) → IsBelow (entries n) (a n)
above_here p n entries k a s =
    let here : IsSoundAt p a n = s n (omega arith) in
    k.least a (λ i less. s i (omega (arith, less))) n (omega arith) here.start (λ i less. here.enter i)

-- paths that bring different shapes meet
pub clash_fault : (p : Code) (n : ℕ) (entries : ℕ → Entry) → IsPassed p n entries → n ≤ length p.tokens → entries n ≡ Clash → IsFaultAt p n
clash_fault p n entries k le is =
    (le, (k.some, k.sound), λ a s. let P : Entry → Type 0 = λ e. IsBelow e (a n) in let none : ⊥ = subst P is (above_here p n entries k a s) in none)

-- a token cannot take what it needs, or leaves more than is declared
pub leave_fault : (p : Code) (n : ℕ) (entries : ℕ → Entry) (s : List Kind) (c : ℕ) (token : Token) → IsPassed p n entries → n ≤ length p.tokens → entries n ≡ Joined s c → slice_get p.tokens n ≡ Some token
    → MatchOption (flows (length p.names) token n (record { shape = s; count = c })) (Unit {0}) (λ fs. AllByRecursion (IsWithin p) fs → ⊥) → IsFaultAt p n
leave_fault p n entries s c token k le is at not = (le, (k.some, k.sound), refute) where
  q : Point
  q = record { shape = s; count = c }

  none : (gs fs : Option (List Flow)) → MatchOption gs ⊥ (AllByRecursion (IsWithin p)) → Down EachBelow gs fs → MatchOption fs (Unit {0}) (λ fs. AllByRecursion (IsWithin p) fs → ⊥) → ⊥
  none None fs w d never = w
  none (Some gs) None w d never = d
  none (Some gs) (Some fs) w d never = never (within_down p gs fs d w)

  by : (y : Option Point) → IsBelow (Joined s c) y → MatchOption (leaving (length p.names) (Some token) n y) ⊥ (AllByRecursion (IsWithin p)) → ⊥
  by None b w = b
  by (Some y) b w = none (flows (length p.names) token n y) (flows (length p.names) token n q) w (flows_down (length p.names) token n y q b.0 b.1) not

  refute : (a : Assignment) → AreSound p a (n + 1) → ⊥
  refute a sound =
      let here : IsSoundAt p a n = sound n (omega arith) in
      let P : Entry → Type 0 = λ e. IsBelow e (a n) in
      let Q : Option Token → Type 0 = λ t. MatchOption (leaving (length p.names) t n (a n)) ⊥ (AllByRecursion (IsWithin p)) in
      by (a n) (subst P is (above_here p n entries k a sound)) (subst Q at here.leave)

-- a program with a fault at a place is not accepted
pub fault_refuses : (p : Code) (at : ℕ) → IsFaultAt p at → Accepts p → ⊥
fault_refuses p at f a = f.2 a.0 (λ j less. a.1 j (omega (arith, less, f.0)))

pub steps_refuse : (p : Code) → IsTooManySteps p → Accepts p → ⊥
steps_refuse p f a = f.1 a.0 a.1 a.2

pub finish_refuses : (p : Code) → IsNoFinish p → Accepts p → ⊥
finish_refuses p f a = f.1 a.0 a.1 a.2 a.3

-- an accepted program has no fault but out of memory
pub memory_alone : (p : Code) (fault : VerifyFault) → IsVerifyFault p fault → Accepts p → fault ≡ faults.Memory
memory_alone p (faults.Short at) f a = absurd (fault_refuses p at f a)
memory_alone p (faults.Kind at) f a = absurd (fault_refuses p at f a)
memory_alone p (faults.Deep at) f a = absurd (fault_refuses p at f a)
memory_alone p (faults.Long at) f a = absurd (fault_refuses p at f a)
memory_alone p (faults.Name at) f a = absurd (fault_refuses p at f a)
memory_alone p faults.Steps f a = absurd (steps_refuse p f a)
memory_alone p faults.Finish f a = absurd (finish_refuses p f a)
memory_alone p faults.Memory f a = refl

-- a fault at a place leaves no assignment that is sound throughout
fault_unsound : (p : Code) (at : ℕ) → IsFaultAt p at → (a : Assignment) → IsSoundThroughout p a → ⊥
fault_unsound p at f a s = f.2 a (λ j less. s j (omega (arith, less, f.0)))

-- if all places can be sound but not in time, the fault is Steps
pub steps_alone : (p : Code) (fault : VerifyFault) → IsVerifyFault p fault → IsTooManySteps p → IsInPlaceOf faults.Steps fault
steps_alone p (faults.Short at) f s = absurd (fault_unsound p at f s.0.0 s.0.1)
steps_alone p (faults.Kind at) f s = absurd (fault_unsound p at f s.0.0 s.0.1)
steps_alone p (faults.Deep at) f s = absurd (fault_unsound p at f s.0.0 s.0.1)
steps_alone p (faults.Long at) f s = absurd (fault_unsound p at f s.0.0 s.0.1)
steps_alone p (faults.Name at) f s = absurd (fault_unsound p at f s.0.0 s.0.1)
steps_alone p faults.Steps f s = inl refl
steps_alone p faults.Finish f s = absurd (s.1 f.0.0 f.0.1 f.0.2)
steps_alone p faults.Memory f s = inr refl

-- if only the one truth value is missing, the fault is Finish
pub finish_alone : (p : Code) (fault : VerifyFault) → IsVerifyFault p fault → IsNoFinish p → IsInPlaceOf faults.Finish fault
finish_alone p (faults.Short at) f s = absurd (fault_unsound p at f s.0.0 s.0.1)
finish_alone p (faults.Kind at) f s = absurd (fault_unsound p at f s.0.0 s.0.1)
finish_alone p (faults.Deep at) f s = absurd (fault_unsound p at f s.0.0 s.0.1)
finish_alone p (faults.Long at) f s = absurd (fault_unsound p at f s.0.0 s.0.1)
finish_alone p (faults.Name at) f s = absurd (fault_unsound p at f s.0.0 s.0.1)
finish_alone p faults.Steps f s = absurd (f.1 s.0.0 s.0.1 s.0.2)
finish_alone p faults.Finish f s = inl refl
finish_alone p faults.Memory f s = inr refl

-- there is only one first place that cannot be sound
same_place : (p : Code) (m n : ℕ) → IsFaultAt p m → IsFaultAt p n → Some m ≡ Some n
same_place p m n f g = by (cases_lt m n) (cases_lt n m) where
  by : (m < n) ⊎ (n ≤ m) → (n < m) ⊎ (m ≤ n) → Some m ≡ Some n
  by (inl less) other = absurd (f.2 g.1.0 (λ j below. g.1.1 j (omega (arith, less, below))))
  by (inr le) (inl less) = absurd (g.2 f.1.0 (λ j below. f.1.1 j (omega (arith, less, below))))
  by (inr le) (inr ge) = let e : m ≡ n = omega (arith, le, ge) in ap Some e

-- if a place is the first that cannot be sound, the fault reports it
pub place_alone : (p : Code) (at : ℕ) (fault : VerifyFault) → IsVerifyFault p fault → IsFaultAt p at → IsPlaceOf at fault
place_alone p at (faults.Short m) f g = inl (same_place p m at f g)
place_alone p at (faults.Kind m) f g = inl (same_place p m at f g)
place_alone p at (faults.Deep m) f g = inl (same_place p m at f g)
place_alone p at (faults.Long m) f g = inl (same_place p m at f g)
place_alone p at (faults.Name m) f g = inl (same_place p m at f g)
place_alone p at faults.Steps f g = absurd (fault_unsound p at g f.0.0 f.0.1)
place_alone p at faults.Finish f g = absurd (fault_unsound p at g f.0.0 f.0.1)
place_alone p at faults.Memory f g = inr refl
