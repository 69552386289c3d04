-- The fault that the pass reports at a place is the one there.
use Rattle.std.proofs.Common.{◌≡◌, ℕ, Option, Some, None, List, refl, sym, subst, arith, inl, inr}
use Rattle.std.specs.Prelude.{slice_get, Result, Ok, Err, IfErr, MatchOption, MatchResult}
use Rattle.kd_token.specs.declared.fault.VerifyFault.{VerifyFault}
use Rattle.kd_token.specs.declared.fault.VerifyFault.TheVariants as faults
use Rattle.kd_token.specs.declared.shape.Kind.{Kind}
use Rattle.kd_token.specs.declared.token.Token.{Token}
use Rattle.kd_token.specs.declared.table.Entry.{Entry}
use Rattle.kd_token.specs.declared.table.Entry.TheVariants.{Joined, Clash}
use Rattle.kd_token.specs.File.{Code}
use Rattle.kd_token.specs.Shape.{Covers}
use Rattle.kd_token.specs.Accepts.{Point, Assignment, AreSound, IsCovered, IsEntered, IsLeastShape, IsClash, IsFaultThere, IsRightFault, place_of, token_fault}
use Rattle.kd_token.specs.Table.{entry_at, point, IsAt, IsBelow, IsPassed, IsPoint}
use Rattle.kd_token.proofs.Passing.{changed, sound_changed}
use Rattle.kd_token.proofs.Passes.{changed_there, entered_on}

-- an assignment that is sound before a place is above what has arrived there
above : (p : Code) (n : ℕ) (entries : ℕ → Entry) → IsPassed p n entries → (a : Assignment) → AreSound p a n → IsEntered p a n → IsBelow (entries n) (a n)
above p n entries k a sound entered = k.least a sound n (omega arith) entered.start (λ i less. entered.enter i)

-- a shape that has arrived is the least one
least_there : (p : Code) (n : ℕ) (entries : ℕ → Entry) (s : List Kind) (c : ℕ) → IsPassed p n entries → entries n ≡ Joined s c → IsLeastShape p n s
least_there p n entries s c k is = record {
  some = changed k.some n (Some (point s c));
  sound = sound_changed p k.some n (Some (point s c)) k.sound;
  entered = let P : Entry → Type 0 = λ e. IsPoint e (Some (point s c)) in entered_on p n entries (Some (point s c)) k (subst P (sym is) refl);
  shape = let P : Option Point → Type 0 = λ o. MatchOption o ⊥ (λ q. q.shape ≡ s) in subst P (sym (changed_there k.some n (Some (point s c)))) refl;
  least = λ a sound entered. let P : Entry → Type 0 = λ e. IsBelow e (a n) in by (a n) (subst P is (above p n entries k a sound entered));
} where
  by : (o : Option Point) → IsCovered o (point s c) → MatchOption o ⊥ (λ q. Covers q.shape s)
  by None b = b
  by (Some q) b = b.0

-- no shape is possible where paths bring different ones
clash_there : (p : Code) (n : ℕ) (entries : ℕ → Entry) → IsPassed p n entries → entries n ≡ Clash → IsClash p n
clash_there p n entries k is a sound entered =
    let P : Entry → Type 0 = λ e. IsBelow e (a n) in
    let none : ⊥ = subst P is (above p n entries k a sound entered) in
    none

-- the fault where paths bring different shapes
pub clash_right : (p : Code) (n : ℕ) (t : List Entry) → IsAt p n t → entry_at t n ≡ Clash → IsRightFault p (faults.Kind n)
clash_right p n t at is = inl (clash_there p n (entry_at t) at.passed is, refl)

-- the fault of a token
pub token_right : {A : Type 0} (p : Code) (n : ℕ) (s : List Kind) (c : ℕ) (token : Token) (t : List Entry) (r : Result A VerifyFault) → IsAt p n t → entry_at t n ≡ Joined s c → slice_get p.tokens n ≡ Some token
    → IfErr r (λ e. place_of e ≡ Some n) → IfErr r (λ e. token_fault p n token s ≡ Some e) → IfErr r (IsRightFault p)
token_right p n s c token t (Ok a) at is there place fault = tt
token_right p n s c token t (Err e) at is there place fault =
    let P : Option ℕ → Type 0 = λ o. MatchOption o (Unit {0}) (IsFaultThere p e) in
    subst P (sym place) (inr (token, s, there, least_there p n (entry_at t) s c at.passed is, fault))

-- a fault known to have this place, among other things, has this place
pub place_there : {A : Type 0} (P : A → Type 0) (Q : Type 0) (n : ℕ) (r : Result A VerifyFault) → MatchResult r P (λ e. (place_of e ≡ Some n) × Q) → IfErr r (λ e. place_of e ≡ Some n)
place_there P Q n (Ok a) m = tt
place_there P Q n (Err e) m = m.0
