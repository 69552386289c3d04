-- One place of the table is visited: what the table maintains holds at the next place.
use Rattle.std.proofs.Common.{◌≡◌, ℕ, zero, suc, ◌++◌, ◌+◌, ◌<◌, ◌≤◌, Bool, true, false, List, [], ◌∷◌, length, Option, Some, None, refl, sym, ap, subst, ◌∙◌, arith, inl, inr}
use Rattle.std.specs.Prelude.{◌⊎◌, ◌==◌, if◌then◌else◌, slice_get, get_or, Result, Ok, Err, MatchOption, MatchResult}
use Rattle.std.specs.List.{AllByRecursion}
use Rattle.std.proofs.lemmas.Bool.{cases_lt}
use Rattle.std.proofs.lemmas.Option.{slice_get_past}
use Rattle.kd_token.specs.declared.fault.VerifyFault.{VerifyFault}
use Rattle.kd_token.specs.declared.fault.VerifyFault.TheVariants as faults
use Rattle.kd_token.specs.declared.shape.Kind.{Kind}
use Rattle.kd_token.specs.declared.shape.Kind.TheVariants as kinds
use Rattle.kd_token.specs.declared.token.Token.{Token}
use Rattle.kd_token.specs.declared.table.Entry.{Entry}
use Rattle.kd_token.specs.declared.table.Entry.TheVariants.{Unreached, Joined, Clash}
use Rattle.kd_token.specs.File.{Code, HasFile}
use Rattle.kd_token.specs.Shape.{Covers}
use Rattle.kd_token.specs.Accepts.{Point, Flow, Assignment, flows, leaving, out, IsCovered, IsWithin, IsSoundThroughout, IsFaultAt, IsTooManySteps, IsNoFinish, IsVerifyFault, Accepts, place_of}
use Rattle.kd_token.specs.Table.{entry_at, point, arrived, spread, IsBelow, IsCoveredBy, IsPassed, IsPoint, IsTidy, IsAt}
use Rattle.kd_token.proofs.Passing.{changed}
use Rattle.kd_token.proofs.Passes.{all_map, changed_there, passed_none, passed_on, sound_on}
use Rattle.kd_token.proofs.Ends.{above_here, clash_fault, leave_fault}
use Rattle.kd_token.proofs.Tidy.{spread_tidy, tidy_more, flows_tidy, flows_reach, reach_within}

-- what flows bring to a place depends only on what is there
spread_same : (fs : List Flow) (e g : ℕ → Entry) (j : ℕ) → e j ≡ g j → spread fs e j ≡ spread fs g j
spread_same [] e g j is = is
spread_same (f ∷ fs) e g j is = spread_same fs (λ k. if k == f.to then arrived f.point (e k) else e k) (λ k. if k == f.to then arrived f.point (g k) else g k) j (by_test (j == f.to)) where
  by_test : (b : Bool) → (if b then arrived f.point (e j) else e j) ≡ (if b then arrived f.point (g j) else g j)
  by_test true = ap (arrived f.point) is
  by_test false = is

-- the pass looks only at the places from there on
passed_same : (p : Code) (n : ℕ) (e g : ℕ → Entry) → IsPassed p n e → ((j : ℕ) → n ≤ j → e j ≡ g j) → IsPassed p n g
passed_same p n e g k same = record {
  least = λ a s j le start arrive. let P : Entry → Type 0 = λ f. IsBelow f (a j) in subst P (same j le) (k.least a s j le start arrive);
  some = k.some;
  sound = k.sound;
  covers = λ j le i less. all_map (λ f. f.to ≡ j → IsCoveredBy (e j) f.point) (λ f. f.to ≡ j → IsCoveredBy (g j) f.point) (out p k.some i) (λ f c is. let P : Entry → Type 0 = λ x. IsCoveredBy x f.point in subst P (same j le) (c is)) (k.covers j le i less);
  first = λ z. let le : n ≤ 0 = omega (arith, z) in sym (same 0 le) ∙ k.first z;
}

-- a place that no path reaches is visited
pub visited_none : (p : Code) (n : ℕ) (t u : List Entry) → IsAt p n t → entry_at t n ≡ Unreached → length u ≡ length t → ((j : ℕ) → n + 1 ≤ j → entry_at u j ≡ entry_at t j) → IsAt p (n + 1) u
visited_none p n t u at is size same = record {
  size = size ∙ at.size;
  passed = passed_same p (n + 1) (entry_at t) (entry_at u) next (λ j le. sym (same j le));
  tidy = λ j le. let P : Entry → Type 0 = IsTidy p (n + 1) in subst P (sym (same j le)) (tidy_more p n (entry_at t j) (at.tidy j (omega (arith, le))));
  reached = ahead (cases_lt n at.reached.0);
} where
  next : IsPassed p (n + 1) (entry_at t)
  next = let P : Entry → Type 0 = λ e. IsPoint e None in passed_on p n (entry_at t) None [] at.passed (subst P (sym is) refl) refl tt

  ahead : (n < at.reached.0) ⊎ (at.reached.0 ≤ n) → (j : ℕ) × (n + 1 ≤ j) × (j ≤ length p.tokens) × (entry_at u j ≡ Unreached → ⊥)
  ahead (inl more) =
      let le : n + 1 ≤ at.reached.0 = omega (arith, more) in
      (at.reached.0, le, at.reached.2, λ e. at.reached.3 (sym (same at.reached.0 le) ∙ e))
  ahead (inr none) =
      let here : n ≡ at.reached.0 = omega (arith, none, at.reached.1) in
      let P : ℕ → Type 0 = λ j. entry_at t j ≡ Unreached in
      absurd (at.reached.3 (subst P here is))

-- a place with a shape is visited
pub visited : (p : Code) (n : ℕ) (s : List Kind) (c : ℕ) (token : Token) (t v u : List Entry) → HasFile p → IsAt p n t → entry_at t n ≡ Joined s c → slice_get p.tokens n ≡ Some token → length u ≡ length t → ((j : ℕ) → n + 1 ≤ j → entry_at v j ≡ entry_at t j)
    → MatchOption (flows (length p.names) token n (point s c)) ⊥ (λ fs. AllByRecursion (IsWithin p) fs × ((j : ℕ) → entry_at u j ≡ spread fs (entry_at v) j)) → IsAt p (n + 1) u
visited p n s c token t v u file at is there size same settled = by (flows (length p.names) token n (point s c)) refl settled where
  q : Point
  q = point s c

  known : IsPoint (entry_at t n) (Some q)
  known = let P : Entry → Type 0 = λ e. IsPoint e (Some q) in subst P (sym is) refl

  room : IsTidy p n (Joined s c)
  room = let P : Entry → Type 0 = IsTidy p n in subst P is (at.tidy n (omega arith))

  by : (o : Option (List Flow)) → flows (length p.names) token n q ≡ o → MatchOption o ⊥ (λ fs. AllByRecursion (IsWithin p) fs × ((j : ℕ) → entry_at u j ≡ spread fs (entry_at v) j)) → IsAt p (n + 1) u
  by None e m = absurd m
  by (Some fs) e m =
      let leaves : leaving (length p.names) (slice_get p.tokens n) n (Some q) ≡ Some fs = let P : Option Token → Type 0 = λ o. leaving (length p.names) o n (Some q) ≡ Some fs in subst P (sym there) e in
      let next : IsPassed p (n + 1) (spread fs (entry_at t)) = passed_on p n (entry_at t) (Some q) fs at.passed known leaves m.0 in
      let now : (j : ℕ) → n + 1 ≤ j → spread fs (entry_at t) j ≡ entry_at u j = λ j le. sym (m.1 j ∙ spread_same fs (entry_at v) (entry_at t) j (same j le)) in
      let found = flows_reach (length p.names) token n (length p.tokens) q fs (entry_at t) (reach_within p n token file there) e in
      record {
        size = size ∙ at.size;
        passed = passed_same p (n + 1) (spread fs (entry_at t)) (entry_at u) next now;
        tidy = λ j le. let P : Entry → Type 0 = IsTidy p (n + 1) in subst P (now j le) (spread_tidy p (n + 1) fs (entry_at t) j (tidy_more p n (entry_at t j) (at.tidy j (omega (arith, le)))) (flows_tidy p token n n q fs room.1 e m.0));
        reached = (found.0, found.1, found.2, λ z. found.3 (now found.0 found.1 ∙ z));
      }

-- a fault that names the first place that cannot be sound
pub placed : (p : Code) (n : ℕ) (fault : VerifyFault) → place_of fault ≡ Some n → IsFaultAt p n → IsVerifyFault p fault
placed p n fault is at = by fault is where
  same : (m : ℕ) → Some m ≡ Some n → IsFaultAt p m
  same m e = let here : n ≡ m = cc in let P : ℕ → Type 0 = IsFaultAt p in subst P here at

  by : (fault : VerifyFault) → place_of fault ≡ Some n → IsVerifyFault p fault
  by (faults.Short m) e = same m e
  by (faults.Kind m) e = same m e
  by (faults.Deep m) e = same m e
  by (faults.Long m) e = same m e
  by (faults.Name m) e = same m e
  by faults.Steps e = let none : ⊥ = cc in absurd none
  by faults.Finish e = let none : ⊥ = cc in absurd none
  by faults.Memory e = let none : ⊥ = cc in absurd none

-- a token that cannot be passed
pub refused : (p : Code) (n : ℕ) (s : List Kind) (c : ℕ) (token : Token) (t : List Entry) (fault : VerifyFault) → IsAt p n t → entry_at t n ≡ Joined s c → slice_get p.tokens n ≡ Some token → n ≤ length p.tokens
    → place_of fault ≡ Some n → MatchOption (flows (length p.names) token n (point s c)) (Unit {0}) (λ fs. AllByRecursion (IsWithin p) fs → ⊥) → IsVerifyFault p fault
refused p n s c token t fault at is there le place not = placed p n fault place (leave_fault p n (entry_at t) s c token at.passed le is there not)

-- paths that bring different shapes
pub clashed : (p : Code) (n : ℕ) (t : List Entry) → IsAt p n t → entry_at t n ≡ Clash → n ≤ length p.tokens → IsFaultAt p n
clashed p n t at is le = clash_fault p n (entry_at t) at.passed le is

-- the table with only the origin
pub begins : (p : Code) (t : List Entry) → length t ≡ length p.tokens + 1 → entry_at t 0 ≡ Joined [] 0 → ((j : ℕ) → 0 < j → entry_at t j ≡ Unreached) → IsAt p 0 t
begins p t size zero_is others = record {
  size = size;
  passed = passed_none p (entry_at t) zero_is others;
  tidy = λ j le. tidy_by j (cases_lt 0 j);
  reached = (0, omega arith, omega arith, λ e. let same : Joined [] 0 ≡ Unreached = sym zero_is ∙ e in let none : ⊥ = cc in none);
} where
  tidy_by : (j : ℕ) → (0 < j) ⊎ (j ≤ 0) → IsTidy p 0 (entry_at t j)
  tidy_by j (inl more) = let P : Entry → Type 0 = IsTidy p 0 in subst P (sym (others j more)) tt
  tidy_by j (inr none) =
      let e : 0 ≡ j = omega (arith, none) in
      let P : ℕ → Type 0 = λ m. IsTidy p 0 (entry_at t m) in
      let Q : Entry → Type 0 = IsTidy p 0 in
      subst P e (subst Q (sym zero_is) ((omega arith, tt), omega arith))

-- the end of the pass: what arrived there is the point of a sound assignment
abbrev pub SoundEnd : Code → List Kind → ℕ → Type 0
SoundEnd p s c = (a : Assignment) × IsSoundThroughout p a × (a (length p.tokens) ≡ Some (point s c))

pub ends : (p : Code) (s : List Kind) (c : ℕ) (t : List Entry) → IsAt p (length p.tokens) t → entry_at t (length p.tokens) ≡ Joined s c → SoundEnd p s c
ends p s c t at is =
    let n : ℕ = length p.tokens in
    let q : Point = point s c in
    let past : slice_get p.tokens (length p.tokens) ≡ None = slice_get_past p.tokens (length p.tokens) (omega arith) in
    let P : Entry → Type 0 = λ e. IsPoint e (Some q) in
    let R : Option Token → Type 0 = λ o. leaving (length p.names) o (length p.tokens) (Some q) ≡ Some [] in
    (changed at.passed.some (length p.tokens) (Some q), sound_on p (length p.tokens) (entry_at t) (Some q) [] at.passed (subst P (sym is) refl) (subst R (sym past) refl) tt, changed_there at.passed.some (length p.tokens) (Some q))

-- every sound assignment is above what arrived at the end
above_end : (p : Code) (s : List Kind) (c : ℕ) (t : List Entry) → IsAt p (length p.tokens) t → entry_at t (length p.tokens) ≡ Joined s c → (a : Assignment) → IsSoundThroughout p a → IsCovered (a (length p.tokens)) (point s c)
above_end p s c t at is a sound = let P : Entry → Type 0 = λ e. IsBelow e (a (length p.tokens)) in subst P is (above_here p (length p.tokens) (entry_at t) at.passed a sound)

pub accepted : (p : Code) (s : List Kind) (c : ℕ) (t : List Entry) → IsAt p (length p.tokens) t → entry_at t (length p.tokens) ≡ Joined s c → c ≤ p.steps → s ≡ kinds.Bool ∷ [] → Accepts p
accepted p s c t at is le bool =
    let e = ends p s c t at is in
    let P : Option Point → Type 0 = λ o. MatchOption o ⊥ (λ q. q.count ≤ p.steps) in
    let R : Option Point → Type 0 = λ o. MatchOption o ⊥ (λ q. q.shape ≡ kinds.Bool ∷ []) in
    (e.0, e.1, subst P (sym e.2) le, subst R (sym e.2) bool)

pub too_many : (p : Code) (s : List Kind) (c : ℕ) (t : List Entry) → IsAt p (length p.tokens) t → entry_at t (length p.tokens) ≡ Joined s c → p.steps < c → IsTooManySteps p
too_many p s c t at is more =
    let e = ends p s c t at is in
    ((e.0, e.1), λ a sound in_time. late (a (length p.tokens)) (above_end p s c t at is a sound) in_time) where
      late : (o : Option Point) → IsCovered o (point s c) → MatchOption o ⊥ (λ q. q.count ≤ p.steps) → ⊥
      late None above in_time = above
      late (Some q) above in_time = absurd (omega (arith, more, above.1, in_time))

covered_bool : (s : List Kind) → Covers (kinds.Bool ∷ []) s → s ≡ kinds.Bool ∷ []
covered_bool [] c = absurd c
covered_bool (kinds.Bool ∷ []) c = refl
covered_bool (kinds.Int ∷ s) c = absurd c.0
covered_bool (kinds.Bytes n ∷ s) c = absurd c.0
covered_bool (kinds.Bool ∷ k ∷ s) c = absurd c.1

pub no_finish : (p : Code) (s : List Kind) (c : ℕ) (t : List Entry) → IsAt p (length p.tokens) t → entry_at t (length p.tokens) ≡ Joined s c → c ≤ p.steps → (s ≡ kinds.Bool ∷ [] → ⊥) → IsNoFinish p
no_finish p s c t at is le other =
    let e = ends p s c t at is in
    let P : Option Point → Type 0 = λ o. MatchOption o ⊥ (λ q. q.count ≤ p.steps) in
    ((e.0, e.1, subst P (sym e.2) le), λ a sound in_time bool. wrong (a (length p.tokens)) (above_end p s c t at is a sound) bool) where
      wrong : (o : Option Point) → IsCovered o (point s c) → MatchOption o ⊥ (λ q. q.shape ≡ kinds.Bool ∷ []) → ⊥
      wrong None above bool = above
      wrong (Some q) above bool = let P : List Kind → Type 0 = λ r. Covers r s in other (covered_bool s (subst P bool above.0))

-- what indexing reads is the entry there
pub entry_is : (t : List Entry) (i : ℕ) (e : Entry) → i < length t → e ≡ get_or t i e → entry_at t i ≡ e
entry_is [] i e less is = absurd (omega (arith, less))
entry_is (x ∷ t) zero e less is = sym is
entry_is (x ∷ t) (suc i) e less is = entry_is t i e (omega (arith, less)) is

-- a visit, by the result of passing its token
pub visited_by : {A : Type 0} (p : Code) (n : ℕ) (s : List Kind) (c : ℕ) (token : Token) (t v u : List Entry) (r : Result A VerifyFault) → HasFile p → IsAt p n t → entry_at t n ≡ Joined s c → slice_get p.tokens n ≡ Some token → n ≤ length p.tokens → length u ≡ length t
    → ((j : ℕ) → n + 1 ≤ j → entry_at v j ≡ entry_at t j)
    → MatchResult r (λ _. MatchOption (flows (length p.names) token n (point s c)) ⊥ (λ fs. AllByRecursion (IsWithin p) fs × ((j : ℕ) → entry_at u j ≡ spread fs (entry_at v) j)))
    (λ e. (place_of e ≡ Some n) × MatchOption (flows (length p.names) token n (point s c)) (Unit {0}) (λ fs. AllByRecursion (IsWithin p) fs → ⊥))
    → MatchResult r (λ _. IsAt p (n + 1) u) (λ fault. IsVerifyFault p fault)
visited_by p n s c token t v u (Ok a) file at is there le size same m = visited p n s c token t v u file at is there size same m
visited_by p n s c token t v u (Err e) file at is there le size same m = refused p n s c token t e at is there le m.0 m.1

-- a further entry that nothing has reached changes nothing
pub pushed : (t : List Entry) (j : ℕ) → entry_at (t ++ Unreached ∷ []) j ≡ entry_at t j
pushed [] zero = refl
pushed [] (suc j) = refl
pushed (x ∷ t) zero = refl
pushed (x ∷ t) (suc j) = pushed t j
