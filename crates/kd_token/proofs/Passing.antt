-- Flows go forward, so an assignment may be changed at a place without the places before it.
use Rattle.std.proofs.Common.{◌≡◌, ℕ, ◌+◌, ◌<◌, ◌≤◌, false, List, [], ◌∷◌, length, Option, Some, None, refl, sym, ap, subst, ◌∙◌, arith, inl, inr}
use Rattle.std.specs.Prelude.{◌⊎◌, ◌==◌, if◌then◌else◌, slice_get, MatchOption}
use Rattle.std.specs.List.{AllByRecursion}
use Rattle.std.proofs.lemmas.Bool.{cases_lt, ne_eqb}
use Rattle.kd_token.specs.declared.shape.Kind.{Kind}
use Rattle.kd_token.specs.declared.shape.Kind.TheVariants as kinds
use Rattle.kd_token.specs.declared.token.Token.{Token}
use Rattle.kd_token.specs.declared.way.Way.{Way}
use Rattle.kd_token.specs.declared.way.Way.TheVariants as routes
use Rattle.kd_token.specs.File.{Code}
use Rattle.kd_wire.specs.Steps.{◌>>=◌}
use Rattle.kd_token.specs.Shape.{gives, bool_taken}
use Rattle.kd_token.specs.Accepts.{Point, Flow, Assignment, flow_to, way_of, flows_by, leaving, out, IsCovered, IsWithin, IsSoundAt, AreSound}

-- every flow goes beyond this place
abbrev AreBeyond : ℕ → List Flow → Type 0
AreBeyond i fs = AllByRecursion (λ f. i < f.to) fs

beyond_by : (way : Way) (names : ℕ) (token : Token) (i : ℕ) (q : Point) → MatchOption (flows_by way names token i q) (Unit {0}) (AreBeyond i)
beyond_by routes.On names token i q = one (gives names token q.shape) where
  one : (o : Option (List Kind)) → MatchOption (o >>= λ s. Some (flow_to (i + 1) q s ∷ [])) (Unit {0}) (AreBeyond i)
  one None = tt
  one (Some s) = (omega arith, tt)
beyond_by (routes.Skip skip) names token i q = (omega arith, tt)
beyond_by (routes.Fork skip) names token i q = two (bool_taken q.shape) where
  two : (o : Option (List Kind)) → MatchOption (o >>= λ r. Some (flow_to (i + 1 + skip) q r ∷ flow_to (i + 1) q r ∷ [])) (Unit {0}) (AreBeyond i)
  two None = tt
  two (Some r) = (omega arith, (omega arith, tt))
beyond_by (routes.Keep stays skip) names token i q = two (bool_taken q.shape) where
  two : (o : Option (List Kind)) → MatchOption (o >>= λ r. Some (flow_to (i + 1 + skip) q (kinds.Bool ∷ r) ∷ flow_to (i + 1) q r ∷ [])) (Unit {0}) (AreBeyond i)
  two None = tt
  two (Some r) = (omega arith, (omega arith, tt))

-- what leaves a place goes beyond it
pub leaving_beyond : (names : ℕ) (t : Option Token) (i : ℕ) (x : Option Point) → MatchOption (leaving names t i x) (Unit {0}) (AreBeyond i)
leaving_beyond names t i None = tt
leaving_beyond names None i (Some q) = tt
leaving_beyond names (Some token) i (Some q) = beyond_by (way_of token) names token i q

-- so nothing arrives from a place that is not before it
pub none_back : (P : Point → Type 0) (j i : ℕ) (o : Option (List Flow)) → j ≤ i → MatchOption o (Unit {0}) (AreBeyond i) → MatchOption o (Unit {0}) (AllByRecursion (λ f. f.to ≡ j → P f.point))
none_back P j i None le b = tt
none_back P j i (Some fs) le b = each fs b where
  each : (fs : List Flow) → AreBeyond i fs → AllByRecursion (λ f. f.to ≡ j → P f.point) fs
  each [] b = tt
  each (f ∷ fs) b = (λ e. absurd (omega (arith, e, b.0, le)), each fs b.1)

-- an assignment changed at one place
abbrev pub changed : Assignment → ℕ → Option Point → Assignment
changed a n x j = if j == n then x else a j

pub changed_else : (a : Assignment) (n : ℕ) (x : Option Point) (j : ℕ) → (j ≡ n → ⊥) → changed a n x j ≡ a j
changed_else a n x j other = let no : (j == n) ≡ false = ne_eqb j n other in rw no refl

-- the places before the changed one stay sound
pub sound_changed : (p : Code) (a : Assignment) (n : ℕ) (x : Option Point) → AreSound p a n → AreSound p (changed a n x) n
sound_changed p a n x sound j less =
    let s : IsSoundAt p a j = sound j less in
    let here : changed a n x j ≡ a j = changed_else a n x j (λ e. omega (arith, e, less)) in
    let out_here : out p (changed a n x) j ≡ out p a j = ap (leaving (length p.names) (slice_get p.tokens j) j) here in
    record {
      start = λ e. here ∙ s.start e;
      enter = λ i. arrives i (cases_le i n);
      leave = let P : Option (List Flow) → Type 0 = λ o. MatchOption o ⊥ (AllByRecursion (IsWithin p)) in subst P (sym out_here) s.leave;
    } where
      cases_le : (i n : ℕ) → (i < n) ⊎ (n ≤ i)
      cases_le i n = cases_lt i n

      arrives : (i : ℕ) → (i < n) ⊎ (n ≤ i) → MatchOption (out p (changed a n x) i) (Unit {0}) (AllByRecursion (λ f. f.to ≡ j → IsCovered (changed a n x j) f.point))
      arrives i (inl before) =
          let here : changed a n x j ≡ a j = changed_else a n x j (λ e. omega (arith, e, less)) in
          let there : changed a n x i ≡ a i = changed_else a n x i (λ e. omega (arith, e, before)) in
          let out_there : out p (changed a n x) i ≡ out p a i = ap (leaving (length p.names) (slice_get p.tokens i) i) there in
          let Q : Option (List Flow) → Type 0 = λ o. MatchOption o (Unit {0}) (AllByRecursion (λ f. f.to ≡ j → IsCovered (changed a n x j) f.point)) in
          let R : Option Point → Type 0 = λ y. MatchOption (out p a i) (Unit {0}) (AllByRecursion (λ f. f.to ≡ j → IsCovered y f.point)) in
          subst Q (sym out_there) (subst R (sym here) ((sound j less).enter i))
      arrives i (inr after) = none_back (IsCovered (changed a n x j)) j i (out p (changed a n x) i) (omega (arith, less, after)) (leaving_beyond (length p.names) (slice_get p.tokens i) i (changed a n x i))
