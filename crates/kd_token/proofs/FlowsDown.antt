-- From a point below another, the flows are below the other's, and within what is declared if those
-- are.
use Rattle.std.proofs.Common.{◌≡◌, ℕ, ◌+◌, ◌≤◌, List, [], ◌∷◌, length, Some, refl, arith}
use Rattle.std.specs.List.{AllByRecursion}
use Rattle.kd_token.specs.declared.shape.Kind.{Kind}
use Rattle.kd_token.specs.declared.shape.Kind.TheVariants as kinds
use Rattle.kd_token.specs.declared.token.Token.{Token}
use Rattle.kd_token.specs.declared.way.Way.{Way}
use Rattle.kd_token.specs.declared.way.Way.TheVariants as routes
use Rattle.kd_token.specs.File.{Code}
use Rattle.kd_token.specs.Shape.{CoversKind, Covers, IsShortKind, AreShort, gives, bool_taken}
use Rattle.kd_token.specs.Accepts.{Point, Flow, flow_to, way_of, flows_by, flows, IsWithin}
use Rattle.kd_token.proofs.Down.{Down, bind_down, bool_down, gives_down}

-- a flow to the same place that brings no more
abbrev pub FlowBelow : Flow → Flow → Type 0
FlowBelow f g = (f.to ≡ g.to) × Covers f.point.shape g.point.shape × (g.point.count ≤ f.point.count)

-- the same for each flow of a list
abbrev pub EachBelow : List Flow → List Flow → Type 0
EachBelow [] [] = Unit {0}
EachBelow [] (g ∷ gs) = ⊥
EachBelow (f ∷ fs) [] = ⊥
EachBelow (f ∷ fs) (g ∷ gs) = FlowBelow f g × EachBelow fs gs

down_by : (way : Way) (names : ℕ) (token : Token) (i : ℕ) (x q : Point) → Covers x.shape q.shape → q.count ≤ x.count → Down EachBelow (flows_by way names token i x) (flows_by way names token i q)
down_by routes.On names token i x q c le =
    bind_down Covers EachBelow (gives names token x.shape) (gives names token q.shape) (λ s. Some (flow_to (i + 1) x s ∷ [])) (λ s. Some (flow_to (i + 1) q s ∷ [])) (gives_down names token x.shape q.shape c) (λ r s d. ((refl, d, omega (arith, le)), tt))
down_by (routes.Skip skip) names token i x q c le = ((refl, c, omega (arith, le)), tt)
down_by (routes.Fork skip) names token i x q c le =
    bind_down Covers EachBelow (bool_taken x.shape) (bool_taken q.shape) (λ r. Some (flow_to (i + 1 + skip) x r ∷ flow_to (i + 1) x r ∷ [])) (λ r. Some (flow_to (i + 1 + skip) q r ∷ flow_to (i + 1) q r ∷ [])) (bool_down x.shape q.shape c) (λ r s d. ((refl, d, omega (arith, le)), ((refl, d, omega (arith, le)), tt)))
down_by (routes.Keep stays skip) names token i x q c le =
    bind_down Covers EachBelow (bool_taken x.shape) (bool_taken q.shape) (λ r. Some (flow_to (i + 1 + skip) x (kinds.Bool ∷ r) ∷ flow_to (i + 1) x r ∷ [])) (λ r. Some (flow_to (i + 1 + skip) q (kinds.Bool ∷ r) ∷ flow_to (i + 1) q r ∷ [])) (bool_down x.shape q.shape c) (λ r s d. ((refl, (tt, d), omega (arith, le)), ((refl, d, omega (arith, le)), tt)))

-- the flows of a point below are below
pub flows_down : (names : ℕ) (token : Token) (i : ℕ) (x q : Point) → Covers x.shape q.shape → q.count ≤ x.count → Down EachBelow (flows names token i x) (flows names token i q)
flows_down names token i x q c le = down_by (way_of token) names token i x q c le

covers_length : (r s : List Kind) → Covers r s → length r ≡ length s
covers_length [] [] c = refl
covers_length [] (l ∷ s) c = absurd c
covers_length (k ∷ r) [] c = absurd c
covers_length (k ∷ r) (l ∷ s) c = let e = covers_length r s c.1 in omega (arith, e)

short_kind_down : (most : ℕ) (k l : Kind) → CoversKind k l → IsShortKind most k → IsShortKind most l
short_kind_down most kinds.Bool kinds.Bool c s = tt
short_kind_down most kinds.Int kinds.Int c s = tt
short_kind_down most (kinds.Bytes n) (kinds.Bytes m) c s = omega (arith, c, s)
short_kind_down most kinds.Bool kinds.Int c s = absurd c
short_kind_down most kinds.Bool (kinds.Bytes m) c s = absurd c
short_kind_down most kinds.Int kinds.Bool c s = absurd c
short_kind_down most kinds.Int (kinds.Bytes m) c s = absurd c
short_kind_down most (kinds.Bytes n) kinds.Bool c s = absurd c
short_kind_down most (kinds.Bytes n) kinds.Int c s = absurd c

short_down : (most : ℕ) (r s : List Kind) → Covers r s → AreShort most r → AreShort most s
short_down most [] [] c a = tt
short_down most [] (l ∷ s) c a = absurd c
short_down most (k ∷ r) [] c a = absurd c
short_down most (k ∷ r) (l ∷ s) c a = (short_kind_down most k l c.0 a.0, short_down most r s c.1 a.1)

-- what is within stays so for flows below
pub within_down : (p : Code) (fs gs : List Flow) → EachBelow fs gs → AllByRecursion (IsWithin p) fs → AllByRecursion (IsWithin p) gs
within_down p [] [] b w = tt
within_down p [] (g ∷ gs) b w = absurd b
within_down p (f ∷ fs) [] b w = absurd b
within_down p (f ∷ fs) (g ∷ gs) b w =
    let len : length f.point.shape ≡ length g.point.shape = covers_length f.point.shape g.point.shape b.0.1 in
    let deep : length f.point.shape ≤ p.depth = w.0.0 in
    ((omega (arith, len, deep), short_down p.bound f.point.shape g.point.shape b.0.1 w.0.1), within_down p fs gs b.1 w.1)
