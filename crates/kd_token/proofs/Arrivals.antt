-- What arrives is covered by what has arrived, and what covers all of it covers that.
use Rattle.std.proofs.Common.{◌≡◌, ℕ, max, Bool, true, false, List, [], ◌∷◌, Option, Some, None, refl, sym, arith}
use Rattle.std.specs.Prelude.{◌==◌, if◌then◌else◌, MatchOption}
use Rattle.std.specs.List.{AllByRecursion}
use Rattle.std.proofs.lemmas.Bool.{eqb-true, eqb-false}
use Rattle.kd_token.specs.declared.shape.Kind.{Kind}
use Rattle.kd_token.specs.declared.shape.Kind.TheVariants as kinds
use Rattle.kd_token.specs.declared.table.Entry.{Entry}
use Rattle.kd_token.specs.declared.table.Entry.TheVariants.{Unreached, Joined, Clash}
use Rattle.kd_token.specs.Shape.{CoversKind, Covers}
use Rattle.kd_token.specs.Meet.{met}
use Rattle.kd_token.specs.Accepts.{Point, Flow, IsCovered}
use Rattle.kd_token.specs.Table.{joined_by, arrived, spread, IsBelow, IsCoveredBy}
use Rattle.kd_token.proofs.Down.{covers_itself}
use Rattle.kd_token.proofs.Meets.{met_over, met_least}

kind_trans : (k l m : Kind) → CoversKind k l → CoversKind l m → CoversKind k m
kind_trans kinds.Bool kinds.Bool m p q = q
kind_trans kinds.Int kinds.Int m p q = q
kind_trans (kinds.Bytes a) (kinds.Bytes b) (kinds.Bytes c) p q = omega (arith, p, q)
kind_trans (kinds.Bytes a) (kinds.Bytes b) kinds.Bool p q = absurd q
kind_trans (kinds.Bytes a) (kinds.Bytes b) kinds.Int p q = absurd q
kind_trans kinds.Bool kinds.Int m p q = absurd p
kind_trans kinds.Bool (kinds.Bytes b) m p q = absurd p
kind_trans kinds.Int kinds.Bool m p q = absurd p
kind_trans kinds.Int (kinds.Bytes b) m p q = absurd p
kind_trans (kinds.Bytes a) kinds.Bool m p q = absurd p
kind_trans (kinds.Bytes a) kinds.Int m p q = absurd p

pub covers_trans : (r s t : List Kind) → Covers r s → Covers s t → Covers r t
covers_trans [] [] t p q = q
covers_trans [] (l ∷ s) t p q = absurd p
covers_trans (k ∷ r) [] t p q = absurd p
covers_trans (k ∷ r) (l ∷ s) [] p q = absurd q
covers_trans (k ∷ r) (l ∷ s) (m ∷ t) p q = (kind_trans k l m p.0 q.0, covers_trans r s t p.1 q.1)

-- an assignment above an entry and a point is above the entry after the point arrived
arrived_least : (q : Point) (e : Entry) (x : Option Point) → IsBelow e x → IsCovered x q → IsBelow (arrived q e) x
arrived_least q Unreached x b c = c
arrived_least q Clash x b c = absurd b
arrived_least q (Joined s n) None b c = absurd b
arrived_least q (Joined s n) (Some x) b c = by_met (met s q.shape) (met_least x.shape s q.shape b.0 c.0) where
  by_met : (o : Option (List Kind)) → MatchOption o ⊥ (Covers x.shape) → IsBelow (joined_by o (max n q.count)) (Some x)
  by_met None d = absurd d
  by_met (Some t) d = (d, omega (arith, b.1, c.1))

-- what an entry covers, it still covers after a point arrived
arrived_keeps : (r : Point) (e : Entry) (q : Point) → IsCoveredBy e q → IsCoveredBy (arrived r e) q
arrived_keeps r Unreached q c = absurd c
arrived_keeps r Clash q c = tt
arrived_keeps r (Joined s n) q c = by_met (met s r.shape) (met_over s r.shape) where
  by_met : (o : Option (List Kind)) → MatchOption o (Unit {0}) (λ t. Covers t s × Covers t r.shape) → IsCoveredBy (joined_by o (max n r.count)) q
  by_met None d = tt
  by_met (Some t) d = (covers_trans t s q.shape d.0 c.0, omega (arith, c.1))

-- the point that arrived is covered
arrived_covers : (q : Point) (e : Entry) → IsCoveredBy (arrived q e) q
arrived_covers q Unreached = (covers_itself q.shape, omega arith)
arrived_covers q Clash = tt
arrived_covers q (Joined s n) = by_met (met s q.shape) (met_over s q.shape) where
  by_met : (o : Option (List Kind)) → MatchOption o (Unit {0}) (λ t. Covers t s × Covers t q.shape) → IsCoveredBy (joined_by o (max n q.count)) q
  by_met None d = tt
  by_met (Some t) d = (d.1, omega arith)

pub spread_least : (fs : List Flow) (entries : ℕ → Entry) (j : ℕ) (x : Option Point) → IsBelow (entries j) x → AllByRecursion (λ f. f.to ≡ j → IsCovered x f.point) fs → IsBelow (spread fs entries j) x
spread_least [] entries j x b c = b
spread_least (f ∷ fs) entries j x b c = spread_least fs (λ k. if k == f.to then arrived f.point (entries k) else entries k) j x (by_test (j == f.to) refl) c.1 where
  by_test : (t : Bool) → (j == f.to) ≡ t → IsBelow (if t then arrived f.point (entries j) else entries j) x
  by_test true e = arrived_least f.point (entries j) x b (c.0 (sym (eqb-true _ _ e)))
  by_test false e = b

pub spread_keeps : (fs : List Flow) (entries : ℕ → Entry) (j : ℕ) (q : Point) → IsCoveredBy (entries j) q → IsCoveredBy (spread fs entries j) q
spread_keeps [] entries j q c = c
spread_keeps (f ∷ fs) entries j q c = spread_keeps fs (λ k. if k == f.to then arrived f.point (entries k) else entries k) j q (by_test (j == f.to)) where
  by_test : (t : Bool) → IsCoveredBy (if t then arrived f.point (entries j) else entries j) q
  by_test true = arrived_keeps f.point (entries j) q c
  by_test false = c

pub spread_covers : (fs : List Flow) (entries : ℕ → Entry) (j : ℕ) → AllByRecursion (λ f. f.to ≡ j → IsCoveredBy (spread fs entries j) f.point) fs
spread_covers [] entries j = tt
spread_covers (f ∷ fs) entries j = (λ e. spread_keeps fs (λ k. if k == f.to then arrived f.point (entries k) else entries k) j f.point (by_test (j == f.to) refl (sym e)), spread_covers fs (λ k. if k == f.to then arrived f.point (entries k) else entries k) j) where
  by_test : (t : Bool) → (j == f.to) ≡ t → j ≡ f.to → IsCoveredBy (if t then arrived f.point (entries j) else entries j) f.point
  by_test true e same = arrived_covers f.point (entries j)
  by_test false e same = absurd (eqb-false _ _ e same)
