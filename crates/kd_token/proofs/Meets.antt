-- The met of two shapes covers both, and what covers both covers it.
use Rattle.std.proofs.Common.{List, [], ◌∷◌, Option, Some, None, arith}
use Rattle.std.specs.Prelude.{MatchOption}
use Rattle.kd_token.specs.declared.shape.Kind.{Kind}
use Rattle.kd_token.specs.declared.shape.Kind.TheVariants as kinds
use Rattle.kd_wire.specs.Steps.{◌>>=◌}
use Rattle.kd_token.specs.Shape.{CoversKind, Covers}
use Rattle.kd_token.specs.Meet.{met_of_kinds, met}

kind_over : (k l : Kind) → MatchOption (met_of_kinds k l) (Unit {0}) (λ m. CoversKind m k × CoversKind m l)
kind_over kinds.Bool kinds.Bool = (tt, tt)
kind_over kinds.Int kinds.Int = (tt, tt)
kind_over (kinds.Bytes n) (kinds.Bytes m) = (omega arith, omega arith)
kind_over kinds.Bool kinds.Int = tt
kind_over kinds.Bool (kinds.Bytes m) = tt
kind_over kinds.Int kinds.Bool = tt
kind_over kinds.Int (kinds.Bytes m) = tt
kind_over (kinds.Bytes n) kinds.Bool = tt
kind_over (kinds.Bytes n) kinds.Int = tt

-- the met covers both
pub met_over : (r s : List Kind) → MatchOption (met r s) (Unit {0}) (λ t. Covers t r × Covers t s)
met_over [] [] = (tt, tt)
met_over [] (l ∷ s) = tt
met_over (k ∷ r) [] = tt
met_over (k ∷ r) (l ∷ s) = both (met_of_kinds k l) (met r s) (kind_over k l) (met_over r s) where
  both : (m : Option Kind) (t : Option (List Kind)) → MatchOption m (Unit {0}) (λ m. CoversKind m k × CoversKind m l) → MatchOption t (Unit {0}) (λ t. Covers t r × Covers t s) → MatchOption (m >>= λ m. t >>= λ t. Some (m ∷ t)) (Unit {0}) (λ u. Covers u (k ∷ r) × Covers u (l ∷ s))
  both None t a b = tt
  both (Some m) None a b = tt
  both (Some m) (Some t) a b = ((a.0, b.0), (a.1, b.1))

kind_least : (x k l : Kind) → CoversKind x k → CoversKind x l → MatchOption (met_of_kinds k l) ⊥ (CoversKind x)
kind_least kinds.Bool kinds.Bool kinds.Bool p q = tt
kind_least kinds.Bool kinds.Bool kinds.Int p q = absurd q
kind_least kinds.Bool kinds.Bool (kinds.Bytes m) p q = absurd q
kind_least kinds.Bool kinds.Int l p q = absurd p
kind_least kinds.Bool (kinds.Bytes n) l p q = absurd p
kind_least kinds.Int kinds.Int kinds.Int p q = tt
kind_least kinds.Int kinds.Int kinds.Bool p q = absurd q
kind_least kinds.Int kinds.Int (kinds.Bytes m) p q = absurd q
kind_least kinds.Int kinds.Bool l p q = absurd p
kind_least kinds.Int (kinds.Bytes n) l p q = absurd p
kind_least (kinds.Bytes x) (kinds.Bytes n) (kinds.Bytes m) p q = omega (arith, p, q)
kind_least (kinds.Bytes x) (kinds.Bytes n) kinds.Bool p q = absurd q
kind_least (kinds.Bytes x) (kinds.Bytes n) kinds.Int p q = absurd q
kind_least (kinds.Bytes x) kinds.Bool l p q = absurd p
kind_least (kinds.Bytes x) kinds.Int l p q = absurd p

-- what covers both covers the met
pub met_least : (x r s : List Kind) → Covers x r → Covers x s → MatchOption (met r s) ⊥ (Covers x)
met_least [] [] [] p q = tt
met_least [] [] (l ∷ s) p q = absurd q
met_least [] (k ∷ r) s p q = absurd p
met_least (j ∷ x) [] s p q = absurd p
met_least (j ∷ x) (k ∷ r) [] p q = absurd q
met_least (j ∷ x) (k ∷ r) (l ∷ s) p q = both (met_of_kinds k l) (met r s) (kind_least j k l p.0 q.0) (met_least x r s p.1 q.1) where
  both : (m : Option Kind) (t : Option (List Kind)) → MatchOption m ⊥ (CoversKind j) → MatchOption t ⊥ (Covers x) → MatchOption (m >>= λ m. t >>= λ t. Some (m ∷ t)) ⊥ (Covers (j ∷ x))
  both None t a b = absurd a
  both (Some m) None a b = absurd b
  both (Some m) (Some t) a b = (a, b)
