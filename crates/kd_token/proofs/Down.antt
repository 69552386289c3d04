-- What a token makes of a smaller shape is smaller.
use Rattle.std.proofs.Common.{◌≡◌, ℕ, zero, suc, ◌-◌, ◌*◌, ◌≤◌, Bool, true, false, List, [], ◌∷◌, Option, Some, None, mul_comm, arith}
use Rattle.std.proofs.Math.Nat.{mul-le-mul_left}
use Rattle.std.proofs.lemmas.Bool.{ne_eqb}
use Rattle.std.specs.Prelude.{ℤ, nat_lt, if◌then◌else◌, ◌==◌}
use Rattle.kd_token.specs.declared.shape.Kind.{Kind}
use Rattle.kd_token.specs.declared.shape.Kind.TheVariants as kinds
use Rattle.kd_token.specs.declared.token.Token.{Token}
use Rattle.kd_token.specs.declared.token.Token.TheVariants as tokens
use Rattle.kd_wire.specs.Steps.{◌>>=◌}
use Rattle.kd_token.specs.Shape.{CoversKind, Covers, bytes_taken, bool_taken, int_taken, field_kind, bound_of_substring, bound_of_hex, gives}

-- if the first is present, so is the second, and the relation holds of the two
abbrev pub Down : {A B : Type 0} → (A → B → Type 0) → Option A → Option B → Type 0
Down R None u = Unit {0}
Down R (Some x) None = ⊥
Down R (Some x) (Some y) = R x y

pub bind_down : {A B C D : Type 0} (R : A → B → Type 0) (Q : C → D → Type 0) (o : Option A) (u : Option B) (f : A → Option C) (g : B → Option D) → Down R o u → ((x : A) (y : B) → R x y → Down Q (f x) (g y)) → Down Q (o >>= f) (u >>= g)
bind_down R Q None u f g d h = tt
bind_down R Q (Some x) None f g d h = absurd d
bind_down R Q (Some x) (Some y) f g d h = h x y d

-- a bound and the shape below it, no less than others
abbrev BoundBelow : ℕ × List Kind → ℕ × List Kind → Type 0
BoundBelow x y = (y.0 ≤ x.0) × Covers x.1 y.1

bytes_down : (r s : List Kind) → Covers r s → Down BoundBelow (bytes_taken r) (bytes_taken s)
bytes_down [] s c = tt
bytes_down (k ∷ r) [] c = absurd c
bytes_down (kinds.Bytes n ∷ r) (kinds.Bytes m ∷ s) c = (c.0, c.1)
bytes_down (kinds.Bytes n ∷ r) (kinds.Bool ∷ s) c = absurd c.0
bytes_down (kinds.Bytes n ∷ r) (kinds.Int ∷ s) c = absurd c.0
bytes_down (kinds.Bool ∷ r) (l ∷ s) c = tt
bytes_down (kinds.Int ∷ r) (l ∷ s) c = tt

pub bool_down : (r s : List Kind) → Covers r s → Down Covers (bool_taken r) (bool_taken s)
bool_down [] s c = tt
bool_down (k ∷ r) [] c = absurd c
bool_down (kinds.Bool ∷ r) (kinds.Bool ∷ s) c = c.1
bool_down (kinds.Bool ∷ r) (kinds.Bytes n ∷ s) c = absurd c.0
bool_down (kinds.Bool ∷ r) (kinds.Int ∷ s) c = absurd c.0
bool_down (kinds.Bytes n ∷ r) (l ∷ s) c = tt
bool_down (kinds.Int ∷ r) (l ∷ s) c = tt

int_down : (r s : List Kind) → Covers r s → Down Covers (int_taken r) (int_taken s)
int_down [] s c = tt
int_down (k ∷ r) [] c = absurd c
int_down (kinds.Int ∷ r) (kinds.Int ∷ s) c = c.1
int_down (kinds.Int ∷ r) (kinds.Bytes n ∷ s) c = absurd c.0
int_down (kinds.Int ∷ r) (kinds.Bool ∷ s) c = absurd c.0
int_down (kinds.Bytes n ∷ r) (l ∷ s) c = tt
int_down (kinds.Bool ∷ r) (l ∷ s) c = tt

-- a kind covers itself
pub kind_covers : (k : Kind) → CoversKind k k
kind_covers kinds.Bool = tt
kind_covers kinds.Int = tt
kind_covers (kinds.Bytes n) = omega arith

pub covers_itself : (s : List Kind) → Covers s s
covers_itself [] = tt
covers_itself (k ∷ s) = (kind_covers k, covers_itself s)

substring_down : (n m : ℕ) (count : Option ℤ) → m ≤ n → bound_of_substring m count ≤ bound_of_substring n count
substring_down n m None le = le
substring_down n m (Some z) le = omega (arith, le)

pub hex_down : (n m a b : ℕ) → m ≤ n → b ≤ a → bound_of_hex m b ≤ bound_of_hex n a
hex_down zero zero a b le less = omega arith
hex_down zero (suc m) a b le less = absurd (omega (arith, le))
hex_down (suc n) zero a b le less = omega arith
hex_down (suc n) (suc m) a b le less =
    let fewer : m ≤ n = omega (arith, le) in
    let left : m * b ≤ m * a = mul-le-mul_left m less in
    let right : a * m ≤ a * n = mul-le-mul_left a fewer in
    let turned : m * a ≡ a * m = mul_comm m a in
    let back : n * a ≡ a * n = mul_comm n a in
    let most : m * b ≤ n * a = omega (arith, left, right, turned, back) in
    let no_m : (suc m == 0) ≡ false = ne_eqb (suc m) 0 (λ e. omega (arith, e)) in
    let no_n : (suc n == 0) ≡ false = ne_eqb (suc n) 0 (λ e. omega (arith, e)) in
    let one : suc m - 1 ≡ m = omega arith in
    let two : suc n - 1 ≡ n = omega arith in
    rw (no_m, no_n, one, two) (omega (arith, most, fewer))

-- a token that takes what it needs from a shape also takes it from a smaller one, and leaves no
-- more
pub gives_down : (names : ℕ) (token : Token) (r s : List Kind) → Covers r s → Down Covers (gives names token r) (gives names token s)
unfolding gives
gives_down names (tokens.PushBytes bytes) r s c = (omega arith, c)
gives_down names (tokens.PushInt number) r s c = (tt, c)
gives_down names (tokens.PushOption code) r s c = (omega arith, c)
gives_down names (tokens.PushRelay code) r s c = (omega arith, c)
gives_down names (tokens.PushField field) r s c = (kind_covers (field_kind field), c)
gives_down names (tokens.OptionExists code) r s c = (tt, c)
gives_down names (tokens.RelayExists code) r s c = (tt, c)
gives_down names (tokens.Member index) r s c = same (nat_lt index names) where
  same : (b : Bool) → Down Covers (if b then Some (kinds.Bool ∷ r) else None) (if b then Some (kinds.Bool ∷ s) else None)
  same true = (tt, c)
  same false = tt
gives_down names tokens.Equal r s c =
    bind_down BoundBelow Covers _ _ _ _ (bytes_down r s c) (λ x y d. bind_down BoundBelow Covers _ _ _ _ (bytes_down x.1 y.1 d.1) (λ u v e. (tt, e.1)))
gives_down names tokens.Not r s c = bind_down Covers Covers _ _ _ _ (bool_down r s c) (λ x y d. (tt, d))
gives_down names tokens.And r s c =
    bind_down Covers Covers _ _ _ _ (bool_down r s c) (λ x y d. bind_down Covers Covers _ _ _ _ (bool_down x y d) (λ u v e. (tt, e)))
gives_down names tokens.Or r s c =
    bind_down Covers Covers _ _ _ _ (bool_down r s c) (λ x y d. bind_down Covers Covers _ _ _ _ (bool_down x y d) (λ u v e. (tt, e)))
gives_down names tokens.IfElse r s c =
    bind_down BoundBelow Covers _ _ _ _ (bytes_down r s c) (λ x y d. bind_down BoundBelow Covers _ _ _ _ (bytes_down x.1 y.1 d.1) (λ u v e.
    bind_down Covers Covers _ _ _ _ (bool_down u.1 v.1 e.1) (λ p q f. (omega (arith, d.0, e.0), f))))
gives_down names (tokens.Substring start count) r s c = bind_down BoundBelow Covers _ _ _ _ (bytes_down r s c) (λ x y d. (substring_down x.0 y.0 count d.0, d.1))
gives_down names tokens.Concat r s c =
    bind_down BoundBelow Covers _ _ _ _ (bytes_down r s c) (λ x y d. bind_down BoundBelow Covers _ _ _ _ (bytes_down x.1 y.1 d.1) (λ u v e. (omega (arith, d.0, e.0), e.1)))
gives_down names tokens.HexString r s c =
    bind_down BoundBelow Covers _ _ _ _ (bytes_down r s c) (λ x y d. bind_down BoundBelow Covers _ _ _ _ (bytes_down x.1 y.1 d.1) (λ u v e. (hex_down u.0 v.0 x.0 y.0 e.0 d.0, e.1)))
gives_down names tokens.Lower r s c = bind_down BoundBelow Covers _ _ _ _ (bytes_down r s c) (λ x y d. d)
gives_down names tokens.Upper r s c = bind_down BoundBelow Covers _ _ _ _ (bytes_down r s c) (λ x y d. d)
gives_down names tokens.IntToText r s c = bind_down Covers Covers _ _ _ _ (int_down r s c) (λ x y d. (omega arith, d))
gives_down names tokens.IntBytes r s c = bind_down Covers Covers _ _ _ _ (int_down r s c) (λ x y d. (omega arith, d))
gives_down names (tokens.Branch skip) r s c = tt
gives_down names (tokens.PopBranchFalse skip) r s c = tt
gives_down names (tokens.BranchFalseElsePop skip) r s c = tt
gives_down names (tokens.BranchTrueElsePop skip) r s c = tt
