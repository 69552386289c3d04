-- A token leaves what it does not take: below the value that it pushes nothing is longer than
-- before.
use Rattle.std.proofs.Common.{◌≡◌, ℕ, ◌≤◌, Bool, true, false, List, [], ◌∷◌, drop, length, Option, Some, None, refl, sym, subst, arith}
use Rattle.std.specs.Prelude.{nat_lt, if◌then◌else◌, MatchOption}
use Rattle.kd_token.specs.declared.shape.Kind.{Kind}
use Rattle.kd_token.specs.declared.shape.Kind.TheVariants as kinds
use Rattle.kd_token.specs.declared.token.Token.{Token}
use Rattle.kd_token.specs.declared.token.Token.TheVariants as tokens
use Rattle.kd_token.specs.File.{Code}
use Rattle.kd_wire.specs.Steps.{◌>>=◌}
use Rattle.kd_token.specs.Table.{IsRoomFor}
use Rattle.kd_token.specs.Shape.{AreShort, IsShortKind, bytes_taken, bool_taken, int_taken, gives}

-- what holds of a result, if there is one
abbrev pub Keeps : {A : Type 0} → (A → Type 0) → Option A → Type 0
Keeps P o = MatchOption o (Unit {0}) P

pub bind_keeps : {A B : Type 0} (P : A → Type 0) (Q : B → Type 0) (o : Option A) (f : A → Option B) → Keeps P o → ((x : A) → P x → Keeps Q (f x)) → Keeps Q (o >>= f)
bind_keeps P Q None f k h = tt
bind_keeps P Q (Some x) f k h = h x k

-- below a bound that is taken nothing is longer
abbrev RestIsShort : ℕ → ℕ × List Kind → Type 0
RestIsShort most x = AreShort most x.1

bytes_keep : (most : ℕ) (s : List Kind) → AreShort most s → Keeps (RestIsShort most) (bytes_taken s)
bytes_keep most [] a = tt
bytes_keep most (kinds.Bytes n ∷ s) a = a.1
bytes_keep most (kinds.Bool ∷ s) a = tt
bytes_keep most (kinds.Int ∷ s) a = tt

bool_keeps : (most : ℕ) (s : List Kind) → AreShort most s → Keeps (AreShort most) (bool_taken s)
bool_keeps most [] a = tt
bool_keeps most (kinds.Bytes n ∷ s) a = tt
bool_keeps most (kinds.Bool ∷ s) a = a.1
bool_keeps most (kinds.Int ∷ s) a = tt

int_keeps : (most : ℕ) (s : List Kind) → AreShort most s → Keeps (AreShort most) (int_taken s)
int_keeps most [] a = tt
int_keeps most (kinds.Bytes n ∷ s) a = tt
int_keeps most (kinds.Bool ∷ s) a = tt
int_keeps most (kinds.Int ∷ s) a = a.1

-- nothing below the top is longer
abbrev RestOf : ℕ → List Kind → Type 0
RestOf most s = AreShort most (drop 1 s)

-- below the top of what a token gives nothing is longer than before
pub gives_keeps : (most names : ℕ) (token : Token) (s : List Kind) → AreShort most s → Keeps (RestOf most) (gives names token s)
unfolding gives
gives_keeps most names (tokens.PushBytes bytes) s a = a
gives_keeps most names (tokens.PushInt number) s a = a
gives_keeps most names (tokens.PushOption code) s a = a
gives_keeps most names (tokens.PushRelay code) s a = a
gives_keeps most names (tokens.PushField field) s a = a
gives_keeps most names (tokens.OptionExists code) s a = a
gives_keeps most names (tokens.RelayExists code) s a = a
gives_keeps most names (tokens.Member index) s a = same (nat_lt index names) where
  same : (b : Bool) → Keeps (RestOf most) (if b then Some (kinds.Bool ∷ s) else None)
  same true = a
  same false = tt
gives_keeps most names tokens.Equal s a =
    bind_keeps (RestIsShort most) (RestOf most) _ _ (bytes_keep most s a) (λ x k. bind_keeps (RestIsShort most) (RestOf most) _ _ (bytes_keep most x.1 k) (λ y m. m))
gives_keeps most names tokens.Not s a = bind_keeps (AreShort most) (RestOf most) _ _ (bool_keeps most s a) (λ x k. k)
gives_keeps most names tokens.And s a =
    bind_keeps (AreShort most) (RestOf most) _ _ (bool_keeps most s a) (λ x k. bind_keeps (AreShort most) (RestOf most) _ _ (bool_keeps most x k) (λ y m. m))
gives_keeps most names tokens.Or s a =
    bind_keeps (AreShort most) (RestOf most) _ _ (bool_keeps most s a) (λ x k. bind_keeps (AreShort most) (RestOf most) _ _ (bool_keeps most x k) (λ y m. m))
gives_keeps most names tokens.IfElse s a =
    bind_keeps (RestIsShort most) (RestOf most) _ _ (bytes_keep most s a) (λ x k. bind_keeps (RestIsShort most) (RestOf most) _ _ (bytes_keep most x.1 k) (λ y m.
    bind_keeps (AreShort most) (RestOf most) _ _ (bool_keeps most y.1 m) (λ z n. n)))
gives_keeps most names (tokens.Substring start count) s a = bind_keeps (RestIsShort most) (RestOf most) _ _ (bytes_keep most s a) (λ x k. k)
gives_keeps most names tokens.Concat s a =
    bind_keeps (RestIsShort most) (RestOf most) _ _ (bytes_keep most s a) (λ x k. bind_keeps (RestIsShort most) (RestOf most) _ _ (bytes_keep most x.1 k) (λ y m. m))
gives_keeps most names tokens.HexString s a =
    bind_keeps (RestIsShort most) (RestOf most) _ _ (bytes_keep most s a) (λ x k. bind_keeps (RestIsShort most) (RestOf most) _ _ (bytes_keep most x.1 k) (λ y m. m))
gives_keeps most names tokens.Lower s a = bind_keeps (RestIsShort most) (RestOf most) _ _ (bytes_keep most s a) (λ x k. k)
gives_keeps most names tokens.Upper s a = bind_keeps (RestIsShort most) (RestOf most) _ _ (bytes_keep most s a) (λ x k. k)
gives_keeps most names tokens.IntToText s a = bind_keeps (AreShort most) (RestOf most) _ _ (int_keeps most s a) (λ x k. k)
gives_keeps most names tokens.IntBytes s a = bind_keeps (AreShort most) (RestOf most) _ _ (int_keeps most s a) (λ x k. k)
gives_keeps most names (tokens.Branch skip) s a = tt
gives_keeps most names (tokens.PopBranchFalse skip) s a = tt
gives_keeps most names (tokens.BranchFalseElsePop skip) s a = tt
gives_keeps most names (tokens.BranchTrueElsePop skip) s a = tt

short_kind_up : (n m : ℕ) (k : Kind) → n ≤ m → IsShortKind n k → IsShortKind m k
short_kind_up n m kinds.Bool le a = tt
short_kind_up n m kinds.Int le a = tt
short_kind_up n m (kinds.Bytes b) le a = omega (arith, le, a)

-- what is short is short for a greater bound
pub short_up : (n m : ℕ) (s : List Kind) → n ≤ m → AreShort n s → AreShort m s
short_up n m [] le a = tt
short_up n m (k ∷ s) le a = (short_kind_up n m k le a.0, short_up n m s le a.1)

-- a shape with room is given
pub is_given : (p : Code) (names : ℕ) (token : Token) (s t : List Kind) (k : Kind) → AreShort p.bound s → gives names token s ≡ Some t → length t ≤ p.depth → t ≡ k ∷ drop 1 t → IsShortKind p.bound k
    → MatchOption (gives names token s) ⊥ (λ u. (u ≡ t) × IsRoomFor p u)
is_given p names token s t k a is few top short =
    let P : Option (List Kind) → Type 0 = Keeps (RestOf p.bound) in
    let rest : AreShort p.bound (drop 1 t) = subst P is (gives_keeps p.bound names token s a) in
    let Q : List Kind → Type 0 = AreShort p.bound in
    let R : Option (List Kind) → Type 0 = λ o. MatchOption o ⊥ (λ u. (u ≡ t) × IsRoomFor p u) in
    subst R (sym is) (refl, (few, subst Q (sym top) (short, rest)))
