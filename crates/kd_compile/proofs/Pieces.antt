-- Pieces of a program: tokens, the points before them and the point after them, so that each path
-- from a place of the piece leads to a place that knows what it brings.
use Rattle.std.proofs.Common.{◌≡◌, ℕ, suc, ◌+◌, ◌≤◌, ◌<◌, List, [], ◌∷◌, ◌++◌, length, Option, Some, None, refl, sym, subst, arith, length-append, inl, inr}
use Rattle.std.specs.Prelude.{◌⊎◌, slice_get, MatchOption}
use Rattle.std.specs.List.{AllByRecursion}
use Rattle.std.proofs.lemmas.Bool.{cases_lt}
use Rattle.kd_token.specs.Accepts.{Point, Flow, Assignment, leaving, flows, out, IsCovered, IsWithin}
use Rattle.kd_token.specs.File.{Code}
use Rattle.kd_token.specs.Table.{point, IsRoomFor}
use Rattle.kd_token.specs.Shape.{Covers, CoversKind}
use Rattle.kd_token.specs.declared.shape.Kind.{Kind}
use Rattle.kd_token.specs.declared.shape.Kind.TheVariants as kinds
use Rattle.kd_token.specs.declared.token.Token.{Token}
use Rattle.kd_compile.proofs.Rows.{HasAt, has_at_same, has_front, has_back}

kind_covers : (k : Kind) → CoversKind k k
kind_covers kinds.Bool = tt
kind_covers kinds.Int = tt
kind_covers (kinds.Bytes n) = omega arith

covers_itself : (s : List Kind) → Covers s s
covers_itself [] = tt
covers_itself (k ∷ s) = (kind_covers k, covers_itself s)

-- what covers a point covers one with fewer steps
pub covered_sooner : (o : Option Point) (s : List Kind) (m n : ℕ) → n ≤ m → IsCovered o (point s m) → IsCovered o (point s n)
covered_sooner None s m n le c = absurd c
covered_sooner (Some z) s m n le c = (c.0, omega (arith, c.1, le))

-- and also one with a shorter byte string on top
pub covered_shorter : (o : Option Point) (a b : ℕ) (s : List Kind) (m n : ℕ) → b ≤ a → n ≤ m → IsCovered o (point (kinds.Bytes a ∷ s) m) → IsCovered o (point (kinds.Bytes b ∷ s) n)
covered_shorter None a b s m n short le c = absurd c
covered_shorter (Some z) a b s m n short le c = (by z.shape c.0, omega (arith, c.1, le)) where
  by : (r : List Kind) → Covers r (kinds.Bytes a ∷ s) → Covers r (kinds.Bytes b ∷ s)
  by [] d = absurd d
  by (kinds.Bytes most ∷ r) d = (omega (arith, d.0, short), d.1)
  by (kinds.Bool ∷ r) d = absurd d.0
  by (kinds.Int ∷ r) d = absurd d.0

-- a place that knows a point covers it
pub known_covered : (o : Option Point) (x : Point) → o ≡ Some x → IsCovered o x
known_covered o x e = let P : Option Point → Type 0 = λ v. IsCovered v x in subst P (sym e) (covers_itself x.shape, omega arith)

-- a flow is within what the program declares, and covered where it leads
abbrev pub Goes : Code → Assignment → Flow → Type 0
Goes p a f = IsWithin p f × IsCovered (a f.to) f.point

-- a place whose token can take what it needs, and whose flows all go so
abbrev pub Leads : Code → Assignment → ℕ → Type 0
Leads p a j = MatchOption (out p a j) ⊥ (AllByRecursion (Goes p a))

-- the flows of a token at place i from a point
abbrev pub GoesOn : Code → Assignment → ℕ → Token → Point → Type 0
GoesOn p a i token q = MatchOption (flows (length p.names) token i q) ⊥ (AllByRecursion (Goes p a))

leads_here : (p : Code) (a : Assignment) (i : ℕ) (token : Token) (q : Point) → slice_get p.tokens i ≡ Some token → a i ≡ Some q → GoesOn p a i token q → Leads p a i
leads_here p a i token q is known goes =
    let P : Option Token → Type 0 = λ o. MatchOption (leaving (length p.names) o i (a i)) ⊥ (AllByRecursion (Goes p a)) in
    let Q : Option Point → Type 0 = λ o. MatchOption (leaving (length p.names) (Some token) i o) ⊥ (AllByRecursion (Goes p a)) in
    subst P (sym is) (subst Q (sym known) goes)

-- tokens, the points before them, and the point after them: from the first point on, wherever they
-- are
pub record Piece (p : Code) (q : Point) (ts : List Token) (qs : List Point) (x : Point) : Type 0 where
  pub size : length qs ≡ length ts
  pub room : IsRoomFor p x.shape
  pub first : (a : Assignment) (i : ℕ) → HasAt a i qs → a i ≡ Some q
  pub leads : (a : Assignment) (i : ℕ) → HasAt (slice_get p.tokens) i ts → HasAt a i qs → IsCovered (a (i + length ts)) x → (j : ℕ) → i ≤ j → j < i + length ts → Leads p a j

-- one token
pub piece_last : (p : Code) (q : Point) (token : Token) (x : Point) → IsRoomFor p x.shape → ((a : Assignment) (i : ℕ) → IsCovered (a (i + 1)) x → GoesOn p a i token q) → Piece p q (token ∷ []) (q ∷ []) x
piece_last p q token x room step = record {
  size = refl;
  room = room;
  first = λ a i h. h.0;
  leads = λ a i ts qs end j low high.
      let here : i ≡ j = omega (arith, low, high) in
      let P : ℕ → Type 0 = Leads p a in
      subst P here (leads_here p a i token q ts.0 qs.0 (step a i end));
}

-- one more token before a piece
pub piece_front : (p : Code) (q : Point) (token : Token) (z x : Point) (ts : List Token) (qs : List Point) → Piece p z ts qs x
    → ((a : Assignment) (i : ℕ) → HasAt a (i + 1) qs → IsCovered (a (i + 1 + length ts)) x → GoesOn p a i token q) → Piece p q (token ∷ ts) (q ∷ qs) x
piece_front p q token z x ts qs piece step = record {
  size = let size = piece.size in omega (arith, size);
  room = piece.room;
  first = λ a i h. h.0;
  leads = λ a i t h end j low high.
      let C : ℕ → Type 0 = λ n. IsCovered (a n) x in
      let place : i + suc (length ts) ≡ i + 1 + length ts = omega arith in
      let there = subst C place end in
      let by : (j < i + 1) ⊎ (i + 1 ≤ j) → Leads p a j = λ o. elim o [
        | inl less ↦ let here : i ≡ j = omega (arith, low, less) in let P : ℕ → Type 0 = Leads p a in subst P here (leads_here p a i token q t.0 h.0 (step a i h.1 there))
        | inr le ↦ piece.leads a (i + 1) t.1 h.1 there j le (omega (arith, high))
      ] in
      by (cases_lt j (i + 1));
}

-- a piece after another
pub piece_then : (p : Code) (q x y : Point) (ts us : List Token) (qs rs : List Point) → Piece p q ts qs x → Piece p x us rs y → Piece p q (ts ++ us) (qs ++ rs) y
piece_then p q x y ts us qs rs piece next = record {
  size = let one = piece.size in let two = next.size in omega (arith, one, two, length-append ts us, length-append qs rs);
  room = next.room;
  first = λ a i h. piece.first a i (has_front a i qs rs h);
  leads = λ a i t h end j low high.
      let C : ℕ → Type 0 = λ n. IsCovered (a n) y in
      let sum = length-append ts us in
      let place : i + length (ts ++ us) ≡ i + length ts + length us = omega (arith, sum) in
      let same : i + length qs ≡ i + length ts = let size = piece.size in omega (arith, size) in
      let behind = has_at_same a (i + length qs) (i + length ts) rs same (has_back a i qs rs h) in
      let met = known_covered (a (i + length ts)) x (next.first a (i + length ts) behind) in
      let by : (j < i + length ts) ⊎ (i + length ts ≤ j) → Leads p a j = λ o. elim o [
        | inl less ↦ piece.leads a i (has_front (slice_get p.tokens) i ts us t) (has_front a i qs rs h) met j low less
        | inr le ↦ next.leads a (i + length ts) (has_back (slice_get p.tokens) i ts us t) behind (subst C place end) j le (omega (arith, high, place))
      ] in
      by (cases_lt j (i + length ts));
}

-- the same piece before another point, if what covers that also covers the piece's own
pub piece_over : (p : Code) (q x y : Point) (ts : List Token) (qs : List Point) → IsRoomFor p y.shape → ((o : Option Point) → IsCovered o y → IsCovered o x) → Piece p q ts qs x → Piece p q ts qs y
piece_over p q x y ts qs room over piece = record {
  size = piece.size;
  room = room;
  first = piece.first;
  leads = λ a i t h end j low high. piece.leads a i t h (over (a (i + length ts)) end) j low high;
}

-- the same piece, its steps counted in another way
pub piece_counted : (p : Code) (q : Point) (ts : List Token) (qs : List Point) (s : List Kind) (m n : ℕ) → m ≡ n → Piece p q ts qs (point s m) → Piece p q ts qs (point s n)
piece_counted p q ts qs s m n e piece = let P : ℕ → Type 0 = λ c. Piece p q ts qs (point s c) in subst P e piece
