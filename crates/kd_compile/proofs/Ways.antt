-- Runs through a part of a program: what tokens one after another make of the values before them.
use Rattle.std.proofs.Common.{◌≡◌, ℕ, zero, suc, ◌+◌, max, List, [], ◌∷◌, ◌++◌, length, length-append, Some, refl, sym, subst, arith}
use Rattle.std.specs.Prelude.{slice_get}
use Rattle.kd_compile.proofs.Rows.{HasAt, has_front, has_back}
use Rattle.kd_machine.specs.Run.{moves, Spot, Reached, Step, Segment, reached_first}
use Rattle.kd_machine.specs.Val.{Val, longest}
use Rattle.kd_machine.specs.World.{World}
use Rattle.kd_token.specs.File.{Code}
use Rattle.kd_token.specs.declared.token.Token.{Token}

-- from a spot a program comes to a spot
abbrev pub Comes : Code → World → Spot → Spot → Type 0
Comes p w from to = (n : ℕ) × (d : ℕ) × (l : ℕ) × Segment p w from n (record { spot = to; peak_depth = d; peak_length = l })

-- a place with these values
abbrev pub spot : ℕ → List Val → Spot
spot i s = record { at = i; stack = s }

comes_step : (p : Code) (w : World) (from to : Spot) → Step p w from to → Comes p w from to
comes_step p w from to step = (1, max (length from.stack) (length to.stack), max (longest from.stack) (longest to.stack), (reached_first from, refl, step, refl))

comes_by : (n : ℕ) (p : Code) (w : World) (from middle : Spot) (reached : Reached) → Comes p w from middle → Segment p w middle n reached → Comes p w from reached.spot
comes_by zero p w from middle reached c g = let P : Reached → Type 0 = λ r. Comes p w from r.spot in subst P (sym g) c
comes_by (suc n) p w from middle reached c g =
    let before = comes_by n p w from middle g.0 c g.1 in
    let first : Reached = record { spot = g.0.spot; peak_depth = before.1; peak_length = before.2 } in
    (suc before.0, max before.1 (length reached.spot.stack), max before.2 (longest reached.spot.stack), (first, before.3, g.2, refl))

-- one run after another
pub comes_on : (p : Code) (w : World) (from middle to : Spot) → Comes p w from middle → Comes p w middle to → Comes p w from to
comes_on p w from middle to a b = comes_by b.0 p w from middle (record { spot = to; peak_depth = b.1; peak_length = b.2 }) a b.3

comes_to : (p : Code) (w : World) (from : Spot) (j k : ℕ) (t : List Val) → j ≡ k → Comes p w from (spot j t) → Comes p w from (spot k t)
comes_to p w from j k t e c = let P : ℕ → Type 0 = λ x. Comes p w from (spot x t) in subst P e c

-- wherever these tokens are, a program comes from the place before them with some values to the
-- place after them with others
abbrev pub Makes : Code → World → List Token → List Val → List Val → Type 0
Makes p w xs s t = (i : ℕ) → HasAt (slice_get p.tokens) i xs → Comes p w (spot i s) (spot (i + length xs) t)

module _ (p : Code) (w : World) where
  -- tokens after others
  pub makes_both : (xs ys : List Token) (s t u : List Val) → Makes p w xs s t → Makes p w ys t u → Makes p w (xs ++ ys) s u
  makes_both xs ys s t u a b i h =
      let first = a i (has_front (slice_get p.tokens) i xs ys h) in
      let second = b (i + length xs) (has_back (slice_get p.tokens) i xs ys h) in
      let size = length-append {A = Token} xs ys in
      comes_to p w (spot i s) (i + length xs + length ys) (i + length (xs ++ ys)) u (omega (arith, size)) (comes_on p w (spot i s) (spot (i + length xs) t) (spot (i + length xs + length ys) u) first second)

  -- a token that leads over some tokens to others
  pub makes_over : (x : Token) (xs ys : List Token) (s t u : List Val) → ((i : ℕ) → moves w x i s ≡ Some (i + 1 + length xs, t)) → Makes p w ys t u → Makes p w (x ∷ (xs ++ ys)) s u
  makes_over x xs ys s t u moved b i h =
      let first = comes_step p w (spot i s) (spot (i + 1 + length xs) t) (x, h.0, moved i) in
      let second = b (i + 1 + length xs) (has_back (slice_get p.tokens) (i + 1) xs ys h.1) in
      let size = length-append {A = Token} xs ys in
      comes_to p w (spot i s) (i + 1 + length xs + length ys) (i + suc (length (xs ++ ys))) u (omega (arith, size)) (comes_on p w (spot i s) (spot (i + 1 + length xs) t) (spot (i + 1 + length xs + length ys) u) first second)

  -- no token
  pub makes_none : (s : List Val) → Makes p w [] s s
  makes_none s i h = comes_to p w (spot i s) i (i + 0) s (omega arith) (0, length s, longest s, refl)

  -- one token that goes on
  pub makes_one : (x : Token) (s t : List Val) → ((i : ℕ) → moves w x i s ≡ Some (i + 1, t)) → Makes p w (x ∷ []) s t
  makes_one x s t moved i h = comes_step p w (spot i s) (spot (i + 1) t) (x, h.0, moved i)

  -- a token that leads to the next one
  pub makes_next : (x : Token) (xs : List Token) (s t u : List Val) → ((i : ℕ) → moves w x i s ≡ Some (i + 1, t)) → Makes p w xs t u → Makes p w (x ∷ xs) s u
  makes_next x xs s t u moved b = makes_both (x ∷ []) xs s t u (makes_one x s t moved) b

  -- a token that leads over all the tokens after it
  pub makes_past : (x : Token) (xs : List Token) (s t : List Val) → ((i : ℕ) → moves w x i s ≡ Some (i + 1 + length xs, t)) → Makes p w (x ∷ xs) s t
  makes_past x xs s t moved i h = comes_to p w (spot i s) (i + 1 + length xs) (i + suc (length xs)) t (omega arith) (comes_step p w (spot i s) (spot (i + 1 + length xs) t) (x, h.0, moved i))
