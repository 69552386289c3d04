-- A run has one end.
use Rattle.std.proofs.Common.{◌≡◌, ℕ, zero, suc, ◌<◌, ◌≤◌, Bool, List, [], ◌∷◌, length, Some, None, sym, ap, subst, ◌∙◌, arith, inl, inr}
use Rattle.std.specs.Prelude.{◌⊎◌, slice_get}
use Rattle.std.proofs.lemmas.Bool.{cases_lt}
use Rattle.std.proofs.lemmas.Option.{slice_get_past}
use Rattle.kd_token.specs.File.{Code}
use Rattle.kd_token.specs.declared.token.Token.{Token}
use Rattle.kd_machine.specs.Val.{Val, Truth}
use Rattle.kd_machine.specs.World.{World, world}
use Rattle.kd_machine.specs.Run.{moves, Spot, Reached, Step, Segment, first_spot, reached_end, reached_next}
use Rattle.kd_machine.specs.Laws.{HasOneEnd}
use Rattle.kd_machine.specs.declared.run.Outcome.{Outcome}

some_same : {A : Type 0} (x y : A) → Some x ≡ Some y → x ≡ y
some_same x y e = cc

-- a step leads to one spot
step_same : (p : Code) (w : World) (from to other : Spot) → Step p w from to → Step p w from other → to ≡ other
step_same p w from to other a b =
    let token = some_same a.0 b.0 (sym a.1 ∙ b.1) in
    let moved : Some (to.at, to.stack) ≡ Some (other.at, other.stack) = sym a.2 ∙ ap (λ x. moves w x from.at from.stack) token ∙ b.2 in
    let spot : ℕ × List Val → Spot = λ x. record { at = x.0; stack = x.1 } in
    ap spot (some_same (to.at, to.stack) (other.at, other.stack) moved)

-- the same number of steps reach the same
segment_same : (n : ℕ) (p : Code) (w : World) (from : Spot) (reached other : Reached) → Segment p w from n reached → Segment p w from n other → reached ≡ other
segment_same zero p w from reached other a b = a ∙ sym b
segment_same (suc n) p w from reached other a b =
    let before : a.0 ≡ b.0 = segment_same n p w from a.0 b.0 a.1 b.1 in
    let S : Reached → Type 0 = λ r. Step p w r.spot other.spot in
    let there : Step p w a.0.spot other.spot = subst S (sym before) b.2 in
    let spot : reached.spot ≡ other.spot = step_same p w a.0.spot reached.spot other.spot a.2 there in
    a.3 ∙ ap (λ r. reached_next r reached.spot) before ∙ ap (reached_next b.0) spot ∙ sym b.3

-- a place from which more steps follow has a token
abbrev GoesOn : Code → World → Spot → ℕ → Type 0
GoesOn p w from n = (reached : Reached) × Segment p w from n reached × ((token : Token) × (slice_get p.tokens reached.spot.at ≡ Some token))

goes_on : (m n : ℕ) (p : Code) (w : World) (from : Spot) (reached : Reached) → n < m → Segment p w from m reached → GoesOn p w from n
goes_on zero n p w from reached less a = absurd (omega (arith, less))
goes_on (suc m) n p w from reached less a = by (cases_lt n m) (λ fewer. goes_on m n p w from a.0 fewer a.1) where
  by : (n < m) ⊎ (m ≤ n) → (n < m → GoesOn p w from n) → GoesOn p w from n
  by (inl fewer) earlier = earlier fewer
  by (inr last) earlier =
      let same : m ≡ n = omega (arith, less, last) in
      let G : ℕ → Type 0 = GoesOn p w from in
      subst G same (a.0, a.1, (a.2.0, a.2.1))

-- a run does not go on after the end
stops : (p : Code) (w : World) (o : Outcome) (n m : ℕ) (other : Reached) → Segment p w first_spot n (reached_end p o) → Segment p w first_spot m other → n < m → ⊥
stops p w o n m other a b less =
    let more = goes_on m n p w first_spot other less b in
    let same : reached_end p o ≡ more.0 = segment_same n p w first_spot (reached_end p o) more.0 a more.1 in
    let past : slice_get p.tokens (length p.tokens) ≡ None = slice_get_past p.tokens (length p.tokens) (omega arith) in
    let there : slice_get p.tokens (length p.tokens) ≡ Some more.2.0 = ap (λ (r : Reached). slice_get p.tokens r.spot.at) same ∙ more.2.1 in
    let wrong : None ≡ Some more.2.0 = sym past ∙ there in
    none more.2.0 wrong where
      none : (token : Token) → None ≡ Some token → ⊥
      none token e = cc

truth_same : (v x : Bool) → Truth v ∷ [] ≡ Truth x ∷ [] → v ≡ x
truth_same v x e = cc

abbrev outcome_of : Bool → ℕ → ℕ → ℕ → Outcome
outcome_of v n d l = record { value = v; steps = n; peak_depth = d; peak_length = l }

parts_same : (v x : Bool) (n m d e l h : ℕ) → v ≡ x → n ≡ m → d ≡ e → l ≡ h → outcome_of v n d l ≡ outcome_of x m e h
parts_same v x n m d e l h value steps deep long = cc

-- outcomes of the same parts are the same
outcome_same : (o r : Outcome) → o.value ≡ r.value → o.steps ≡ r.steps → o.peak_depth ≡ r.peak_depth → o.peak_length ≡ r.peak_length → o ≡ r
outcome_same o r = parts_same o.value r.value o.steps r.steps o.peak_depth r.peak_depth o.peak_length r.peak_length

-- two runs of a program over the same message and names have the same outcome
pub one_end : HasOneEnd
one_end p message held o r a b = by (cases_lt o.steps r.steps) (cases_lt r.steps o.steps) where
  w : World
  w = world p message held

  by : (o.steps < r.steps) ⊎ (r.steps ≤ o.steps) → (r.steps < o.steps) ⊎ (o.steps ≤ r.steps) → o ≡ r
  by (inl less) other = absurd (stops p w o o.steps r.steps (reached_end p r) a b less)
  by (inr le) (inl less) = absurd (stops p w r r.steps o.steps (reached_end p o) b a less)
  by (inr le) (inr ge) =
      let steps : o.steps ≡ r.steps = omega (arith, le, ge) in
      let S : ℕ → Type 0 = λ k. Segment p w first_spot k (reached_end p o) in
      let same : reached_end p o ≡ reached_end p r = segment_same r.steps p w first_spot (reached_end p o) (reached_end p r) (subst S steps a) b in
      outcome_same o r (truth_same o.value r.value (ap (λ (x : Reached). x.spot.stack) same)) steps (ap (λ (x : Reached). x.peak_depth) same) (ap (λ (x : Reached). x.peak_length) same)
