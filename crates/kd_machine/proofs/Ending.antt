-- A run goes on from place to place and ends, within what the program declares.
use Rattle.std.proofs.Common.{◌≡◌, ℕ, zero, suc, ◌+◌, ◌<◌, ◌≤◌, max, Bool, true, false, List, [], ◌∷◌, drop, length, get_or, Option, Some, None, refl, sym, subst, arith, inl, inr}
use Rattle.std.specs.Bool.{beq}
use Rattle.std.specs.Prelude.{◌⊎◌, if◌then◌else◌, slice_get, MatchOption}
use Rattle.std.proofs.lemmas.Option.{slice_get_cases}
use Rattle.kd_options.specs.Laws.{HasSizes, MessagesHaveSizes}
use Rattle.kd_options.specs.Message.{Seen}
use Rattle.kd_token.specs.Accepts.{Accepts, way_of}
use Rattle.kd_token.specs.File.{Code}
use Rattle.kd_token.specs.Laws.{TokensStand, TokensStandIn}
use Rattle.kd_wire.specs.Steps.{◌>>=◌}
use Rattle.kd_token.specs.declared.token.Token.{Token}
use Rattle.kd_token.specs.declared.way.Way.{Way}
use Rattle.kd_token.specs.declared.way.Way.TheVariants as routes
use Rattle.kd_machine.specs.Val.{Val, Truth, longest}
use Rattle.kd_machine.specs.Values.{take_truth, size_of_top}
use Rattle.kd_machine.specs.World.{World, world}
use Rattle.kd_machine.specs.Run.{rule, moves_by, moves, Spot, Reached, Segment, Run, EndsWithin, first_spot, reached_first, reached_next}
use Rattle.kd_machine.specs.declared.run.Outcome.{Outcome}
use Rattle.kd_machine.specs.Fits.{StandsAt, IsRunning}
use Rattle.kd_machine.specs.Laws.{AcceptedEnds}
use Rattle.kd_machine.proofs.Rests.{moves_rest}
use Rattle.kd_machine.proofs.Standing.{stands_first, stands_moves, stands_end}

-- a step leads forward
abbrev IsForward : ℕ → Option (ℕ × List Val) → Type 0
IsForward i o = MatchOption o (Unit {0}) (λ r. i + 1 ≤ r.0)

forward_by : (way : Way) (w : World) (token : Token) (i : ℕ) (s : List Val) → IsForward i (moves_by way w token i s)
forward_by routes.On w token i s = one (rule w token s) where
  one : (o : Option (List Val)) → IsForward i (o >>= λ t. Some (i + 1, t))
  one None = tt
  one (Some t) = omega arith
forward_by (routes.Skip skip) w token i s = omega arith
forward_by (routes.Fork skip) w token i s = two (take_truth s) where
  two : (o : Option (Bool × List Val)) → IsForward i (o >>= λ b. Some (if b.0 then i + 1 else i + 1 + skip, b.1))
  two None = tt
  two (Some (true, t)) = omega arith
  two (Some (false, t)) = omega arith
forward_by (routes.Keep stays skip) w token i s = two (take_truth s) where
  two : (o : Option (Bool × List Val)) → IsForward i (o >>= λ b. Some (if beq stays b.0 then (i + 1 + skip, Truth b.0 ∷ b.1) else (i + 1, b.1)))
  two None = tt
  two (Some (b, t)) = by (beq stays b) where
    by : (same : Bool) → IsForward i (Some (if same then (i + 1 + skip, Truth b ∷ t) else (i + 1, t)))
    by true = omega arith
    by false = omega arith

-- a run begins
pub running_first : (p : Code) (message : Seen) (held : List (List ℕ)) → Accepts p → IsRunning p message held 0 (reached_first first_spot)
running_first p message held a = record {
  chain = refl;
  stands = stands_first p a;
  depth = omega arith;
  bound = omega arith;
  covers = omega arith;
  forward = omega arith;
}

-- a run goes on by a step
pub running_on : (p : Code) (message : Seen) (held : List (List ℕ)) (n : ℕ) (r : Reached) (token : Token) (to : Spot) → TokensStandIn p → HasSizes message → IsRunning p message held n r → slice_get p.tokens r.spot.at ≡ Some token → moves (world p message held) token r.spot.at r.spot.stack ≡ Some (to.at, to.stack)
    → IsRunning p message held (n + 1) (reached_next r to)
running_on p message held n r token to stand sizes run there moved =
    let M : Option (ℕ × List Val) → Type 0 = λ o. MatchOption o ⊥ (λ q. StandsAt p q.0 (n + 1) q.1) in
    let next : StandsAt p to.at (n + 1) to.stack = subst M moved (stands_moves p message held r.spot.at n r.spot.stack token stand sizes run.stands there) in
    let deep = next.deep in
    let long = next.long in
    let more : suc n ≡ n + 1 = omega arith in
    let C : ℕ → Type 0 = λ m. Segment p (world p message held) first_spot m (reached_next r to) in
    record {
      chain = subst C more (r, run.chain, (token, there, moved), refl);
      stands = next;
      depth = let before = run.depth in omega (arith, deep, before);
      bound = let before = run.bound in omega (arith, long, before);
      covers = omega arith;
      forward =
          let F : Option (ℕ × List Val) → Type 0 = IsForward r.spot.at in
          let ahead : r.spot.at + 1 ≤ to.at = subst F moved (forward_by (way_of token) (world p message held) token r.spot.at r.spot.stack) in
          let before = run.forward in
          omega (arith, ahead, before);
    }

-- a stack with room for the declared depth has room for what a step leaves
pub has_room : (room : ℕ) (p : Code) (message : Seen) (held : List (List ℕ)) (n : ℕ) (r : Reached) (token : Token) → p.depth ≤ room → TokensStandIn p → HasSizes message → IsRunning p message held n r → slice_get p.tokens r.spot.at ≡ Some token → MatchOption (moves (world p message held) token r.spot.at r.spot.stack) ⊥ (λ q. length q.1 ≤ room)
has_room room p message held n r token most stand sizes run there = by (moves (world p message held) token r.spot.at r.spot.stack) (stands_moves p message held r.spot.at n r.spot.stack token stand sizes run.stands there) where
  by : (o : Option (ℕ × List Val)) → MatchOption o ⊥ (λ q. StandsAt p q.0 (n + 1) q.1) → MatchOption o ⊥ (λ q. length q.1 ≤ room)
  by None m = m
  by (Some q) m = let deep = m.deep in omega (arith, deep, most)

-- the longest value after a step is the one on top, or was counted before
top_alone : (t : List Val) (l : ℕ) → longest (drop 1 t) ≤ l → max l (size_of_top t) ≡ max l (longest t)
top_alone [] l le = refl
top_alone (v ∷ t) l le = omega (arith, le)

-- a run goes on by a step when only the top is measured
pub running_next : (p : Code) (message : Seen) (held : List (List ℕ)) (n : ℕ) (r : Reached) (token : Token) (to : Spot) → TokensStandIn p → HasSizes message → IsRunning p message held n r → slice_get p.tokens r.spot.at ≡ Some token → moves (world p message held) token r.spot.at r.spot.stack ≡ Some (to.at, to.stack)
    → IsRunning p message held (n + 1) (record { spot = to; peak_depth = max r.peak_depth (length to.stack); peak_length = max r.peak_length (size_of_top to.stack) })
running_next p message held n r token to stand sizes run there moved =
    let B : Option (ℕ × List Val) → Type 0 = λ o. MatchOption o (Unit {0}) (λ q. longest (drop 1 q.1) ≤ r.peak_length) in
    let rest : longest (drop 1 to.stack) ≤ r.peak_length = subst B moved (moves_rest r.peak_length (world p message held) token r.spot.at r.spot.stack run.covers) in
    let R : ℕ → Type 0 = λ h. IsRunning p message held (n + 1) (record { spot = to; peak_depth = max r.peak_depth (length to.stack); peak_length = h }) in
    subst R (sym (top_alone to.stack r.peak_length rest)) (running_on p message held n r token to stand sizes run there moved)

-- the outcome of a run that ends with a truth value
abbrev outcome_of : Bool → ℕ → Reached → Outcome
outcome_of value n r = record { value = value; steps = n; peak_depth = r.peak_depth; peak_length = r.peak_length }

-- at the end a run has the outcome of its one truth value
pub running_end : (p : Code) (message : Seen) (held : List (List ℕ)) (n : ℕ) (r : Reached) → IsRunning p message held n r → r.spot.at ≡ length p.tokens → (n ≤ p.steps) × MatchOption (take_truth r.spot.stack) ⊥ (λ v. Run p message held (outcome_of v.0 n r))
running_end p message held n r run last = let S : ℕ → Type 0 = λ i. StandsAt p i n r.spot.stack in let e = stands_end p n r.spot.stack (subst S last run.stands) in (e.0, by (take_truth r.spot.stack) e.1) where
  by : (o : Option (Bool × List Val)) → MatchOption o ⊥ (λ v. r.spot.stack ≡ Truth v.0 ∷ []) → MatchOption o ⊥ (λ v. Run p message held (outcome_of v.0 n r))
  by None e = absurd e
  by (Some v) e =
      let I : ℕ → Type 0 = λ i. Segment p (world p message held) first_spot n (record { spot = record { at = i; stack = r.spot.stack }; peak_depth = r.peak_depth; peak_length = r.peak_length }) in
      let U : List Val → Type 0 = λ u. Segment p (world p message held) first_spot n (record { spot = record { at = length p.tokens; stack = u }; peak_depth = r.peak_depth; peak_length = r.peak_length }) in
      subst U e (subst I last run.chain)

finishes : (p : Code) (message : Seen) (held : List (List ℕ)) (n : ℕ) (r : Reached) → IsRunning p message held n r → r.spot.at ≡ length p.tokens → EndsWithin p message held
finishes p message held n r run last =
    let end = running_end p message held n r run last in
    by (take_truth r.spot.stack) end.1 end.0 where
      by : (o : Option (Bool × List Val)) → MatchOption o ⊥ (λ v. Run p message held (outcome_of v.0 n r)) → n ≤ p.steps → EndsWithin p message held
      by None ran le = absurd ran
      by (Some v) ran le = (outcome_of v.0 n r, (ran, le, run.depth, run.bound))

-- a run ends if it has at most `fuel` places left
ends_from : (fuel : ℕ) (p : Code) (message : Seen) (held : List (List ℕ)) (n : ℕ) (r : Reached) → TokensStandIn p → HasSizes message → length p.tokens ≤ r.spot.at + fuel → IsRunning p message held n r → EndsWithin p message held
ends_from zero p message held n r stand sizes le run =
    let place = run.stands.place in
    finishes p message held n r run (omega (arith, le, place))
ends_from (suc fuel) p message held n r stand sizes le run =
    by (slice_get_cases p.tokens r.spot.at).1 (λ m q less next. ends_from fuel p message held m q stand sizes less next) where
      More : Type 0
      More = (m : ℕ) (q : Reached) → length p.tokens ≤ q.spot.at + fuel → IsRunning p message held m q → EndsWithin p message held

      steps : (token : Token) → slice_get p.tokens r.spot.at ≡ Some token → (o : Option (ℕ × List Val)) → moves (world p message held) token r.spot.at r.spot.stack ≡ o → MatchOption o ⊥ (λ q. StandsAt p q.0 (n + 1) q.1) → IsForward r.spot.at o → More → EndsWithin p message held
      steps token there None e m f more = absurd m
      steps token there (Some q) e m f more =
          let to : Spot = record { at = q.0; stack = q.1 } in
          more (n + 1) (reached_next r to) (omega (arith, le, f)) (running_on p message held n r token to stand sizes run there e)

      by : ((x : Token) × (r.spot.at < length p.tokens) × (slice_get p.tokens r.spot.at ≡ Some x) × (get_or p.tokens r.spot.at x ≡ x)) ⊎ ((length p.tokens ≤ r.spot.at) × (slice_get p.tokens r.spot.at ≡ None)) → More → EndsWithin p message held
      by (inl x) more = steps x.0 x.2 (moves (world p message held) x.0 r.spot.at r.spot.stack) refl (stands_moves p message held r.spot.at n r.spot.stack x.0 stand sizes run.stands x.2) (forward_by (way_of x.0) (world p message held) x.0 r.spot.at r.spot.stack) more
      by (inr past) more = let place = run.stands.place in let here = past.0 in finishes p message held n r run (omega (arith, here, place))

-- every accepted program ends, on every message with any held names, within what it declares
pub accepted_ends : TokensStand → MessagesHaveSizes → AcceptedEnds
accepted_ends stand sizes p message held file a is = ends_from (length p.tokens) p message held 0 (reached_first first_spot) (stand p file) (sizes message is) (omega arith) (running_first p message held a)
