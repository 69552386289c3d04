-- The stack at a place of an accepted program still fits at the next place after a step, and at the
-- end it is one truth value.
use Rattle.std.proofs.Common.{◌≡◌, ℕ, suc, ◌+◌, ◌<◌, ◌≤◌, Bool, true, false, List, [], ◌∷◌, length, Option, Some, None, refl, ap, subst, ◌∙◌, arith}
use Rattle.std.specs.Bool.{beq}
use Rattle.std.specs.Prelude.{if◌then◌else◌, slice_get, MatchOption}
use Rattle.std.specs.List.{AllByRecursion}
use Rattle.std.proofs.lemmas.Option.{slice_get_within}
use Rattle.kd_options.specs.Laws.{HasSizes}
use Rattle.kd_options.specs.Message.{Seen}
use Rattle.kd_token.specs.Accepts.{Accepts, Point, Flow, flow_to, way_of, flows_by, flows, leaving, origin, IsCovered, IsWithin}
use Rattle.kd_token.specs.File.{Code}
use Rattle.kd_token.specs.Laws.{TokensStandIn}
use Rattle.kd_wire.specs.Steps.{◌>>=◌}
use Rattle.kd_token.specs.Shape.{Covers, CoversKind, AreShort, IsShortKind, gives, bool_taken}
use Rattle.kd_token.specs.declared.shape.Kind.{Kind}
use Rattle.kd_token.specs.declared.shape.Kind.TheVariants as kinds
use Rattle.kd_token.specs.declared.token.Token.{Token}
use Rattle.kd_token.specs.declared.way.Way.{Way}
use Rattle.kd_token.specs.declared.way.Way.TheVariants as routes
use Rattle.kd_machine.specs.Val.{Val, Truth, Number, Text, size, longest}
use Rattle.kd_machine.specs.Values.{take_truth}
use Rattle.kd_machine.specs.World.{World, world}
use Rattle.kd_machine.specs.Run.{rule, moves_by, moves}
use Rattle.kd_machine.specs.Fits.{FitsKind, Fits, StandsAt}
use Rattle.kd_machine.proofs.Rules.{Down, TruthFits, truth_fits, rule_fits}

kind_covered : (k l : Kind) (v : Val) → CoversKind k l → FitsKind l v → FitsKind k v
kind_covered kinds.Bool kinds.Bool v c f = f
kind_covered kinds.Int kinds.Int v c f = f
kind_covered (kinds.Bytes n) (kinds.Bytes m) (Text bytes) c f = omega (arith, c, f)
kind_covered (kinds.Bytes n) (kinds.Bytes m) (Truth b) c f = absurd f
kind_covered (kinds.Bytes n) (kinds.Bytes m) (Number k) c f = absurd f
kind_covered kinds.Bool kinds.Int v c f = absurd c
kind_covered kinds.Bool (kinds.Bytes m) v c f = absurd c
kind_covered kinds.Int kinds.Bool v c f = absurd c
kind_covered kinds.Int (kinds.Bytes m) v c f = absurd c
kind_covered (kinds.Bytes n) kinds.Bool v c f = absurd c
kind_covered (kinds.Bytes n) kinds.Int v c f = absurd c

-- values that fit a shape fit one that covers it
covered_fits : (q r : List Kind) (s : List Val) → Covers q r → Fits r s → Fits q s
covered_fits [] [] s c f = f
covered_fits [] (l ∷ r) s c f = absurd c
covered_fits (k ∷ q) [] s c f = absurd c
covered_fits (k ∷ q) (l ∷ r) [] c f = absurd f
covered_fits (k ∷ q) (l ∷ r) (v ∷ s) c f = (kind_covered k l v c.0 f.0, covered_fits q r s c.1 f.1)

fits_length : (r : List Kind) (s : List Val) → Fits r s → length s ≡ length r
fits_length [] [] f = refl
fits_length [] (v ∷ s) f = absurd f
fits_length (k ∷ r) [] f = absurd f
fits_length (k ∷ r) (v ∷ s) f = ap suc (fits_length r s f.1)

size_short : (most : ℕ) (k : Kind) (v : Val) → IsShortKind most k → FitsKind k v → size v ≤ most
size_short most k (Truth b) a f = omega arith
size_short most k (Number n) a f = omega arith
size_short most (kinds.Bytes n) (Text bytes) a f = omega (arith, a, f)
size_short most kinds.Bool (Text bytes) a f = absurd f
size_short most kinds.Int (Text bytes) a f = absurd f

fits_longest : (most : ℕ) (r : List Kind) (s : List Val) → AreShort most r → Fits r s → longest s ≤ most
fits_longest most [] [] a f = omega arith
fits_longest most [] (v ∷ s) a f = absurd f
fits_longest most (k ∷ r) [] a f = absurd f
fits_longest most (k ∷ r) (v ∷ s) a f =
    let top = size_short most k v a.0 f.0 in
    let rest = fits_longest most r s a.1 f.1 in
    omega (arith, top, rest)

-- at the first place the stack is empty
pub stands_first : (p : Code) → Accepts p → StandsAt p 0 0 []
stands_first p a = record {
  assigned = a;
  point = origin;
  known = (a.1 0 (omega arith)).start refl;
  fits = tt;
  counted = omega arith;
  place = omega arith;
  deep = omega arith;
  long = omega arith;
}

-- a flow from a place brings values that fit it to where it leads
flow_stands : (p : Code) (a : Accepts p) (n : ℕ) (f : Flow) (t : List Val) → f.to ≤ length p.tokens → n + 1 ≤ f.point.count → IsCovered (a.0 f.to) f.point → IsWithin p f → Fits f.point.shape t → StandsAt p f.to (n + 1) t
flow_stands p a n f t place le covered within fits = by (a.0 f.to) refl covered where
  by : (o : Option Point) → a.0 f.to ≡ o → IsCovered o f.point → StandsAt p f.to (n + 1) t
  by None e c = absurd c
  by (Some x) e c =
      let size = fits_length f.point.shape t fits in
      record {
        assigned = a;
        point = x;
        known = e;
        fits = covered_fits x.shape f.point.shape t c.0 fits;
        counted = omega (arith, le, c.1);
        place = place;
        deep = let few = within.0 in omega (arith, size, few);
        long = fits_longest p.bound f.point.shape t within.1 fits;
      }

module _ (p : Code) (w : World) (a : Accepts p) (i n : ℕ) (token : Token) (x : Point) (s : List Val) (counted : n ≤ x.count) (fits : Fits x.shape s) where
  -- the flows of the place are within what is declared, and covered where they lead
  abbrev Leaves : Option (List Flow) → Type 0
  Leaves o = MatchOption o ⊥ (AllByRecursion (IsWithin p))

  abbrev Enters : Option (List Flow) → Type 0
  Enters o = (j : ℕ) → j ≤ length p.tokens → MatchOption o (Unit {0}) (AllByRecursion (λ f. f.to ≡ j → IsCovered (a.0 j) f.point))

  -- and lead to places of the program
  abbrev Stays : Option (List Flow) → Type 0
  Stays o = MatchOption o (Unit {0}) (AllByRecursion (λ f. (i + 1 ≤ f.to) × (f.to ≤ length p.tokens)))

  -- the stack after the step
  abbrev Moved : Option (ℕ × List Val) → Type 0
  Moved o = MatchOption o ⊥ (λ r. StandsAt p r.0 (n + 1) r.1)

  moved_on : (g : Option (List Kind)) (t : Option (List Val)) → Stays (g >>= λ r. Some (flow_to (i + 1) x r ∷ [])) → Down Fits g t → Leaves (g >>= λ r. Some (flow_to (i + 1) x r ∷ [])) → Enters (g >>= λ r. Some (flow_to (i + 1) x r ∷ [])) → Moved (t >>= λ u. Some (i + 1, u))
  moved_on None t stays d l e = absurd l
  moved_on (Some r) None stays d l e = absurd d
  moved_on (Some r) (Some u) stays d l e = let place = stays.0.1 in flow_stands p a n (flow_to (i + 1) x r) u place (omega (arith, counted)) ((e (i + 1) place).0 refl) l.0 d

  moved_fork : (skip : ℕ) (g : Option (List Kind)) (t : Option (Bool × List Val)) → Stays (g >>= λ r. Some (flow_to (i + 1 + skip) x r ∷ flow_to (i + 1) x r ∷ [])) → Down TruthFits g t → Leaves (g >>= λ r. Some (flow_to (i + 1 + skip) x r ∷ flow_to (i + 1) x r ∷ [])) → Enters (g >>= λ r. Some (flow_to (i + 1 + skip) x r ∷ flow_to (i + 1) x r ∷ []))
      → Moved (t >>= λ b. Some (if b.0 then i + 1 else i + 1 + skip, b.1))
  moved_fork skip None t stays d l e = absurd l
  moved_fork skip (Some r) None stays d l e = absurd d
  moved_fork skip (Some r) (Some (true, u)) stays d l e = let near = stays.1.0.1 in flow_stands p a n (flow_to (i + 1) x r) u near (omega (arith, counted)) ((e (i + 1) near).1.0 refl) l.1.0 d
  moved_fork skip (Some r) (Some (false, u)) stays d l e = let place = stays.0.1 in flow_stands p a n (flow_to (i + 1 + skip) x r) u place (omega (arith, counted)) ((e (i + 1 + skip) place).0 refl) l.0 d

  moved_keep : (kept : Bool) (skip : ℕ) (g : Option (List Kind)) (t : Option (Bool × List Val)) → Stays (g >>= λ r. Some (flow_to (i + 1 + skip) x (kinds.Bool ∷ r) ∷ flow_to (i + 1) x r ∷ [])) → Down TruthFits g t → Leaves (g >>= λ r. Some (flow_to (i + 1 + skip) x (kinds.Bool ∷ r) ∷ flow_to (i + 1) x r ∷ [])) → Enters (g >>= λ r. Some (flow_to (i + 1 + skip) x (kinds.Bool ∷ r) ∷ flow_to (i + 1) x r ∷ []))
      → Moved (t >>= λ b. Some (if beq kept b.0 then (i + 1 + skip, Truth b.0 ∷ b.1) else (i + 1, b.1)))
  moved_keep kept skip None t stays d l e = absurd l
  moved_keep kept skip (Some r) None stays d l e = absurd d
  moved_keep kept skip (Some r) (Some (b, u)) stays d l e = by (beq kept b) where
    by : (same : Bool) → Moved (Some (if same then (i + 1 + skip, Truth b ∷ u) else (i + 1, u)))
    by true = let place = stays.0.1 in flow_stands p a n (flow_to (i + 1 + skip) x (kinds.Bool ∷ r)) (Truth b ∷ u) place (omega (arith, counted)) ((e (i + 1 + skip) place).0 refl) l.0 (tt, d)
    by false = let near = stays.1.0.1 in flow_stands p a n (flow_to (i + 1) x r) u near (omega (arith, counted)) ((e (i + 1) near).1.0 refl) l.1.0 d

  moved_by : (way : Way) → Stays (flows_by way (length p.names) token i x) → Down Fits (gives (length p.names) token x.shape) (rule w token s) → Leaves (flows_by way (length p.names) token i x) → Enters (flows_by way (length p.names) token i x) → Moved (moves_by way w token i s)
  moved_by routes.On stays d l e = moved_on (gives (length p.names) token x.shape) (rule w token s) stays d l e
  moved_by (routes.Skip skip) stays d l e = let place = stays.0.1 in flow_stands p a n (flow_to (i + 1 + skip) x x.shape) s place (omega (arith, counted)) ((e (i + 1 + skip) place).0 refl) l.0 fits
  moved_by (routes.Fork skip) stays d l e = moved_fork skip (bool_taken x.shape) (take_truth s) stays (truth_fits x.shape s fits) l e
  moved_by (routes.Keep kept skip) stays d l e = moved_keep kept skip (bool_taken x.shape) (take_truth s) stays (truth_fits x.shape s fits) l e

-- a step leads from a place with a fitting stack to another
pub stands_moves : (p : Code) (message : Seen) (held : List (List ℕ)) (i n : ℕ) (s : List Val) (token : Token) → TokensStandIn p → HasSizes message → StandsAt p i n s → slice_get p.tokens i ≡ Some token → MatchOption (moves (world p message held) token i s) ⊥ (λ r. StandsAt p r.0 (n + 1) r.1)
stands_moves p message held i n s token stand sizes st there =
    let names : ℕ = length p.names in
    let a = st.assigned in
    let told = stand i token there in
    let less : i < length p.tokens = slice_get_within p.tokens i token there in
    let here : leaving (length p.names) (slice_get p.tokens i) i (a.0 i) ≡ flows (length p.names) token i st.point =
    ap (λ o. leaving (length p.names) o i (a.0 i)) there ∙ ap (leaving (length p.names) (Some token) i) st.known in
    let L : Option (List Flow) → Type 0 = λ o. MatchOption o ⊥ (AllByRecursion (IsWithin p)) in
    moved_by p (world p message held) a i n token st.point s st.counted st.fits (way_of token) (told.leads st.point) (rule_fits (world p message held) p.version told.left token st.point.shape s sizes told.is st.fits)
    (subst L here (a.1 i (omega (arith, less))).leave)
    (λ j le. let E : Option (List Flow) → Type 0 = λ o. MatchOption o (Unit {0}) (AllByRecursion (λ f. f.to ≡ j → IsCovered (a.0 j) f.point)) in subst E here ((a.1 j (omega (arith, le))).enter i))

-- at the end the stack is one truth value, within the declared steps
pub stands_end : (p : Code) (n : ℕ) (s : List Val) → StandsAt p (length p.tokens) n s → (n ≤ p.steps) × MatchOption (take_truth s) ⊥ (λ r. s ≡ Truth r.0 ∷ [])
stands_end p n s st =
    let a = st.assigned in
    let T : Option Point → Type 0 = λ o. MatchOption o ⊥ (λ q. q.count ≤ p.steps) in
    let B : Option Point → Type 0 = λ o. MatchOption o ⊥ (λ q. q.shape ≡ kinds.Bool ∷ []) in
    let in_time : st.point.count ≤ p.steps = subst T st.known a.2 in
    let bool : st.point.shape ≡ kinds.Bool ∷ [] = subst B st.known a.3 in
    let F : List Kind → Type 0 = λ r. Fits r s in
    let before = st.counted in
    (omega (arith, in_time, before), one s (subst F bool st.fits)) where
      one : (s : List Val) → Fits (kinds.Bool ∷ []) s → MatchOption (take_truth s) ⊥ (λ r. s ≡ Truth r.0 ∷ [])
      one [] f = absurd f
      one (Truth b ∷ []) f = refl
      one (Truth b ∷ v ∷ s) f = absurd f.1
      one (Number m ∷ s) f = absurd f.0
      one (Text bytes ∷ s) f = absurd f.0
