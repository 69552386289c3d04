-- One step of the pass preserves what the pass maintains.
use Rattle.std.proofs.Common.{◌≡◌, ℕ, ◌+◌, ◌<◌, ◌≤◌, true, List, [], ◌∷◌, length, Option, Some, None, refl, sym, ap, subst, ◌∙◌, arith, inl, inr}
use Rattle.std.specs.Prelude.{◌⊎◌, ◌==◌, slice_get, MatchOption}
use Rattle.std.specs.List.{AllByRecursion}
use Rattle.std.proofs.lemmas.Bool.{cases_lt, eq-eqb}
use Rattle.kd_token.specs.declared.token.Token.{Token}
use Rattle.kd_token.specs.declared.table.Entry.{Entry}
use Rattle.kd_token.specs.declared.table.Entry.TheVariants.{Unreached, Joined, Clash}
use Rattle.kd_token.specs.File.{Code}
use Rattle.kd_token.specs.Shape.{Covers}
use Rattle.kd_token.specs.Accepts.{Point, Flow, Assignment, flows, leaving, out, origin, IsCovered, IsEntered, IsWithin, IsSoundAt, AreSound}
use Rattle.kd_token.specs.Table.{spread, IsBelow, IsCoveredBy, Arrives, IsPassed, IsPoint}
use Rattle.kd_token.proofs.Down.{Down}
use Rattle.kd_token.proofs.FlowsDown.{EachBelow, flows_down}
use Rattle.kd_token.proofs.Passing.{changed, changed_else, leaving_beyond, none_back, sound_changed}
use Rattle.kd_token.proofs.Arrivals.{covers_trans, spread_least, spread_keeps, spread_covers}

pub changed_there : (a : Assignment) (n : ℕ) (x : Option Point) → changed a n x n ≡ x
changed_there a n x = let same : (n == n) ≡ true = eq-eqb n n refl in rw same refl

-- what holds of each flow of a list, if one fact gives the other
pub all_map : (P Q : Flow → Type 0) (o : Option (List Flow)) → ((f : Flow) → P f → Q f) → MatchOption o (Unit {0}) (AllByRecursion P) → MatchOption o (Unit {0}) (AllByRecursion Q)
all_map P Q None h a = tt
all_map P Q (Some fs) h a = each fs a where
  each : (fs : List Flow) → AllByRecursion P fs → AllByRecursion Q fs
  each [] a = tt
  each (f ∷ fs) a = (h f a.0, each fs a.1)

-- a point that an entry stands for covers what the entry covers
point_covers : (e : Entry) (x : Option Point) (q : Point) → IsPoint e x → IsCoveredBy e q → IsCovered x q
point_covers Unreached x q is c = absurd c
point_covers Clash x q is c = absurd is
point_covers (Joined s n) x q is c = let P : Option Point → Type 0 = λ y. IsCovered y q in subst P (sym is) c

-- flows above others cover what those bring
covered_below : (y : Option Point) (q r : Point) → IsCovered y q → Covers q.shape r.shape → r.count ≤ q.count → IsCovered y r
covered_below None q r c s le = absurd c
covered_below (Some y) q r c s le = (covers_trans y.shape q.shape r.shape c.0 s, omega (arith, le, c.1))

each_covered : (j : ℕ) (y : Option Point) (gs fs : List Flow) → EachBelow gs fs → AllByRecursion (λ f. f.to ≡ j → IsCovered y f.point) gs → AllByRecursion (λ f. f.to ≡ j → IsCovered y f.point) fs
each_covered j y [] [] b a = tt
each_covered j y [] (f ∷ fs) b a = absurd b
each_covered j y (g ∷ gs) [] b a = absurd b
each_covered j y (g ∷ gs) (f ∷ fs) b a =
    (λ e. covered_below y g.point f.point (a.0 (b.0.0 ∙ e)) b.0.1 b.0.2, each_covered j y gs fs b.1 a.1)

-- an assignment that is above a point from which it leaves brings at least what the point brings
above_covers : (names : ℕ) (t : Option Token) (i j : ℕ) (e : Entry) (x y z : Option Point) (fs : List Flow) → IsPoint e x → IsBelow e y → leaving names t i x ≡ Some fs → MatchOption (leaving names t i y) ⊥ (λ gs. Unit {0})
    → MatchOption (leaving names t i y) (Unit {0}) (AllByRecursion (λ f. f.to ≡ j → IsCovered z f.point)) → AllByRecursion (λ f. f.to ≡ j → IsCovered z f.point) fs
above_covers names t i j Clash x y z fs is below at leaves arrive = absurd is
above_covers names t i j Unreached x y z fs is below at leaves arrive =
    let none : Some [] ≡ Some fs = ap (leaving names t i) (sym is) ∙ at in
    let P : List Flow → Type 0 = λ gs. AllByRecursion (λ f. f.to ≡ j → IsCovered z f.point) gs in
    let e : [] ≡ fs = same [] fs none in
    subst P e tt where
      same : (gs hs : List Flow) → Some gs ≡ Some hs → gs ≡ hs
      same gs hs e = cc
above_covers names t i j (Joined s c) x None z fs is below at leaves arrive = absurd below
above_covers names None i j (Joined s c) x (Some y) z fs is below at leaves arrive =
    let none : Some [] ≡ Some fs = ap (leaving names None i) (sym is) ∙ at in
    let P : List Flow → Type 0 = λ gs. AllByRecursion (λ f. f.to ≡ j → IsCovered z f.point) gs in
    let e : [] ≡ fs = same [] fs none in
    subst P e tt where
      same : (gs hs : List Flow) → Some gs ≡ Some hs → gs ≡ hs
      same gs hs e = cc
above_covers names (Some token) i j (Joined s c) x (Some y) z fs is below at leaves arrive =
    let q : Point = record { shape = s; count = c } in
    let from : flows names token i q ≡ Some fs = ap (leaving names (Some token) i) (sym is) ∙ at in
    let down : Down EachBelow (flows names token i y) (flows names token i q) = flows_down names token i y q below.0 below.1 in
    let R : Option (List Flow) → Type 0 = λ o. Down EachBelow (flows names token i y) o in
    by (flows names token i y) leaves arrive (subst R from down) where
      by : (o : Option (List Flow)) → MatchOption o ⊥ (λ gs. Unit {0}) → MatchOption o (Unit {0}) (AllByRecursion (λ f. f.to ≡ j → IsCovered z f.point)) → Down EachBelow o (Some fs) → AllByRecursion (λ f. f.to ≡ j → IsCovered z f.point) fs
      by None l a d = absurd l
      by (Some gs) l a d = each_covered j z gs fs d a

-- an assignment that leaves a place leaves it in some way
some_leave : (P : List Flow → Type 0) (o : Option (List Flow)) → MatchOption o ⊥ P → MatchOption o ⊥ (λ gs. Unit {0})
some_leave P None l = absurd l
some_leave P (Some gs) l = tt

-- what is known at a place that has been reached is enough there
pub entered_on : (p : Code) (n : ℕ) (entries : ℕ → Entry) (x : Option Point) (k : IsPassed p n entries) → IsPoint (entries n) x → IsEntered p (changed k.some n x) n
entered_on p n entries x k is = record { start = begins; enter = λ i. enters i (cases_lt i n) } where
  some : Assignment
  some = changed k.some n x

  there : some n ≡ x
  there = changed_there k.some n x

  before_is : (i : ℕ) → i < n → out p k.some i ≡ out p some i
  before_is i less = ap (leaving (length p.names) (slice_get p.tokens i) i) (sym (changed_else k.some n x i (λ e. omega (arith, e, less))))

  enters : (i : ℕ) → (i < n) ⊎ (n ≤ i) → MatchOption (out p some i) (Unit {0}) (AllByRecursion (λ f. f.to ≡ n → IsCovered (some n) f.point))
  enters i (inl less) =
      let P : Option (List Flow) → Type 0 = λ o. MatchOption o (Unit {0}) (AllByRecursion (λ f. f.to ≡ n → IsCovered (some n) f.point)) in
      let R : Option Point → Type 0 = λ y. MatchOption (out p k.some i) (Unit {0}) (AllByRecursion (λ f. f.to ≡ n → IsCovered y f.point)) in
      subst P (before_is i less) (subst R (sym there) (all_map (λ f. f.to ≡ n → IsCoveredBy (entries n) f.point) (λ f. f.to ≡ n → IsCovered x f.point) (out p k.some i) (λ f c e. point_covers (entries n) x f.point is (c e)) (k.covers n (omega arith) i less)))
  enters i (inr after) = none_back (IsCovered (some n)) n i (out p some i) after (leaving_beyond (length p.names) (slice_get p.tokens i) i (some i))

  begins : n ≡ 0 → some n ≡ Some origin
  begins e =
      let P : ℕ → Type 0 = λ m. IsPoint (entries m) x in
      let Q : Entry → Type 0 = λ y. IsPoint y x in
      let given : x ≡ Some origin = subst Q (k.first e) (subst P e is) in
      there ∙ given

-- the assignment is extended by the point that has arrived, if its flows are within what is
-- declared
pub sound_on : (p : Code) (n : ℕ) (entries : ℕ → Entry) (x : Option Point) (fs : List Flow) (k : IsPassed p n entries) → IsPoint (entries n) x → leaving (length p.names) (slice_get p.tokens n) n x ≡ Some fs → AllByRecursion (IsWithin p) fs → AreSound p (changed k.some n x) (n + 1)
sound_on p n entries x fs k is at within = sound where
  some : Assignment
  some = changed k.some n x

  there : some n ≡ x
  there = changed_there k.some n x

  out_there : out p some n ≡ Some fs
  out_there = ap (leaving (length p.names) (slice_get p.tokens n) n) there ∙ at

  entered : IsEntered p some n
  entered = entered_on p n entries x k is

  sound_here : IsSoundAt p some n
  sound_here = record {
    start = entered.start;
    enter = entered.enter;
    leave = let P : Option (List Flow) → Type 0 = λ o. MatchOption o ⊥ (AllByRecursion (IsWithin p)) in subst P (sym out_there) within;
  }

  sound_by : (j : ℕ) → j < n + 1 → (j < n) ⊎ (n ≤ j) → IsSoundAt p some j
  sound_by j less (inl before) = sound_changed p k.some n x k.sound j before
  sound_by j less (inr after) = let e : n ≡ j = omega (arith, less, after) in let P : ℕ → Type 0 = λ m. IsSoundAt p some m in subst P e sound_here

  sound : AreSound p some (n + 1)
  sound j less = sound_by j less (cases_lt j n)

-- the pass goes on if the flows of the point that has arrived are within what is declared
pub passed_on : (p : Code) (n : ℕ) (entries : ℕ → Entry) (x : Option Point) (fs : List Flow) → IsPassed p n entries → IsPoint (entries n) x → leaving (length p.names) (slice_get p.tokens n) n x ≡ Some fs → AllByRecursion (IsWithin p) fs → IsPassed p (n + 1) (spread fs entries)
passed_on p n entries x fs k is at within = record {
  least = least;
  some = some;
  sound = sound_on p n entries x fs k is at within;
  covers = covers;
  first = λ e. absurd (omega (arith, e));
} where
  some : Assignment
  some = changed k.some n x

  out_there : out p some n ≡ Some fs
  out_there = ap (leaving (length p.names) (slice_get p.tokens n) n) (changed_there k.some n x) ∙ at

  before_is : (i : ℕ) → i < n → out p k.some i ≡ out p some i
  before_is i less = ap (leaving (length p.names) (slice_get p.tokens i) i) (sym (changed_else k.some n x i (λ e. omega (arith, e, less))))

  covers_by : (j : ℕ) → n + 1 ≤ j → (i : ℕ) → i < n + 1 → (i < n) ⊎ (n ≤ i) → MatchOption (out p some i) (Unit {0}) (AllByRecursion (λ f. f.to ≡ j → IsCoveredBy (spread fs entries j) f.point))
  covers_by j le i less (inl before) =
      let P : Option (List Flow) → Type 0 = λ o. MatchOption o (Unit {0}) (AllByRecursion (λ f. f.to ≡ j → IsCoveredBy (spread fs entries j) f.point)) in
      subst P (before_is i before) (all_map (λ f. f.to ≡ j → IsCoveredBy (entries j) f.point) (λ f. f.to ≡ j → IsCoveredBy (spread fs entries j) f.point) (out p k.some i) (λ f c e. spread_keeps fs entries j f.point (c e)) (k.covers j (omega (arith, le)) i before))
  covers_by j le i less (inr after) =
      let e : n ≡ i = omega (arith, less, after) in
      let P : Option (List Flow) → Type 0 = λ o. MatchOption o (Unit {0}) (AllByRecursion (λ f. f.to ≡ j → IsCoveredBy (spread fs entries j) f.point)) in
      let Q : ℕ → Type 0 = λ m. P (out p some m) in
      subst Q e (subst P (sym out_there) (spread_covers fs entries j))

  covers : (j : ℕ) → n + 1 ≤ j → Arrives p some (n + 1) j (IsCoveredBy (spread fs entries j))
  covers j le i less = covers_by j le i less (cases_lt i n)

  least : (a : Assignment) → AreSound p a (n + 1) → (j : ℕ) → n + 1 ≤ j → (j ≡ 0 → a j ≡ Some origin) → Arrives p a (n + 1) j (IsCovered (a j)) → IsBelow (spread fs entries j) (a j)
  least a s j le start arrive =
      let earlier : AreSound p a n = λ i less. s i (omega (arith, less)) in
      let here : IsSoundAt p a n = s n (omega arith) in
      let below : IsBelow (entries n) (a n) = k.least a earlier n (omega arith) here.start (λ i less. here.enter i) in
      let so_far : IsBelow (entries j) (a j) = k.least a earlier j (omega (arith, le)) start (λ i less. arrive i (omega (arith, less))) in
      spread_least fs entries j (a j) so_far (above_covers (length p.names) (slice_get p.tokens n) n j (entries n) x (a n) (a j) fs is below at (some_leave (AllByRecursion (IsWithin p)) (out p a n) here.leave) (arrive n (omega arith)))

-- the pass begins with only the origin
pub passed_none : (p : Code) (entries : ℕ → Entry) → entries 0 ≡ Joined [] 0 → ((j : ℕ) → 0 < j → entries j ≡ Unreached) → IsPassed p 0 entries
passed_none p entries zero_is others = record {
  least = least;
  some = λ j. None;
  sound = λ j less. absurd (omega (arith, less));
  covers = λ j le i less. absurd (omega (arith, less));
  first = λ e. zero_is;
} where
  by : (a : Assignment) (j : ℕ) → (j ≡ 0 → a j ≡ Some origin) → (0 < j) ⊎ (j ≤ 0) → IsBelow (entries j) (a j)
  by a j start (inl more) = let P : Entry → Type 0 = λ e. IsBelow e (a j) in subst P (sym (others j more)) tt
  by a j start (inr none) =
      let e : 0 ≡ j = omega (arith, none) in
      let known : a j ≡ Some origin = start (sym e) in
      let P : Option Point → Type 0 = λ y. IsBelow (Joined [] 0) y in
      let Q : Entry → Type 0 = λ f. IsBelow f (a j) in
      let R : ℕ → Type 0 = λ m. entries m ≡ Joined [] 0 in
      subst Q (sym (subst R e zero_is)) (subst P (sym known) (tt, omega arith))

  least : (a : Assignment) → AreSound p a 0 → (j : ℕ) → 0 ≤ j → (j ≡ 0 → a j ≡ Some origin) → Arrives p a 0 j (IsCovered (a j)) → IsBelow (entries j) (a j)
  least a s j le start arrive = by a j start (cases_lt 0 j)
