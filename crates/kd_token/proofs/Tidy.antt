-- What arrives keeps the entries tidy, and each token leads somewhere.
use Rattle.std.proofs.Common.{◌≡◌, ℕ, zero, suc, ◌+◌, ◌<◌, ◌≤◌, max, Bool, true, false, List, [], ◌∷◌, length, get_or, Option, Some, None, refl, ap, subst, arith}
use Rattle.std.specs.Prelude.{◌==◌, if◌then◌else◌, slice_get, MatchOption}
use Rattle.std.specs.List.{AllByRecursion}
use Rattle.std.proofs.lemmas.Option.{slice_get_within, get_or_from_slice_get}
use Rattle.kd_token.specs.declared.shape.Kind.{Kind}
use Rattle.kd_token.specs.declared.shape.Kind.TheVariants as kinds
use Rattle.kd_token.specs.declared.token.Token.{Token}
use Rattle.kd_token.specs.declared.token.Token.TheVariants as tokens
use Rattle.kd_token.specs.declared.token.Version.{Version}
use Rattle.kd_token.specs.declared.token.Version.TheVariants as versions
use Rattle.kd_token.specs.declared.way.Way.{Way}
use Rattle.kd_token.specs.declared.way.Way.TheVariants as routes
use Rattle.kd_token.specs.declared.table.Entry.{Entry}
use Rattle.kd_token.specs.declared.table.Entry.TheVariants.{Unreached, Joined, Clash}
use Rattle.kd_token.specs.File.{Code, HasFile, AreTokens, IsToken, IsShort}
use Rattle.kd_wire.specs.Steps.{◌>>=◌}
use Rattle.kd_token.specs.Shape.{AreShort, IsShortKind, gives, bool_taken}
use Rattle.kd_token.specs.Meet.{met_of_kinds, met}
use Rattle.kd_token.specs.Accepts.{Point, Flow, flow_to, way_of, flows_by, flows, IsWithin}
use Rattle.kd_token.specs.Table.{joined_by, arrived, spread, skip_of, IsRoomFor, IsTidy, IsCoveredBy}
use Rattle.kd_token.proofs.Again.{token_short}
use Rattle.kd_token.proofs.Arrivals.{spread_covers}

kind_met : (most : ℕ) (k l : Kind) → IsShortKind most k → IsShortKind most l → MatchOption (met_of_kinds k l) (Unit {0}) (IsShortKind most)
kind_met most kinds.Bool kinds.Bool a b = tt
kind_met most kinds.Int kinds.Int a b = tt
kind_met most (kinds.Bytes n) (kinds.Bytes m) a b = omega (arith, a, b)
kind_met most kinds.Bool kinds.Int a b = tt
kind_met most kinds.Bool (kinds.Bytes m) a b = tt
kind_met most kinds.Int kinds.Bool a b = tt
kind_met most kinds.Int (kinds.Bytes m) a b = tt
kind_met most (kinds.Bytes n) kinds.Bool a b = tt
kind_met most (kinds.Bytes n) kinds.Int a b = tt

-- the met of two shapes is no deeper and no longer than they are
met_room : (most : ℕ) (r s : List Kind) → AreShort most r → AreShort most s → MatchOption (met r s) (Unit {0}) (λ t. (length t ≡ length r) × AreShort most t)
met_room most [] [] a b = (refl, tt)
met_room most [] (l ∷ s) a b = tt
met_room most (k ∷ r) [] a b = tt
met_room most (k ∷ r) (l ∷ s) a b = both (met_of_kinds k l) (met r s) (kind_met most k l a.0 b.0) (met_room most r s a.1 b.1) where
  both : (m : Option Kind) (t : Option (List Kind)) → MatchOption m (Unit {0}) (IsShortKind most) → MatchOption t (Unit {0}) (λ t. (length t ≡ length r) × AreShort most t)
      → MatchOption (m >>= λ m. t >>= λ t. Some (m ∷ t)) (Unit {0}) (λ u. (length u ≡ length (k ∷ r)) × AreShort most u)
  both None t c d = tt
  both (Some m) None c d = tt
  both (Some m) (Some t) c d = (ap suc d.0, (c, d.1))

-- a flow is within what is declared, and has at most n steps
abbrev pub IsTidyFlow : Code → ℕ → Flow → Type 0
IsTidyFlow p n f = IsRoomFor p f.point.shape × (f.point.count ≤ n)

arrived_tidy : (p : Code) (n : ℕ) (q : Point) (e : Entry) → IsTidy p n e → IsRoomFor p q.shape → q.count ≤ n → IsTidy p n (arrived q e)
arrived_tidy p n q Unreached t room le = (room, le)
arrived_tidy p n q Clash t room le = tt
arrived_tidy p n q (Joined s c) t room le = by_met (met s q.shape) (met_room p.bound s q.shape t.0.1 room.1) where
  by_met : (o : Option (List Kind)) → MatchOption o (Unit {0}) (λ u. (length u ≡ length s) × AreShort p.bound u) → IsTidy p n (joined_by o (max c q.count))
  by_met None d = tt
  by_met (Some u) d = let few : length s ≤ p.depth = t.0.0 in let most : c ≤ n = t.1 in ((omega (arith, d.0, few), d.1), omega (arith, le, most))

-- tidy flows keep an entry tidy
pub spread_tidy : (p : Code) (n : ℕ) (fs : List Flow) (entries : ℕ → Entry) (j : ℕ) → IsTidy p n (entries j) → AllByRecursion (IsTidyFlow p n) fs → IsTidy p n (spread fs entries j)
spread_tidy p n [] entries j t a = t
spread_tidy p n (f ∷ fs) entries j t a = spread_tidy p n fs (λ k. if k == f.to then arrived f.point (entries k) else entries k) j (by_test (j == f.to)) a.1 where
  by_test : (b : Bool) → IsTidy p n (if b then arrived f.point (entries j) else entries j)
  by_test true = arrived_tidy p n f.point (entries j) t a.0.0 a.0.1
  by_test false = t

-- more steps are allowed
pub tidy_more : (p : Code) (n : ℕ) (e : Entry) → IsTidy p n e → IsTidy p (n + 1) e
tidy_more p n Unreached t = tt
tidy_more p n Clash t = tt
tidy_more p n (Joined s c) t = (t.0, omega (arith, t.1))

-- the flows of a point have one more step
abbrev Counts : ℕ → List Flow → Type 0
Counts c fs = AllByRecursion (λ f. f.point.count ≡ c) fs

counts_by : (way : Way) (names : ℕ) (token : Token) (i : ℕ) (q : Point) → MatchOption (flows_by way names token i q) (Unit {0}) (Counts (q.count + 1))
counts_by routes.On names token i q = one (gives names token q.shape) where
  one : (o : Option (List Kind)) → MatchOption (o >>= λ s. Some (flow_to (i + 1) q s ∷ [])) (Unit {0}) (Counts (q.count + 1))
  one None = tt
  one (Some s) = (refl, tt)
counts_by (routes.Skip skip) names token i q = (refl, tt)
counts_by (routes.Fork skip) names token i q = two (bool_taken q.shape) where
  two : (o : Option (List Kind)) → MatchOption (o >>= λ r. Some (flow_to (i + 1 + skip) q r ∷ flow_to (i + 1) q r ∷ [])) (Unit {0}) (Counts (q.count + 1))
  two None = tt
  two (Some r) = (refl, (refl, tt))
counts_by (routes.Keep stays skip) names token i q = two (bool_taken q.shape) where
  two : (o : Option (List Kind)) → MatchOption (o >>= λ r. Some (flow_to (i + 1 + skip) q (kinds.Bool ∷ r) ∷ flow_to (i + 1) q r ∷ [])) (Unit {0}) (Counts (q.count + 1))
  two None = tt
  two (Some r) = (refl, (refl, tt))

-- flows within what is declared are tidy
pub flows_tidy : (p : Code) (token : Token) (i n : ℕ) (q : Point) (fs : List Flow) → q.count ≤ n → flows (length p.names) token i q ≡ Some fs → AllByRecursion (IsWithin p) fs → AllByRecursion (IsTidyFlow p (n + 1)) fs
flows_tidy p token i n q fs le is within =
    let P : Option (List Flow) → Type 0 = λ o. MatchOption o (Unit {0}) (Counts (q.count + 1)) in
    each fs within (subst P is (counts_by (way_of token) (length p.names) token i q)) where
      each : (fs : List Flow) → AllByRecursion (IsWithin p) fs → Counts (q.count + 1) fs → AllByRecursion (IsTidyFlow p (n + 1)) fs
      each [] w c = tt
      each (f ∷ fs) w c = ((w.0, omega (arith, c.0, le)), each fs w.1 c.1)

-- the first flow leads on, at most this far
abbrev LeadsOn : ℕ → ℕ → List Flow → Type 0
LeadsOn i most [] = ⊥
LeadsOn i most (f ∷ fs) = (i < f.to) × (f.to ≤ most)

leads_by : (way : Way) (names : ℕ) (token : Token) (i : ℕ) (q : Point) → MatchOption (flows_by way names token i q) (Unit {0}) (LeadsOn i (i + 1 + skip_of way))
leads_by routes.On names token i q = one (gives names token q.shape) where
  one : (o : Option (List Kind)) → MatchOption (o >>= λ s. Some (flow_to (i + 1) q s ∷ [])) (Unit {0}) (LeadsOn i (i + 1 + 0))
  one None = tt
  one (Some s) = (omega arith, omega arith)
leads_by (routes.Skip skip) names token i q = (omega arith, omega arith)
leads_by (routes.Fork skip) names token i q = two (bool_taken q.shape) where
  two : (o : Option (List Kind)) → MatchOption (o >>= λ r. Some (flow_to (i + 1 + skip) q r ∷ flow_to (i + 1) q r ∷ [])) (Unit {0}) (LeadsOn i (i + 1 + skip))
  two None = tt
  two (Some r) = (omega arith, omega arith)
leads_by (routes.Keep stays skip) names token i q = two (bool_taken q.shape) where
  two : (o : Option (List Kind)) → MatchOption (o >>= λ r. Some (flow_to (i + 1 + skip) q (kinds.Bool ∷ r) ∷ flow_to (i + 1) q r ∷ [])) (Unit {0}) (LeadsOn i (i + 1 + skip))
  two None = tt
  two (Some r) = (omega arith, omega arith)

covered_reached : (e : Entry) (q : Point) → IsCoveredBy e q → e ≡ Unreached → ⊥
covered_reached e q c is = let P : Entry → Type 0 = λ f. IsCoveredBy f q in let none : ⊥ = subst P is c in none

-- a place to which the flows of a token lead is reached
pub flows_reach : (names : ℕ) (token : Token) (i most : ℕ) (q : Point) (fs : List Flow) (entries : ℕ → Entry) → i + 1 + skip_of (way_of token) ≤ most → flows names token i q ≡ Some fs
    → (j : ℕ) × (i + 1 ≤ j) × (j ≤ most) × (spread fs entries j ≡ Unreached → ⊥)
flows_reach names token i most q fs entries le is =
    let P : Option (List Flow) → Type 0 = λ o. MatchOption o (Unit {0}) (LeadsOn i (i + 1 + skip_of (way_of token))) in
    first fs (subst P is (leads_by (way_of token) names token i q)) where
      first : (fs : List Flow) → LeadsOn i (i + 1 + skip_of (way_of token)) fs → (j : ℕ) × (i + 1 ≤ j) × (j ≤ most) × (spread fs entries j ≡ Unreached → ⊥)
      first [] l = absurd l
      first (f ∷ fs) l =
          let covers = spread_covers (f ∷ fs) entries f.to in
          (f.to, omega (arith, l.0), omega (arith, l.1, le), covered_reached (spread (f ∷ fs) entries f.to) f.point (covers.0 refl))

-- the reach of a branch is within the program
branch_within : (version : Version) (behind : ℕ) (token : Token) → IsToken version behind token → skip_of (way_of token) ≤ behind
branch_within versions.One behind (tokens.Branch skip) is = absurd is
branch_within versions.Two behind (tokens.Branch skip) is = is
branch_within versions.One behind (tokens.PopBranchFalse skip) is = absurd is
branch_within versions.Two behind (tokens.PopBranchFalse skip) is = is
branch_within versions.One behind (tokens.BranchFalseElsePop skip) is = absurd is
branch_within versions.Two behind (tokens.BranchFalseElsePop skip) is = is
branch_within versions.One behind (tokens.BranchTrueElsePop skip) is = absurd is
branch_within versions.Two behind (tokens.BranchTrueElsePop skip) is = is
branch_within version behind token is = omega arith

token_at : (version : Version) (list : List Token) (i : ℕ) (d : Token) → AreTokens version list → i < length list → (behind : ℕ) × (i + 1 + behind ≡ length list) × IsToken version behind (get_or list i d)
token_at version [] i d all less = absurd (omega (arith, less))
token_at version (token ∷ list) zero d all less = (length list, omega arith, all.0)
token_at version (token ∷ list) (suc i) d all less =
    let rest = token_at version list i d all.1 (omega (arith, less)) in
    let behind = rest.1 in
    (rest.0, omega (arith, behind), rest.2)

-- a token of a program is what its file can say, with the tokens after it
pub is_token : (p : Code) (i : ℕ) (token : Token) → HasFile p → slice_get p.tokens i ≡ Some token → (behind : ℕ) × (i + 1 + behind ≡ length p.tokens) × IsToken p.version behind token
is_token p i token file is =
    let less : i < length p.tokens = slice_get_within p.tokens i token is in
    let here : get_or p.tokens i token ≡ token = get_or_from_slice_get p.tokens i token token is in
    let P : Token → Type 0 = λ t. (behind : ℕ) × (i + 1 + behind ≡ length p.tokens) × IsToken p.version behind t in
    subst P here (token_at p.version p.tokens i token file.tokens less)

-- a token of a program leads at most to its end
pub reach_within : (p : Code) (i : ℕ) (token : Token) → HasFile p → slice_get p.tokens i ≡ Some token → i + 1 + skip_of (way_of token) ≤ length p.tokens
reach_within p i token file is =
    let told = is_token p i token file is in
    let place = told.1 in
    let le = branch_within p.version told.0 token told.2 in
    omega (arith, place, le)

-- a byte string of a program's token is short
pub literal_short : (p : Code) (i : ℕ) (token : Token) → HasFile p → slice_get p.tokens i ≡ Some token → IsShort token
literal_short p i token file is = let told = is_token p i token file is in token_short p.version told.0 token told.2
