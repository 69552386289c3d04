-- What has arrived at each place of a program while the verifier passes over it, computed. Proofs
-- tie these functions to assignments; public contracts do not cite them.
use Rattle.std.specs.Prelude.{◌≡◌, ℕ, ◌+◌, ◌<◌, ◌≤◌, max, List, [], ◌∷◌, length, ◌==◌, if◌then◌else◌, Option, Some, None, MatchOption, get_or}
use Rattle.std.specs.List.{AllByRecursion}
use Rattle.kd_token.specs.declared.shape.Kind.{Kind}
use Rattle.kd_token.specs.declared.way.Way.{Way}
use Rattle.kd_token.specs.declared.way.Way.TheVariants as routes
use Rattle.kd_token.specs.Shape.{AreShort}
use Rattle.kd_token.specs.declared.table.Entry.{Entry}
use Rattle.kd_token.specs.declared.table.Entry.TheVariants.{Unreached, Joined, Clash}
use Rattle.kd_token.specs.File.{Code}
use Rattle.kd_token.specs.Meet.{met}
use Rattle.kd_token.specs.Accepts.{Point, Flow, Assignment, origin, out, IsCovered, AreSound}

-- what has arrived at a place of the table
abbrev pub entry_at : List Entry → ℕ → Entry
entry_at table j = get_or table j Unreached

-- the point of a shape and a count
abbrev pub point : List Kind → ℕ → Point
point shape count = record { shape = shape; count = count }

-- how many tokens a way skips at most
abbrev pub skip_of : Way → ℕ
skip_of routes.On = 0
skip_of (routes.Skip skip) = skip
skip_of (routes.Fork skip) = skip
skip_of (routes.Keep stays skip) = skip

-- what a token leaves is within what the program declares
abbrev pub IsRoomFor : Code → List Kind → Type 0
IsRoomFor p s = (length s ≤ p.depth) × AreShort p.bound s

-- a shape that is met, or a clash
abbrev pub joined_by : Option (List Kind) → ℕ → Entry
joined_by None c = Clash
joined_by (Some t) c = Joined t c

-- an entry after a point arrived
abbrev pub arrived : Point → Entry → Entry
arrived q Unreached = Joined q.shape q.count
arrived q Clash = Clash
arrived q (Joined s c) = joined_by (met s q.shape) (max c q.count)

-- what has arrived at each place after these flows as well
abbrev pub spread : List Flow → (ℕ → Entry) → ℕ → Entry
spread [] entries j = entries j
spread (f ∷ fs) entries j =
    spread fs (λ k. if k == f.to then arrived f.point (entries k) else entries k) j

-- an entry is below what an assignment knows at its place
abbrev pub IsBelow : Entry → Option Point → Type 0
IsBelow Unreached x = Unit {0}
IsBelow Clash x = ⊥
IsBelow (Joined s c) x = IsCovered x (record { shape = s; count = c })

-- a point is covered by an entry; a clash covers every point
abbrev pub IsCoveredBy : Entry → Point → Type 0
IsCoveredBy Unreached q = ⊥
IsCoveredBy Clash q = Unit {0}
IsCoveredBy (Joined s c) q = IsCovered (Some (record { shape = s; count = c })) q

-- each flow from a place before n to place j satisfies this
abbrev pub Arrives : Code → Assignment → ℕ → ℕ → (Point → Type 0) → Type 0
Arrives p a n j P =
    (i : ℕ) → i < n → MatchOption (out p a i) (Unit {0})
    (AllByRecursion (λ f. f.to ≡ j → P f.point))

-- what the pass maintains at place n: every assignment that is sound before n is above what has
-- arrived; some assignment is sound before n, and all its flows have arrived; at the first place
-- the origin has arrived
pub record IsPassed (p : Code) (n : ℕ) (entries : ℕ → Entry) : Type 0 where
  pub least : (a : Assignment) → AreSound p a n → (j : ℕ) → n ≤ j → (j ≡ 0 → a j ≡ Some origin)
      → Arrives p a n j (IsCovered (a j)) → IsBelow (entries j) (a j)
  pub some : Assignment
  pub sound : AreSound p some n
  pub covers : (j : ℕ) → n ≤ j → Arrives p some n j (IsCoveredBy (entries j))
  pub first : n ≡ 0 → entries 0 ≡ Joined [] 0

-- the point that an entry stands for
abbrev pub IsPoint : Entry → Option Point → Type 0
IsPoint Unreached x = x ≡ None
IsPoint Clash x = ⊥
IsPoint (Joined s c) x = x ≡ Some (record { shape = s; count = c })

-- an entry is within what is declared, and has at most n steps
abbrev pub IsTidy : Code → ℕ → Entry → Type 0
IsTidy p n Unreached = Unit {0}
IsTidy p n Clash = Unit {0}
IsTidy p n (Joined s c) = IsRoomFor p s × (c ≤ n)

-- what the table maintains at place n: the pass is there, the entries from there on are tidy, and
-- one of them is reached
pub record IsAt (p : Code) (n : ℕ) (table : List Entry) : Type 0 where
  pub size : length table ≡ length p.tokens + 1
  pub passed : IsPassed p n (entry_at table)
  pub tidy : (j : ℕ) → n ≤ j → IsTidy p n (entry_at table j)
  pub reached : (j : ℕ) × (n ≤ j) × (j ≤ length p.tokens) × (entry_at table j ≡ Unreached → ⊥)
