-- The first row that has ended: the rows of a block are looked at one after another, or the block
-- is skipped.
use Rattle.std.proofs.Common.{◌≡◌, ℕ, ◌+◌, ◌*◌, ◌<◌, ◌≤◌, max, min, List, false, length, get_or, Some, None, IsSome, Option, refl, sym, ap, ◌∙◌, subst, arith, ⊎_elim, ◌⊎◌, inl, inr}
use Rattle.std.specs.List.{All}
use Rattle.std.proofs.lemmas.Bool.{cases_eq, cases_lt}
use Rattle.std.proofs.lemmas.Option.{same_Some}
use Rattle.kd_rows.specs.declared.row.Row.{Row}
use Rattle.kd_rows.specs.Index.{IsBounded, IsPlace, block_number}
use Rattle.kd_rows.specs.Open.{open_rows}
use Rattle.kd_rows.specs.Table.{IsNextEnded, Rise, row_at}
use Rattle.kd_rows.specs.Withheld.{IsNextOpenEnded, is_withheld}
use Rattle.kd_rows.proofs.Bounds.{row_all}
use Rattle.kd_rows.proofs.Opens.{open_at, open_is}
use Rattle.kd_rows.proofs.Places.{apart, is_at, none_at, read_at}

-- an address is below the rows from an index on
abbrev pub IsBelowFrom : List Row → ℕ → ℕ → Type 0
IsBelowFrom rows a place = (i : ℕ) (d : Row) → place ≤ i → i < length rows → a < (get_or rows i d).address

-- none of the open rows from an address on and before an index has ended
abbrev pub NoneEnded : List ℕ → List Row → ℕ → ℕ → ℕ → Type 0
NoneEnded withheld rows first moment place = (a : ℕ) (row : Row) → first ≤ a → IsBelowFrom rows a place → row_at (open_rows withheld rows) a ≡ Some row → moment < row.ends

-- the row at an index is found at its address
pub found_here : (rows : List Row) (place : ℕ) (row : Row) → Rise rows → place < length rows → row ≡ get_or rows place row → row_at rows row.address ≡ Some row
found_here rows place row rise within is = (is_at rows row.address place rise within (λ d. read_at rows place row d within is)).found row ∙ ap Some (sym is)

-- an address that is neither before an index nor from it on has no row
pub nowhere : (rows : List Row) (a place : ℕ) → ((i : ℕ) (d : Row) → i < place → i < length rows → (get_or rows i d).address < a) → IsBelowFrom rows a place → row_at rows a ≡ None
nowhere rows a place below above = none_at rows a (λ i d within e. ⊎_elim (λ l. let h = below i d l within in omega arith) (λ l. let h = above i d l within in omega arith) (cases_lt i place))

pub none_first : (withheld : List ℕ) (rows : List Row) (first moment place : ℕ) → IsPlace rows first place → NoneEnded withheld rows first moment place
none_first withheld rows first moment place p a row from above found =
    let none = nowhere rows a place (λ i d before within. let h = p.below i d before in omega arith) above in
    let there = (open_is withheld rows a row found).1 in
    cc

-- an address below that of the row at an index is below the rows from there on
pub below_here : (rows : List Row) (place a : ℕ) (row : Row) → Rise rows → place < length rows → row ≡ get_or rows place row → a < row.address → IsBelowFrom rows a place
below_here rows place a row rise within is less i d after inside =
    let h = apart rows rise place i d after inside in
    let g = read_at rows place row d within is in
    omega arith

-- an address below the rows after an index is below the row at that index, at it, or at no row
pub around : (rows : List Row) (place a : ℕ) (row : Row) → Rise rows → place < length rows → row ≡ get_or rows place row → IsBelowFrom rows a (place + 1) → IsBelowFrom rows a place ⊎ ((a ≡ row.address) ⊎ (row_at rows a ≡ None))
around rows place a row rise within is above = ⊎_elim
    (λ l. inl (below_here rows place a row rise within is l))
    (λ l. inr (⊎_elim (λ e. inl e) (λ n. inr (nowhere rows a (place + 1) (before (omega arith)) above)) (cases_eq a row.address)))
    (cases_lt a row.address) where
      before : row.address < a → (i : ℕ) (d : Row) → i < place + 1 → i < length rows → (get_or rows i d).address < a
      before more i d less inside =
          let h = apart rows rise i place d (omega arith) within in
          let g = read_at rows place row d within is in
          omega arith

-- one more row that has not ended or is withheld
pub none_step : (withheld : List ℕ) (rows : List Row) (first moment place : ℕ) (row : Row) → Rise rows → place < length rows → row ≡ get_or rows place row → (is_withheld withheld row.address ≡ false → moment < row.ends) → NoneEnded withheld rows first moment place
    → NoneEnded withheld rows first moment (place + 1)
none_step withheld rows first moment place row rise within is live h a other from above found = by (around rows place a row rise within is above) (open_is withheld rows a other found) where
  by : IsBelowFrom rows a place ⊎ ((a ≡ row.address) ⊎ (row_at rows a ≡ None)) → (is_withheld withheld a ≡ false) × (row_at rows a ≡ Some other) → moment < other.ends
  by (inl below) there = h a other from below found
  by (inr (inl e)) there =
      let this : row_at rows a ≡ Some row = subst (λ (n : ℕ). row_at rows n ≡ Some row) (sym e) (found_here rows place row rise within is) in
      let same : row ≡ other = same_Some row other (sym this ∙ there.1) in
      subst (λ (r : Row). moment < r.ends) same (live (subst (λ (n : ℕ). is_withheld withheld n ≡ false) e there.0))
  by (inr (inr none)) there = let e = there.1 in cc

pub ended_here : (withheld : List ℕ) (rows : List Row) (first last moment place : ℕ) (row : Row) → Rise rows → place < length rows → row ≡ get_or rows place row → first ≤ row.address → row.address ≤ last → row.ends ≤ moment → is_withheld withheld row.address ≡ false → NoneEnded withheld rows first moment place
    → IsNextEnded (open_rows withheld rows) first last moment (Some row)
ended_here withheld rows first last moment place row rise within is from to ended out h = (
  open_at withheld rows row.address out ∙ found_here rows place row rise within is,
  from,
  to,
  ended,
  λ a other low less found. h a other low (below_here rows place a row rise within is less) found,
)

pub none_past : (withheld : List ℕ) (rows : List Row) (first last moment place : ℕ) (row : Row) → Rise rows → place < length rows → row ≡ get_or rows place row → last < row.address → NoneEnded withheld rows first moment place → IsNextEnded (open_rows withheld rows) first last moment None
none_past withheld rows first last moment place row rise within is past h a other low high found = h a other low (below_here rows place a row rise within is (omega arith)) found

pub none_over : (withheld : List ℕ) (rows : List Row) (first last moment place : ℕ) → length rows ≤ place → NoneEnded withheld rows first moment place → IsNextEnded (open_rows withheld rows) first last moment None
none_over withheld rows first last moment place all h a other low high found = h a other low (λ i d after inside. absurd (omega arith)) found

-- none ends before the time at or after which all of them end
pub none_early : (rows : List Row) (first last moment least : ℕ) → All (λ row. least ≤ row.ends) rows → moment < least → IsNextEnded rows first last moment None
none_early rows first last moment least all early a row from to found =
    let h : least ≤ row.ends = (row_all (λ (r : Row). least ≤ r.ends) rows a row all found).0 in
    omega arith

-- none of the rows from an address to another whose blocks are before an index has ended
abbrev pub NoneOf : List Row → List Row → ℕ → ℕ → ℕ → ℕ → Type 0
NoneOf rows bounds first last moment place = (a : ℕ) (row : Row) → first ≤ a → a ≤ last → IsBelowFrom bounds (block_number a) place → row_at rows a ≡ Some row → moment < row.ends

-- the block of an address that has a row has a bound, at most the row's end
has_bound : (rows bounds : List Row) (a : ℕ) (row : Row) → IsBounded rows bounds → row_at rows a ≡ Some row → (bound : Row) × (row_at bounds (block_number a) ≡ Some bound) × (bound.ends ≤ row.ends)
has_bound rows bounds a row b found = by (row_at bounds (block_number a)) refl (subst (λ (n : ℕ). IsSome (row_at bounds (block_number n))) has.1 has.0) where
  has : IsSome (row_at bounds (block_number row.address)) × (row.address ≡ a)
  has = row_all (λ (r : Row). IsSome (row_at bounds (block_number r.address))) rows a row b.has found

  by : (o : Option Row) → row_at bounds (block_number a) ≡ o → IsSome o → (bound : Row) × (row_at bounds (block_number a) ≡ Some bound) × (bound.ends ≤ row.ends)
  by None e some = cc
  by (Some bound) e some = (bound, e, (row_all (λ (r : Row). block_number r.address ≡ block_number a → bound.ends ≤ r.ends) rows a row (b.least (block_number a) bound e) found).0 (ap block_number has.1))

pub blocks_first : (rows bounds : List Row) (first last moment place : ℕ) → IsBounded rows bounds → IsPlace bounds (block_number first) place → NoneOf rows bounds first last moment place
blocks_first rows bounds first last moment place b p a row from to above found =
    let has = has_bound rows bounds a row b found in
    let none : row_at bounds (block_number a) ≡ None = nowhere bounds (block_number a) place (λ i d before within. let h = p.below i d before in omega arith) above in
    absurd (nothing (sym none ∙ has.1)) where
      nothing : None ≡ Some (has_bound rows bounds a row b found).0 → ⊥
      nothing e = cc

-- the rest of the search if a block's rows have not ended, from the first address to the last
pub blocks_step : (rows bounds : List Row) (first last moment place : ℕ) (bound : Row) → IsBounded rows bounds → place < length bounds → bound ≡ get_or bounds place bound
    → ((a : ℕ) (row : Row) → first ≤ a → a ≤ last → block_number a ≡ bound.address → row_at rows a ≡ Some row → moment < row.ends) → NoneOf rows bounds first last moment place → NoneOf rows bounds first last moment (place + 1)
blocks_step rows bounds first last moment place bound b within is here h a row from to above found = by (around bounds place (block_number a) bound b.rise within is above) where
  has : (bound : Row) × (row_at bounds (block_number a) ≡ Some bound) × (bound.ends ≤ row.ends)
  has = has_bound rows bounds a row b found

  nothing : (x : Row) → row_at bounds (block_number a) ≡ None → row_at bounds (block_number a) ≡ Some x → ⊥
  nothing x e f = cc

  by : IsBelowFrom bounds (block_number a) place ⊎ ((block_number a ≡ bound.address) ⊎ (row_at bounds (block_number a) ≡ None)) → moment < row.ends
  by (inl below) = h a row from to below found
  by (inr (inl e)) = here a row from to e found
  by (inr (inr none)) = absurd (nothing has.0 none has.1)

-- if a block's bound is after a time, none of its rows has ended
pub block_live : (rows bounds : List Row) (first last moment place : ℕ) (bound : Row) → IsBounded rows bounds → place < length bounds → bound ≡ get_or bounds place bound → moment < bound.ends
    → (a : ℕ) (row : Row) → first ≤ a → a ≤ last → block_number a ≡ bound.address → row_at rows a ≡ Some row → moment < row.ends
block_live rows bounds first last moment place bound b within is live a row from to at found =
    let e : row_at bounds (block_number a) ≡ Some bound = subst (λ (n : ℕ). row_at bounds n ≡ Some bound) (sym at) (found_here bounds place bound b.rise within is) in
    let h = row_all (λ (r : Row). block_number r.address ≡ block_number a → bound.ends ≤ r.ends) rows a row (b.least (block_number a) bound e) found in
    let low : bound.ends ≤ row.ends = h.0 (ap block_number h.1) in
    omega arith

-- a block whose rows were looked at and have not ended
pub block_none : (rows : List Row) (first last from to moment block : ℕ) → from ≤ max first (block * 64) → min last (block * 64 + 63) ≤ to → IsNextEnded rows from to moment None
    → (a : ℕ) (row : Row) → first ≤ a → a ≤ last → block_number a ≡ block → row_at rows a ≡ Some row → moment < row.ends
block_none rows first last from to moment block low high none a row f t at found = none a row (omega (arith, at)) (omega (arith, at)) found

-- a row of a block that has ended, if none has in the blocks before
pub block_found : (rows bounds : List Row) (first last from to moment place : ℕ) (bound row : Row) → IsBounded rows bounds → place < length bounds → bound ≡ get_or bounds place bound → from ≡ max first (bound.address * 64) → to ≡ min last (bound.address * 64 + 63)
    → IsNextEnded rows from to moment (Some row) → NoneOf rows bounds first last moment place → IsNextEnded rows first last moment (Some row)
block_found rows bounds first last from to moment place bound row b within is low high found h = (
  found.0,
  omega (arith, found.1),
  omega (arith, found.2),
  found.3,
  λ a other f less there. ⊎_elim
      (λ l. h a other f (omega (arith, found.2)) (below_here bounds place (block_number a) bound b.rise within is l) there)
      (λ l. found.4 a other (omega (arith, l)) less there)
      (cases_lt (block_number a) bound.address),
)

-- the search ends if a block is above that of the last address, or if there are no more
pub blocks_past : (rows bounds : List Row) (first last moment place : ℕ) (bound : Row) → IsBounded rows bounds → place < length bounds → bound ≡ get_or bounds place bound → block_number last < bound.address → NoneOf rows bounds first last moment place → IsNextEnded rows first last moment None
blocks_past rows bounds first last moment place bound b within is past h a row from to found = h a row from to (below_here bounds place (block_number a) bound b.rise within is (omega (arith, past))) found

pub blocks_over : (rows bounds : List Row) (first last moment place : ℕ) → length bounds ≤ place → NoneOf rows bounds first last moment place → IsNextEnded rows first last moment None
blocks_over rows bounds first last moment place all h a row from to found = h a row from to (λ i d after inside. absurd (omega arith)) found

-- the first open row that has ended, of all rows
pub ended_open : (withheld : List ℕ) (rows : List Row) (first last moment : ℕ) (found : Option Row) → IsNextEnded (open_rows withheld rows) first last moment found → IsNextOpenEnded rows withheld first last moment found
ended_open withheld rows first last moment None h = λ a row from to out there. h a row from to (open_at withheld rows a out ∙ there)
ended_open withheld rows first last moment (Some row) h =
    let is = open_is withheld rows row.address row h.0 in
    (is.1, h.1, h.2, is.0, h.3, λ a other from less out there. h.4 a other from less (open_at withheld rows a out ∙ there))
