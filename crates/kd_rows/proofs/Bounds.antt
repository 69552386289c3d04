-- The bounds of blocks: what is true of them after a bound or a row is set.
use Rattle.std.proofs.Common.{◌≡◌, ℕ, ◌+◌, ◌-◌, ◌*◌, ◌<◌, ◌≤◌, Bool, true, false, List, [], ◌∷◌, length, get_or, suc, refl, sym, ap, ◌∙◌, subst, Option, Some, None, IsSome, is_some, option_map, arith, ⊎_elim, ◌⊎◌, inl, inr, if◌then◌else◌, ◌==◌, ◌||◌, nat_lt, min}
use Rattle.std.specs.List.{All}
use Rattle.std.proofs.lemmas.Bool.{cases_eq, cases_lt, eq-eqb, eqb-true, ne_eqb}
use Rattle.std.proofs.lemmas.Bool.Decides.{nat_tests}
use Rattle.std.proofs.lemmas.List.{get_or_default}
use Rattle.std.proofs.lemmas.Option.{same_Some}
use Rattle.kd_rows.specs.declared.row.Row.{Row}
use Rattle.kd_rows.specs.Index.{IsBound, IsBounded, IsLower, IsNow, IsPlace, block_number, end_at}
use Rattle.kd_rows.specs.Open.{open_rows}
use Rattle.kd_rows.specs.Table.{Rise, row_at, with_row}
use Rattle.kd_rows.specs.Withheld.{is_withheld}
use Rattle.kd_rows.proofs.Opens.{open_all}
use Rattle.kd_rows.proofs.Places.{apart, read_at}
use Rattle.kd_rows.proofs.Sets.{all-with_row, rise-with_row, row_at-with_row}

-- what is true of each row is true of the row at an address, which has that address
pub row_all : (P : Row → Type 0) (rows : List Row) (a : ℕ) (row : Row) → All P rows → row_at rows a ≡ Some row → P row × (row.address ≡ a)
row_all P [] a row all h = cc
row_all P (r ∷ rows) a row all h = by (r.address == a) refl h (row_all P rows a row (λ k d within. all (suc k) d (omega arith))) where
  by : (b : Bool) → (r.address == a) ≡ b → (if b then Some r else row_at rows a) ≡ Some row → (row_at rows a ≡ Some row → P row × (row.address ≡ a)) → P row × (row.address ≡ a)
  by true e h rest = subst (λ (x : Row). P x × (x.address ≡ a)) (same_Some r row h) (all 0 r (omega arith), eqb-true r.address a e)
  by false e h rest = rest h

-- if a row is or was there, one is there after a row is set
some_here : (row : Row) (rows : List Row) (a : ℕ) → row.address ≡ a → IsSome (row_at (with_row row rows) a)
some_here row rows a e = ap is_some (row_at-with_row row rows a) ∙ rw (eq-eqb row.address a e) refl

some_more : (row : Row) (rows : List Row) (a : ℕ) → IsSome (row_at rows a) → IsSome (row_at (with_row row rows) a)
some_more row rows a h = ap is_some (row_at-with_row row rows a) ∙ by (row.address == a) where
  by : (b : Bool) → is_some (if b then Some row else row_at rows a) ≡ true
  by true = refl
  by false = h

-- what is read of the bounds after one is set
read_set : (bound : Row) (bounds : List Row) (block : ℕ) (b : Row) → row_at (with_row bound bounds) block ≡ Some b → ((bound.address ≡ block) × (bound ≡ b)) ⊎ ((bound.address ≡ block → ⊥) × (row_at bounds block ≡ Some b))
read_set bound bounds block b h = ⊎_elim
    (λ e. inl (e, same_Some bound b (subst (λ (t : Bool). (if t then Some bound else row_at bounds block) ≡ Some b) (eq-eqb bound.address block e) (sym (row_at-with_row bound bounds block) ∙ h))))
    (λ n. inr (n, subst (λ (t : Bool). (if t then Some bound else row_at bounds block) ≡ Some b) (ne_eqb bound.address block n) (sym (row_at-with_row bound bounds block) ∙ h)))
    (cases_eq bound.address block)

-- the bounds after a row is set together with the bound of its block
pub bounded_set : (rows bounds : List Row) (row bound : Row) → IsBounded rows bounds → bound.address ≡ block_number row.address → IsBound (with_row row rows) bound.address bound.ends → IsBounded (with_row row rows) (with_row bound bounds)
bounded_set rows bounds row bound old same is = record { rise = rise-with_row bound bounds old.rise; has = has; least = least } where
  has : All (λ (r : Row). IsSome (row_at (with_row bound bounds) (block_number r.address))) (with_row row rows)
  has = all-with_row (λ (r : Row). IsSome (row_at (with_row bound bounds) (block_number r.address))) row rows (some_here bound bounds (block_number row.address) same) (λ k d within. some_more bound bounds (block_number (get_or rows k d).address) (old.has k d within))

  least : (block : ℕ) (b : Row) → row_at (with_row bound bounds) block ≡ Some b → IsBound (with_row row rows) block b.ends
  least block b h = by (read_set bound bounds block b h) where
    by : ((bound.address ≡ block) × (bound ≡ b)) ⊎ ((bound.address ≡ block → ⊥) × (row_at bounds block ≡ Some b)) → IsBound (with_row row rows) block b.ends
    by (inl e) = subst (λ (x : Row). IsBound (with_row row rows) block x.ends) e.1 (subst (λ (n : ℕ). IsBound (with_row row rows) n bound.ends) e.0 is)
    by (inr n) = all-with_row (λ (r : Row). block_number r.address ≡ block → b.ends ≤ r.ends) row rows (λ e. absurd (n.0 (same ∙ e))) (old.least block b n.1)

-- what remains of a bound is a bound after a row is set
pub kept_is : (rows bounds : List Row) (row : Row) (held kept : Option ℕ) (least : ℕ) → IsBounded rows bounds → held ≡ end_at bounds (block_number row.address) → IsLower held row.ends kept → IsNow (with_row row rows) (block_number row.address) kept least
    → IsBound (with_row row rows) (block_number row.address) least
kept_is rows bounds row held None least old is lower now = now
kept_is rows bounds row None (Some kept) least old is lower now = absurd lower
kept_is rows bounds row (Some bound) (Some kept) least old is lower now = by (row_at bounds (block_number row.address)) refl is where
  by : (o : Option Row) → row_at bounds (block_number row.address) ≡ o → Some bound ≡ option_map (λ (r : Row). r.ends) o → IsBound (with_row row rows) (block_number row.address) least
  by None e is = cc
  by (Some b) e is =
      let same : bound ≡ b.ends = same_Some bound b.ends is in
      all-with_row (λ (r : Row). block_number r.address ≡ block_number row.address → least ≤ r.ends) row rows (λ h. omega (arith, lower, now))
      (λ k d within h. let g = old.least (block_number row.address) b e k d within h in omega (arith, g, lower, now, same))

-- the block of an existing row has room for its bound, because it has one
pub held_there : (rows bounds : List Row) (row : Row) → IsBounded rows bounds → IsSome (row_at rows row.address) → IsSome (row_at bounds (block_number row.address))
held_there rows bounds row old there = by (row_at rows row.address) refl there where
  by : (o : Option Row) → row_at rows row.address ≡ o → IsSome o → IsSome (row_at bounds (block_number row.address))
  by None e there = cc
  by (Some r) e there =
      let h = row_all (λ (x : Row). IsSome (row_at bounds (block_number x.address))) rows row.address r old.has e in
      subst (λ (a : ℕ). IsSome (row_at bounds (block_number a))) h.1 h.0

pub some_end : (rows : List Row) (a : ℕ) → is_some (end_at rows a) ≡ is_some (row_at rows a)
some_end rows a = by (row_at rows a) where
  by : (o : Option Row) → is_some (option_map (λ (r : Row). r.ends) o) ≡ is_some o
  by None = refl
  by (Some r) = refl

-- so there is room for the bound of a row that can be set
pub room_for : (rows bounds : List Row) (row : Row) (room : ℕ) → IsBounded rows bounds → (is_some (row_at rows row.address) || nat_lt 0 room) ≡ true → row_at bounds (block_number row.address) ≡ None → 0 < room
room_for rows bounds row room old spare none = by (is_some (row_at rows row.address)) (held_there rows bounds row old) spare where
  by : (b : Bool) → (b ≡ true → IsSome (row_at bounds (block_number row.address))) → (b || nat_lt 0 room) ≡ true → 0 < room
  by true there spare = let h = there refl in cc
  by false there spare = grind (arith, nat_tests)

-- and there is room for as many new addresses as before, or one less
pub enough_after : (rows bounds : List Row) (row : Row) (room rows_room bounds_room left rows_left bounds_left : ℕ) → IsBounded rows bounds → room ≤ min rows_room bounds_room → left ≡ room - (if is_some (row_at rows row.address) then 0 else 1)
    → rows_left + (if is_some (row_at rows row.address) then 0 else 1) ≡ rows_room → bounds_left + (if is_some (row_at bounds (block_number row.address)) then 0 else 1) ≡ bounds_room → left ≤ min rows_left bounds_left
enough_after rows bounds row room rows_room bounds_room left rows_left bounds_left old enough one two three = by (is_some (row_at rows row.address)) (is_some (row_at bounds (block_number row.address))) (held_there rows bounds row old) one two three where
  by : (b t : Bool) → (b ≡ true → t ≡ true) → left ≡ room - (if b then 0 else 1) → rows_left + (if b then 0 else 1) ≡ rows_room → bounds_left + (if t then 0 else 1) ≡ bounds_room → left ≤ min rows_left bounds_left
  by true true there one two three = omega arith
  by true false there one two three = let h = there refl in cc
  by false true there one two three = omega arith
  by false false there one two three = omega arith

-- the search of a block's rows: the least end of the rows that were passed and are not withheld
abbrev pub IsLeastTo : List ℕ → List Row → ℕ → ℕ → ℕ → Type 0
IsLeastTo withheld rows block place least = (i : ℕ) (d : Row) → i < place → i < length rows → is_withheld withheld (get_or rows i d).address ≡ false → block_number (get_or rows i d).address ≡ block → least ≤ (get_or rows i d).ends

-- no row below a block belongs to it
pub least_first : (withheld : List ℕ) (rows : List Row) (block place least : ℕ) → IsPlace rows (block * 64) place → IsLeastTo withheld rows block place least
least_first withheld rows block place least p i d before within out e = let h = p.below i d before in absurd (omega (arith, h, e))

-- one more row
pub least_step : (withheld : List ℕ) (rows : List Row) (block place least next : ℕ) (row : Row) → place < length rows → row ≡ get_or rows place row → IsLeastTo withheld rows block place least → next ≤ least → (is_withheld withheld row.address ≡ false → next ≤ row.ends)
    → IsLeastTo withheld rows block (place + 1) next
least_step withheld rows block place least next row within is h low lower i d before inside out e = ⊎_elim
    (λ l. let g = h i d l inside out e in omega arith)
    (λ l. let at : i ≡ place = omega arith in
    let this : is_withheld withheld row.address ≡ false = ap (is_withheld withheld) (sym (read_at rows place row d within is) ∙ ap (λ (n : ℕ). (get_or rows n d).address) (sym at)) ∙ out in
    subst (λ (n : ℕ). next ≤ (get_or rows n d).ends) (sym at) (subst (λ (r : Row). next ≤ r.ends) (is ∙ same) (lower this)))
    (cases_lt i place) where
      same : get_or rows place row ≡ get_or rows place d
      same = get_or_default rows place row d within

-- from the first row of a higher block on, no row belongs to the block that is searched
pub least_to : (withheld : List ℕ) (rows : List Row) (block place least : ℕ) (row : Row) → Rise rows → place < length rows → row ≡ get_or rows place row → block < block_number row.address → IsLeastTo withheld rows block place least → IsBound (open_rows withheld rows) block least
least_to withheld rows block place least row rise within is above h = open_all (λ (r : Row). block_number r.address ≡ block → least ≤ r.ends) withheld rows
    (λ i d inside out e. ⊎_elim
    (λ l. h i d l inside out e)
    (λ l. let g = apart rows rise place i d l inside in let f = read_at rows place row d within is in absurd (omega (arith, g, f, e, above)))
    (cases_lt i place))

pub least_all : (withheld : List ℕ) (rows : List Row) (block place least : ℕ) → length rows ≤ place → IsLeastTo withheld rows block place least → IsBound (open_rows withheld rows) block least
least_all withheld rows block place least all h = open_all (λ (r : Row). block_number r.address ≡ block → least ≤ r.ends) withheld rows (λ i d inside out e. h i d (omega arith) inside out e)

-- while the bounds are set: those so far are bounds of `others`, and each row that was passed has
-- one
pub record BoundedTo (rows others bounds : List Row) (place : ℕ) : Type 0 where
  pub rise : Rise bounds
  pub has : (i : ℕ) (d : Row) → i < place → i < length rows → IsSome (row_at bounds (block_number (get_or rows i d).address))
  pub least : (block : ℕ) (bound : Row) → row_at bounds block ≡ Some bound → IsBound others block bound.ends

pub bounded_first : (rows others bounds : List Row) → bounds ≡ [] → BoundedTo rows others bounds 0
bounded_first rows others bounds none = subst (λ (bs : List Row). BoundedTo rows others bs 0) (sym none) (record { rise = tt; has = λ i d before. absurd (omega arith); least = λ block bound h. cc })

pub bounded_all : (withheld : List ℕ) (rows others bounds : List Row) (place : ℕ) → open_rows withheld rows ≡ others → length rows ≤ place → BoundedTo rows others bounds place → IsBounded others bounds
bounded_all withheld rows others bounds place same all h = record {
  rise = h.rise;
  has = subst (λ (xs : List Row). All (λ (r : Row). IsSome (row_at bounds (block_number r.address))) xs) same (open_all (λ (r : Row). IsSome (row_at bounds (block_number r.address))) withheld rows (λ i d within out. h.has i d (omega arith) within));
  least = h.least;
}

-- a row in the same block as the one before has its bound
pub bounded_same : (rows others bounds : List Row) (place : ℕ) (row other : Row) → 0 < place → place < length rows → row ≡ get_or rows place row → other ≡ get_or rows (place - 1) other → block_number other.address ≡ block_number row.address → BoundedTo rows others bounds place → BoundedTo rows others bounds (place + 1)
bounded_same rows others bounds place row other from within is was same h = record { rise = h.rise; has = has; least = h.least } where
  has : (i : ℕ) (d : Row) → i < place + 1 → i < length rows → IsSome (row_at bounds (block_number (get_or rows i d).address))
  has i d before inside = ⊎_elim (λ l. h.has i d l inside) (λ l. here (omega arith)) (cases_lt i place) where
    here : i ≡ place → IsSome (row_at bounds (block_number (get_or rows i d).address))
    here e =
        let a : (get_or rows i d).address ≡ row.address = ap (λ (n : ℕ). (get_or rows n d).address) e ∙ read_at rows place row d within is in
        let b : (get_or rows (place - 1) d).address ≡ other.address = read_at rows (place - 1) other d (omega arith) was in
        let g = h.has (place - 1) d (omega arith) (omega arith) in
        subst (λ (x : ℕ). IsSome (row_at bounds x)) (ap block_number b ∙ same ∙ sym (ap block_number a)) g

-- and a row in another block has the bound that is set
pub bounded_more : (rows others bounds : List Row) (place : ℕ) (row bound : Row) → place < length rows → row ≡ get_or rows place row → bound.address ≡ block_number row.address → IsBound others bound.address bound.ends → BoundedTo rows others bounds place → BoundedTo rows others (with_row bound bounds) (place + 1)
bounded_more rows others bounds place row bound within is same this h = record { rise = rise-with_row bound bounds h.rise; has = has; least = least } where
  has : (i : ℕ) (d : Row) → i < place + 1 → i < length rows → IsSome (row_at (with_row bound bounds) (block_number (get_or rows i d).address))
  has i d before inside = ⊎_elim
      (λ l. some_more bound bounds (block_number (get_or rows i d).address) (h.has i d l inside))
      (λ l. let e : i ≡ place = omega arith in some_here bound bounds (block_number (get_or rows i d).address) (same ∙ sym (ap block_number (ap (λ (n : ℕ). (get_or rows n d).address) e ∙ read_at rows place row d within is))))
      (cases_lt i place)

  least : (block : ℕ) (b : Row) → row_at (with_row bound bounds) block ≡ Some b → IsBound others block b.ends
  least block b e = by (read_set bound bounds block b e) where
    by : ((bound.address ≡ block) × (bound ≡ b)) ⊎ ((bound.address ≡ block → ⊥) × (row_at bounds block ≡ Some b)) → IsBound others block b.ends
    by (inl f) = subst (λ (x : Row). IsBound others block x.ends) f.1 (subst (λ (n : ℕ). IsBound others n bound.ends) f.0 this)
    by (inr n) = h.least block b n.1
