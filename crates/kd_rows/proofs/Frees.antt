-- The lowest address that has no row and is not withheld.
use Rattle.std.proofs.Common.{◌≡◌, ℕ, ◌+◌, ◌-◌, ◌<◌, ◌≤◌, Bool, true, false, ◌||◌, List, [], length, get_or, refl, sym, ap, ◌∙◌, subst, Option, Some, None, IsSome, is_some, arith, ⊎_elim}
use Rattle.std.proofs.lemmas.Bool.{cases_lt}
use Rattle.std.proofs.lemmas.List.{get_or_default}
use Rattle.kd_rows.specs.declared.row.Row.{Row}
use Rattle.kd_rows.specs.Index.{IsPlace, row_in}
use Rattle.kd_rows.specs.Open.{AreApart, AreTaken, IsTakenEnd, address_rows}
use Rattle.kd_rows.specs.Table.{IsFirstGap, Rise, row_at}
use Rattle.kd_rows.specs.Withheld.{IsFirstFree, is_taken, is_withheld}
use Rattle.kd_rows.proofs.Fulls.{has_at}
use Rattle.kd_rows.proofs.Listed.{row_listed}
use Rattle.kd_rows.proofs.Places.{apart, is_at, none_at, place_at, read_at, same_at}
use Rattle.kd_rows.proofs.Slots.{slot_at}
use Rattle.kd_rows.proofs.Ranks.{Apart, all_taken, each_taken, rank_grows, rank_place, taken_below}

-- the address of a row is taken, and so is a withheld one
taken_row : (rows : List Row) (bare : List ℕ) (a : ℕ) → IsSome (row_at rows a) → is_taken rows bare a ≡ true
taken_row rows bare a there = ap (λ (b : Bool). b || is_withheld bare a) there

taken_withheld : (rows : List Row) (bare : List ℕ) (a : ℕ) → is_withheld bare a ≡ true → is_taken rows bare a ≡ true
taken_withheld rows bare a out = by (is_some (row_at rows a)) out where
  by : (b : Bool) → is_withheld bare a ≡ true → (b || is_withheld bare a) ≡ true
  by true h = refl
  by false h = h

-- the indexes of an address among rows and among withheld addresses
pub record Stands (rows : List Row) (bare : List ℕ) (first start skip : ℕ) : Type 0 where
  pub known : Apart rows bare
  pub start_at : IsPlace rows first start
  pub skip_at : IsPlace (address_rows bare) first skip

pub stand : (rows : List Row) (bare : List ℕ) (first start skip : ℕ) → Rise rows → Rise (address_rows bare) → AreApart rows bare → IsPlace rows first start → IsPlace (address_rows bare) first skip → Stands rows bare first start skip
stand rows bare first start skip rise listed apart start_at skip_at =
    record { known = record { rise = rise; listed = listed; apart = apart }; start_at = start_at; skip_at = skip_at }

-- a row from the index of first on is at first or above it
pub no_lower : (rows : List Row) (bare : List ℕ) (first start skip : ℕ) → Stands rows bare first start skip → (i : ℕ) → start ≤ i → i < length rows → (a : ℕ) → a ≡ (row_in rows i).address → first ≤ a
no_lower rows bare first start skip s i after within a is = omega (arith, s.start_at.above i (row_in [] 0) after within, is)

-- it is at least as far above as its index is later
pub no_nearer : (rows : List Row) (bare : List ℕ) (first start skip : ℕ) → Stands rows bare first start skip → (i : ℕ) → start ≤ i → i < length rows → (a : ℕ) → a ≡ (row_in rows i).address → i - start ≤ a - first
no_nearer rows bare first start skip s i after within a is =
    let none : Row = row_in [] 0 in
    omega (arith, no_lower rows bare first start skip s i after within a is, apart rows s.known.rise start i none after within, s.start_at.above start none (omega arith) (omega (arith, after, within)), is)

-- no fewer withheld addresses are below it
pub no_fewer : (rows : List Row) (bare : List ℕ) (first start skip : ℕ) → Stands rows bare first start skip → (i : ℕ) → start ≤ i → i < length rows → (a count : ℕ) → a ≡ (row_in rows i).address → IsPlace (address_rows bare) a count → skip ≤ count
no_fewer rows bare first start skip s i after within a count is at =
    omega (arith, (rank_grows (address_rows bare) s.known.listed first (a - first) a (omega (arith, no_lower rows bare first start skip s i after within a is))).0, rank_place (address_rows bare) first skip s.skip_at, rank_place (address_rows bare) a count at)

-- what a step of the search knows
far : (rows : List Row) (bare : List ℕ) (first start skip : ℕ) → Stands rows bare first start skip → (i : ℕ) → start ≤ i → i < length rows → (a count : ℕ) → a ≡ (row_in rows i).address → IsPlace (address_rows bare) a count
    → (first ≤ a) × ((i - start ≤ a - first) × (skip ≤ count))
far rows bare first start skip s i after within a count is at =
    (no_lower rows bare first start skip s i after within a is, (no_nearer rows bare first start skip s i after within a is, no_fewer rows bare first start skip s i after within a count is at))

counts : (rows : List Row) (bare : List ℕ) (first start skip : ℕ) → Stands rows bare first start skip → (i : ℕ) → i < length rows → (a count : ℕ) → a ≡ (row_in rows i).address → IsPlace (address_rows bare) a count
    → (taken_below rows bare first ≡ start + skip) × (taken_below rows bare a ≡ i + count)
counts rows bare first start skip s i within a count is at = (
  omega (arith, rank_place rows first start s.start_at, rank_place (address_rows bare) first skip s.skip_at),
  omega (arith, rank_place rows a i here, rank_place (address_rows bare) a count at),
) where
  here : IsPlace rows a i
  here = place_at rows a i s.known.rise within (λ d. same_at rows i d (row_in [] 0) within ∙ sym is)

-- a step of the search: if there are as many rows and withheld addresses from first to a row as
-- addresses, every address up to the row's is taken
pub step_taken : (rows : List Row) (bare : List ℕ) (first start skip : ℕ) → Stands rows bare first start skip → (i : ℕ) → start ≤ i → i < length rows → (a count : ℕ) → a ≡ (row_in rows i).address → IsPlace (address_rows bare) a count → a - first - (i - start) ≡ count - skip
    → AreTaken rows bare first (row_in rows i).address
step_taken rows bare first start skip s i after within a count is at full b from to = ⊎_elim
    (λ l. each_taken rows bare first (a - first) a s.known (omega (arith, f.0)) (omega (arith, f.0, f.1, f.1.1, c.0, c.1, full)) b from l)
    (λ l. let e : b ≡ (row_in rows i).address = omega (arith, l, to, is) in taken_row rows bare b (subst (λ (n : ℕ). IsSome (row_at rows n)) (sym e) (has_at rows i (row_in rows i) s.known.rise within (slot_at rows i (row_in rows i) within))))
    (cases_lt b a) where
      f : (first ≤ a) × ((i - start ≤ a - first) × (skip ≤ count))
      f = far rows bare first start skip s i after within a count is at

      c : (taken_below rows bare first ≡ start + skip) × (taken_below rows bare a ≡ i + count)
      c = counts rows bare first start skip s i within a count is at

-- and if there are not, some address is not
pub step_open : (rows : List Row) (bare : List ℕ) (first start skip : ℕ) → Stands rows bare first start skip → (i : ℕ) → start ≤ i → i < length rows → (a count : ℕ) → a ≡ (row_in rows i).address → IsPlace (address_rows bare) a count → (a - first - (i - start) ≡ count - skip → ⊥)
    → AreTaken rows bare first (row_in rows i).address → ⊥
step_open rows bare first start skip s i after within a count is at other taken =
    other (omega (arith, f.0, f.1, f.1.1, c.0, c.1, full)) where
      f : (first ≤ a) × ((i - start ≤ a - first) × (skip ≤ count))
      f = far rows bare first start skip s i after within a count is at

      c : (taken_below rows bare first ≡ start + skip) × (taken_below rows bare a ≡ i + count)
      c = counts rows bare first start skip s i within a count is at

      full : taken_below rows bare a ≡ taken_below rows bare first + (a - first)
      full = all_taken rows bare first (a - first) a s.known (omega (arith, f.0)) (λ b from before. taken b from (omega (arith, before, is)))

-- the end of the search: what is so of the row before it is so of those before, and what is not so
-- of the row at it is so of none after
pub taken_end_from : (rows : List Row) (bare : List ℕ) (first start end : ℕ) → Rise rows → start ≤ end → end ≤ length rows → (start < end → AreTaken rows bare first (row_in rows (end - 1)).address) → (end < length rows → AreTaken rows bare first (row_in rows end).address → ⊥)
    → IsTakenEnd rows bare first start end
taken_end_from rows bare first start end rise order within here ends = record {
  from_start = order;
  in_range = within;
  taken = λ i d after before a from to. here (omega arith) a from (omega (arith, to, apart rows rise i (end - 1) d (omega arith) (omega arith), same_at rows (end - 1) d (row_in [] 0) (omega arith)));
  ends = λ i d after inside taken. ends (omega arith) (λ a from to. taken a from (omega (arith, to, apart rows rise end i d after inside, same_at rows end d (row_in [] 0) (omega arith))));
}

-- the lowest address that is not withheld after those that are taken is free
pub outside_free : (rows : List Row) (bare : List ℕ) (first from last start end : ℕ) (found : Option ℕ) → Rise rows → IsTakenEnd rows bare first start end → first ≤ from → ((a : ℕ) → first ≤ a → a < from → is_taken rows bare a ≡ true)
    → ((i : ℕ) (d : Row) → i < end → (get_or rows i d).address < from) → IsFirstGap (address_rows bare) from last found → IsFirstFree rows bare first last found
outside_free rows bare first from last start end None rise e order before below gap = λ a low high. ⊎_elim
    (λ l. before a low l)
    (λ l. taken_withheld rows bare a (sym (row_listed bare a) ∙ gap a l high))
    (cases_lt a from)
outside_free rows bare first from last start end (Some free) rise e order before below gap = (omega (arith, gap.0), gap.1, out, taken) where
  taken : (a : ℕ) → first ≤ a → a < free → is_taken rows bare a ≡ true
  taken a low less = ⊎_elim
      (λ l. before a low l)
      (λ l. taken_withheld rows bare a (sym (row_listed bare a) ∙ gap.3 a l less))
      (cases_lt a from)

  none : row_at rows free ≡ None
  none = none_at rows free (λ i d within same. ⊎_elim
      (λ l. absurd (omega (arith, gap.0, below i d l, same)))
      (λ l. e.ends i d l within
      (λ a low high. ⊎_elim
      (λ less. taken a low less)
      (λ past. let here : a ≡ (get_or rows i d).address = omega (arith, high, past, same) in taken_row rows bare a (subst (λ (n : ℕ). IsSome (row_at rows n)) (sym here) (ap is_some ((is_at rows (get_or rows i d).address i rise within (λ k. read_at rows i (get_or rows i d) k within (self i d within))).found d))))
      (cases_lt a free)))
      (cases_lt i end)) where
        self : (i : ℕ) (d : Row) → i < length rows → get_or rows i d ≡ get_or rows i (get_or rows i d)
        self i d within = get_or_default rows i d (get_or rows i d) within

  out : is_taken rows bare free ≡ false
  out = ap (λ (o : Option Row). is_some o || is_withheld bare free) none ∙ sym (row_listed bare free) ∙ ap is_some gap.2
