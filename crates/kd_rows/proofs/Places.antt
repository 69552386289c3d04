-- The rows by their indexes: what is read at an address, and where one belongs.
use Rattle.std.proofs.Common.{◌≡◌, ℕ, ◌+◌, ◌-◌, ◌<◌, ◌≤◌, ◌≢◌, List, [], ◌∷◌, length, get_or, zero, suc, refl, sym, ap, ◌∙◌, Some, None, IsSome, is_some, arith, slice_get, ◌⊎◌, inl, inr, ⊎_elim, subst}
use Rattle.std.specs.List.{All}
use Rattle.std.proofs.lemmas.Bool.{cases_eq, cases_lt}
use Rattle.std.proofs.lemmas.Bool.Decides.{nat_tests}
use Rattle.std.proofs.lemmas.List.{get_or_default}
use Rattle.std.proofs.lemmas.Option.{slice_get_cases}
use Rattle.kd_rows.specs.declared.row.Row.{Row}
use Rattle.kd_rows.specs.Row.{IsInRange}
use Rattle.kd_rows.specs.Table.{IsFirstGap, IsNext, Rise, RiseFrom, row_at}
use Rattle.kd_rows.specs.Index.{IsRowPlace, IsPlace, row_in}

-- rows that ascend from n on are at n or above
pub from_on : (n : ℕ) (rows : List Row) → RiseFrom n rows → (i : ℕ) (d : Row) → i < length rows → n + i ≤ (get_or rows i d).address
from_on n [] rise i d within = absurd (omega arith)
from_on n (r ∷ rows) rise zero d within = let h = rise.0 in omega arith
from_on n (r ∷ rows) rise (suc i) d within =
    let h = from_on (r.address + 1) rows rise.1 i d (omega arith) in
    let g = rise.0 in
    omega arith

-- of two rows the later is at least as far above as its index is later
pub apart_from : (n : ℕ) (rows : List Row) → RiseFrom n rows → (i j : ℕ) (d : Row) → i ≤ j → j < length rows → (get_or rows i d).address + (j - i) ≤ (get_or rows j d).address
apart_from n [] rise i j d order within = absurd (omega arith)
apart_from n (r ∷ rows) rise zero zero d order within = omega arith
apart_from n (r ∷ rows) rise zero (suc j) d order within =
    let h = from_on (r.address + 1) rows rise.1 j d (omega arith) in
    omega arith
apart_from n (r ∷ rows) rise (suc i) zero d order within = absurd (omega arith)
apart_from n (r ∷ rows) rise (suc i) (suc j) d order within =
    let h = apart_from (r.address + 1) rows rise.1 i j d (omega arith) (omega arith) in
    omega arith

pub apart : (rows : List Row) → Rise rows → (i j : ℕ) (d : Row) → i ≤ j → j < length rows → (get_or rows i d).address + (j - i) ≤ (get_or rows j d).address
apart rows rise i j d order within = apart_from 0 rows rise i j d order within

-- what is read at an index, whatever the default is
pub same_at : (rows : List Row) (place : ℕ) (d e : Row) → place < length rows → (get_or rows place d).address ≡ (get_or rows place e).address
same_at rows place d e within = ap (λ (r : Row). r.address) (get_or_default rows place d e within)

-- and for a row that was read there
pub read_at : (rows : List Row) (place : ℕ) (row d : Row) → place < length rows → row ≡ get_or rows place row → (get_or rows place d).address ≡ row.address
read_at rows place row d within is = same_at rows place d row within ∙ sym (ap (λ (r : Row). r.address) is)

pub row_read : (rows : List Row) (place : ℕ) → place < length rows → (row : Row) → row ≡ get_or rows place row → (row_in rows place).address ≡ row.address
row_read rows place within row is = read_at rows place row (row_in [] 0) within is

-- the row at an address is where the address is, if none before has that address
pub found_at : (rows : List Row) (place a : ℕ) (d : Row) → place < length rows → ((i : ℕ) → i < place → (get_or rows i d).address < a) → (get_or rows place d).address ≡ a → row_at rows a ≡ Some (get_or rows place d)
found_at [] place a d within below here = absurd (omega arith)
found_at (r ∷ rows) zero a d within below here = grind (arith, nat_tests)
found_at (r ∷ rows) (suc place) a d within below here =
    let h = found_at rows place a d (omega arith) (λ i before. below (suc i) (omega arith)) here in
    let g : r.address < a = below 0 (omega arith) in
    grind (arith, nat_tests)

-- an address that no row has has none
pub none_at : (rows : List Row) (a : ℕ) → ((i : ℕ) (d : Row) → i < length rows → (get_or rows i d).address ≢ a) → row_at rows a ≡ None
none_at [] a others = refl
none_at (r ∷ rows) a others =
    let h = none_at rows a (λ i d within. others (suc i) d (omega arith)) in
    let g : r.address ≢ a = others 0 r (omega arith) in
    grind (arith, nat_tests)

-- the index of a row is that of its address
pub place_at : (rows : List Row) (a place : ℕ) → Rise rows → place < length rows → ((d : Row) → (get_or rows place d).address ≡ a) → IsPlace rows a place
place_at rows a place rise within here = record {
  in_range = omega arith;
  below = λ i d before. omega (arith, apart rows rise i place d (omega arith) within, here d);
  above = λ i d after inside. omega (arith, apart rows rise place i d after inside, here d);
}

-- the end of a search for an index: the row before it is below an address, and the row at it is not
pub place_from : (rows : List Row) (a place : ℕ) → Rise rows → place ≤ length rows → (0 < place → (row_in rows (place - 1)).address < a) → (place < length rows → a ≤ (row_in rows place).address) → IsPlace rows a place
place_from rows a place rise within low high = record {
  in_range = within;
  below = λ i d before. omega (arith, apart rows rise i (place - 1) d (omega arith) (omega arith), same_at rows (place - 1) d (row_in [] 0) (omega arith), low (omega arith));
  above = λ i d after inside. omega (arith, apart rows rise place i d after inside, same_at rows place d (row_in [] 0) (omega arith), high (omega arith));
}

-- an address has no row if none is at its index
pub absent_at : (rows : List Row) (a place : ℕ) → Rise rows → IsPlace rows a place → ((d : Row) → place < length rows → (get_or rows place d).address ≢ a) → row_at rows a ≡ None
absent_at rows a place rise p other = none_at rows a by where
  by : (i : ℕ) (d : Row) → i < length rows → (get_or rows i d).address ≢ a
  by i d within = ⊎_elim (λ before. omega (arith, p.below i d before)) (λ after. later i d within after (cases_eq i place)) (cases_lt i place) where
    later : (i : ℕ) (d : Row) → i < length rows → place ≤ i → (i ≡ place) ⊎ (i ≡ place → ⊥) → (get_or rows i d).address ≢ a
    later i d within after (inl e) = subst (λ (j : ℕ). (get_or rows j d).address ≢ a) (sym e) (other d (omega arith))
    later i d within after (inr n) =
        let h = apart rows rise place i d after within in
        let g = p.above place d (omega arith) (omega arith) in
        omega arith

-- a row at its index is found there
pub is_at : (rows : List Row) (a place : ℕ) → Rise rows → place < length rows → ((d : Row) → (get_or rows place d).address ≡ a) → IsRowPlace rows a place
is_at rows a place rise within here = record {
  in_range = within;
  here = here;
  found = λ d. found_at rows place a d within (λ i before. (place_at rows a place rise within here).below i d before) (here d);
  below = λ i d before. (place_at rows a place rise within here).below i d before;
}

-- from the index of `first` on, the rows before an index are at `first`, `first + 1` and so on, and
-- those from it on are above
pub record IsRunEnd (rows : List Row) (first start end : ℕ) : Type 0 where
  pub rise : Rise rows
  pub start_at : IsPlace rows first start
  pub order : start ≤ end
  pub in_range : end ≤ length rows
  pub run : (i : ℕ) (d : Row) → start ≤ i → i < end → (get_or rows i d).address ≡ first + (i - start)
  pub above : (i : ℕ) (d : Row) → end ≤ i → i < length rows → first + (i - start) < (get_or rows i d).address

-- the end of a search for it: the row before it is as far from `first` as its index, and the row at
-- it is not
pub run_from : (rows : List Row) (first start end : ℕ) → Rise rows → IsPlace rows first start → start ≤ end → end ≤ length rows → (start < end → (row_in rows (end - 1)).address - first ≡ end - 1 - start) → (end < length rows → (row_in rows end).address - first ≢ end - start) → IsRunEnd rows first start end
run_from rows first start end rise p order within here other = record {
  rise = rise;
  start_at = p;
  order = order;
  in_range = within;
  run = λ i d after before. omega (arith, here (omega arith), same_at rows (end - 1) d (row_in [] 0) (omega arith), p.above start d (omega arith) (omega arith), apart rows rise start i d after (omega arith), apart rows rise i (end - 1) d (omega arith) (omega arith));
  above = λ i d after before. let n = other (omega arith) in omega (arith, n, same_at rows end d (row_in [] 0) (omega arith), p.above start d (omega arith) (omega arith), apart rows rise start end d order (omega arith), apart rows rise end i d after before);
}

-- every address of the run has a row
run_has : (rows : List Row) (first start end : ℕ) → IsRunEnd rows first start end → (a : ℕ) → first ≤ a → a < first + (end - start) → IsSome (row_at rows a)
run_has rows first start end e a from before =
    let i : ℕ = start + (a - first) in
    let here : (d : Row) → (get_or rows i d).address ≡ a = (λ d. omega (arith, e.run i d (omega arith) (omega arith))) in
    ap is_some ((is_at rows a i e.rise (omega (arith, e.in_range)) here).found (row_in [] 0))

-- the address after the run has none
run_ends : (rows : List Row) (first start end : ℕ) → IsRunEnd rows first start end → row_at rows (first + (end - start)) ≡ None
run_ends rows first start end e = none_at rows (first + (end - start))
    (λ i d within same. ⊎_elim (λ before. omega (arith, same, e.start_at.below i d before)) (λ after. ⊎_elim (λ inside. omega (arith, same, e.run i d after inside)) (λ beyond. omega (arith, same, e.order, e.above i d beyond within)) (cases_lt i end)) (cases_lt i start))

-- the first gap is after the run, or past the last address
pub gap_after : (rows : List Row) (first start end last : ℕ) → IsRunEnd rows first start end → first ≤ last → end - start ≤ last - first → IsFirstGap rows first last (Some (first + (end - start)))
gap_after rows first start end last e order within = (omega arith, omega arith, run_ends rows first start end e, run_has rows first start end e)

pub no_gap : (rows : List Row) (first start end last : ℕ) → IsRunEnd rows first start end → last - first < end - start → IsFirstGap rows first last None
no_gap rows first start end last e past = λ a from before. run_has rows first start end e a from (omega arith)

-- rows that ascend from n on have none below
pub none_below : (n : ℕ) (rows : List Row) (a : ℕ) → RiseFrom n rows → a < n → row_at rows a ≡ None
none_below n [] a rise before = refl
none_below n (r ∷ rows) a rise before =
    let head = rise.0 in
    let tail = none_below (r.address + 1) rows a rise.1 (omega arith) in
    grind (arith, nat_tests)

-- the row at the index of an address is the next from there on
pub next_at : (rows : List Row) (a place : ℕ) → Rise rows → IsPlace rows a place → IsNext rows a (slice_get rows place)
next_at rows a place rise p = by (slice_get_cases rows place).1 where
  by : ((x : Row) × (place < length rows) × (slice_get rows place ≡ Some x) × (get_or rows place x ≡ x)) ⊎ ((length rows ≤ place) × (slice_get rows place ≡ None)) → IsNext rows a (slice_get rows place)
  by (inl h) = subst (IsNext rows a) (sym h.2) (there, above, between) where
    at : (d : Row) → (get_or rows place d).address ≡ h.0.address
    at d = same_at rows place d h.0 h.1 ∙ ap (λ (r : Row). r.address) h.3

    there : row_at rows h.0.address ≡ Some h.0
    there = (is_at rows h.0.address place rise h.1 at).found h.0 ∙ ap Some h.3

    above : a ≤ h.0.address
    above = let g = p.above place h.0 (omega arith) h.1 in let e = at h.0 in omega arith

    between : (b : ℕ) → a ≤ b → b < h.0.address → row_at rows b ≡ None
    between b from before = none_at rows b (λ i d within e. ⊎_elim (λ l. let g = p.below i d l in omega arith) (λ l. let g = apart rows rise place i d l within in let f = at d in omega arith) (cases_lt i place))
  by (inr h) = subst (IsNext rows a) (sym h.1) (λ b from. none_at rows b (λ i d within e. let g = p.below i d (omega (arith, h.0)) in omega arith))

-- rows that are each above the one before are in ascending order
pub rise_from_steps : (n : ℕ) (rows : List Row) → ((d : Row) → 0 < length rows → n ≤ (get_or rows 0 d).address) → ((i j : ℕ) (d : Row) → i + 1 ≡ j → j < length rows → (get_or rows i d).address < (get_or rows j d).address) → RiseFrom n rows
rise_from_steps n [] first steps = tt
rise_from_steps n (r ∷ rows) first steps =
    (first r (omega arith), rise_from_steps (r.address + 1) rows (λ d within. let h = steps 0 1 d (omega arith) (omega arith) in omega arith) (λ i j d next within. steps (suc i) (suc j) d (omega arith) (omega arith)))

-- what a loop over rows maintains: each one passed is in range, and above the one before
pub record Accepted (rows : List Row) (n : ℕ) : Type 0 where
  pub ranges : (k : ℕ) (d : Row) → k < n → IsInRange (get_or rows k d)
  pub steps : (i j : ℕ) (d : Row) → i + 1 ≡ j → j < n → (get_or rows i d).address < (get_or rows j d).address

pub accepted_all : (rows : List Row) (n : ℕ) → length rows ≤ n → Accepted rows n → Rise rows × All IsInRange rows
accepted_all rows n all h =
    (rise_from_steps 0 rows (λ d within. omega arith) (λ i j d next within. h.steps i j d next (omega arith)), λ k d within. h.ranges k d (omega arith))

-- if a row is not above the one before, the rows are not in ascending order
pub not_above : (rows : List Row) (i : ℕ) (d e : Row) → 0 < i → i < length rows → (get_or rows i d).address ≤ (get_or rows (i - 1) e).address → Rise rows → ⊥
not_above rows i d e from within le rise =
    let same = same_at rows (i - 1) e d (omega arith) in
    let h = apart rows rise (i - 1) i d (omega arith) within in
    omega arith
