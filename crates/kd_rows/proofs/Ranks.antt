-- How many rows are below an address, and so how many of the addresses from one to another are
-- taken.
use Rattle.std.proofs.Common.{◌≡◌, ℕ, ◌+◌, ◌<◌, ◌≤◌, Bool, true, false, ◌||◌, List, [], ◌∷◌, length, zero, suc, refl, sym, ap, ◌∙◌, subst, is_some, if◌then◌else◌, nat_lt, arith, ⊎_elim}
use Rattle.std.proofs.lemmas.Bool.{cases_eq, cases_lt}
use Rattle.std.proofs.lemmas.Bool.Decides.{nat_tests}
use Rattle.kd_rows.specs.declared.row.Row.{Row}
use Rattle.kd_rows.specs.Index.{IsPlace}
use Rattle.kd_rows.specs.Open.{AreApart, address_rows}
use Rattle.kd_rows.specs.Table.{Rise, RiseFrom, row_at}
use Rattle.kd_rows.specs.Withheld.{is_taken, is_withheld}
use Rattle.kd_rows.proofs.Listed.{row_listed}
use Rattle.kd_rows.proofs.Places.{none_below}

-- how many rows are below an address, before the first that is not
abbrev pub rank : List Row → ℕ → ℕ
rank [] a = 0
rank (row ∷ rows) a = if nat_lt row.address a then rank rows a + 1 else 0

pub rank_place : (rows : List Row) (a place : ℕ) → IsPlace rows a place → place ≡ rank rows a
rank_place [] a place p = let h = p.in_range in omega arith
rank_place (r ∷ rows) a zero p = let h : a ≤ r.address = p.above 0 r (omega arith) (omega arith) in grind (arith, nat_tests)
rank_place (r ∷ rows) a (suc place) p =
    let h : r.address < a = p.below 0 r (omega arith) in
    let in_range : suc place ≤ length (r ∷ rows) = p.in_range in
    let e = rank_place rows a place (record { in_range = omega arith; below = λ i d before. p.below (suc i) d (omega arith); above = λ i d after within. p.above (suc i) d (omega arith) (omega arith) }) in
    grind (arith, nat_tests)

-- one if a test is passed
abbrev pub one_if : Bool → ℕ
one_if b = if b then 1 else 0

at_most_one : (b : Bool) → one_if b ≤ 1
at_most_one true = omega arith
at_most_one false = omega arith

rank_none : (n : ℕ) (rows : List Row) (a : ℕ) → RiseFrom n rows → a ≤ n → rank rows a ≡ 0
rank_none n [] a rise le = refl
rank_none n (r ∷ rows) a rise le = let h = rise.0 in grind (arith, nat_tests)

-- one more address
rank_step : (n : ℕ) (rows : List Row) (a : ℕ) → RiseFrom n rows → rank rows (a + 1) ≡ rank rows a + one_if (is_some (row_at rows a))
rank_step n [] a rise = refl
rank_step n (r ∷ rows) a rise =
    let h = rank_step (r.address + 1) rows a rise.1 in
    let none = rank_none (r.address + 1) rows (a + 1) rise.1 in
    let nowhere = none_below (r.address + 1) rows a rise.1 in
    ⊎_elim
    (λ l. grind (arith, nat_tests))
    (λ l. ⊎_elim (λ e. grind (arith, nat_tests)) (λ ne. grind (arith, nat_tests)) (cases_eq r.address a))
    (cases_lt r.address a)

-- how many of the addresses from one on are rows: at most as many as there are addresses
pub rank_grows : (rows : List Row) → Rise rows → (first n m : ℕ) → m ≡ first + n → (rank rows first ≤ rank rows m) × (rank rows m ≤ rank rows first + n)
rank_grows rows rise first zero m e = let h : m ≡ first = omega arith in subst (λ (k : ℕ). (rank rows first ≤ rank rows k) × (rank rows k ≤ rank rows first + 0)) (sym h) (omega arith, omega arith)
rank_grows rows rise first (suc n) m e =
    let h = rank_grows rows rise first n (first + n) refl in
    let step = rank_step 0 rows (first + n) rise in
    let same : first + n + 1 ≡ m = omega arith in
    let one = at_most_one (is_some (row_at rows (first + n))) in
    subst (λ (k : ℕ). (rank rows first ≤ rank rows k) × (rank rows k ≤ rank rows first + suc n)) same (omega (arith, h.0, step), omega (arith, h.1, step, one))

-- rows and withheld addresses below an address
abbrev pub taken_below : List Row → List ℕ → ℕ → ℕ
taken_below rows bare a = rank rows a + rank (address_rows bare) a

-- one more address: it is taken by one of them, or not
taken_step : (rows : List Row) (bare : List ℕ) (a : ℕ) → Rise rows → Rise (address_rows bare) → AreApart rows bare → taken_below rows bare (a + 1) ≡ taken_below rows bare a + one_if (is_taken rows bare a)
taken_step rows bare a rise listed apart = by (is_some (row_at rows a)) (is_withheld bare a) (apart a) (rank_step 0 rows a rise) (rank_step 0 (address_rows bare) a listed ∙ ap (λ (b : Bool). rank (address_rows bare) a + one_if b) (row_listed bare a)) where
  by : (b t : Bool) → (t ≡ true → b ≡ false) → rank rows (a + 1) ≡ rank rows a + one_if b → rank (address_rows bare) (a + 1) ≡ rank (address_rows bare) a + one_if t → taken_below rows bare (a + 1) ≡ taken_below rows bare a + one_if (b || t)
  by true true apart h g = let e = apart refl in cc
  by true false apart h g = omega arith
  by false t apart h g = omega arith

-- what is known of rows and withheld addresses
pub record Apart (rows : List Row) (bare : List ℕ) : Type 0 where
  pub rise : Rise rows
  pub listed : Rise (address_rows bare)
  pub apart : AreApart rows bare

taken_grows : (rows : List Row) (bare : List ℕ) (first n m : ℕ) → Apart rows bare → m ≡ first + n → taken_below rows bare m ≤ taken_below rows bare first + n
taken_grows rows bare first zero m k e = subst (λ (x : ℕ). taken_below rows bare x ≤ taken_below rows bare first + 0) (sym (let h : m ≡ first = omega arith in h)) (omega arith)
taken_grows rows bare first (suc n) m k e =
    let h = taken_grows rows bare first n (first + n) k refl in
    let step = taken_step rows bare (first + n) k.rise k.listed k.apart in
    let same : first + n + 1 ≡ m = omega arith in
    let one = at_most_one (is_taken rows bare (first + n)) in
    subst (λ (x : ℕ). taken_below rows bare x ≤ taken_below rows bare first + suc n) same (omega (arith, h, step, one))

-- if as many addresses are taken as there are, each is
pub each_taken : (rows : List Row) (bare : List ℕ) (first n m : ℕ) → Apart rows bare → m ≡ first + n → taken_below rows bare m ≡ taken_below rows bare first + n → (a : ℕ) → first ≤ a → a < m → is_taken rows bare a ≡ true
each_taken rows bare first zero m k e full a from before = absurd (omega arith)
each_taken rows bare first (suc n) m k e full a from before =
    by (is_taken rows bare (first + n)) refl (taken_step rows bare (first + n) k.rise k.listed k.apart) (λ fewer before. each_taken rows bare first n (first + n) k refl fewer a from before) where
      same : first + n + 1 ≡ m
      same = omega arith

      whole : taken_below rows bare (first + n + 1) ≡ taken_below rows bare first + suc n
      whole = ap (taken_below rows bare) same ∙ full

      by : (b : Bool) → is_taken rows bare (first + n) ≡ b → taken_below rows bare (first + n + 1) ≡ taken_below rows bare (first + n) + one_if b → (taken_below rows bare (first + n) ≡ taken_below rows bare first + n → a < first + n → is_taken rows bare a ≡ true) → is_taken rows bare a ≡ true
      by true last step rest = ⊎_elim
          (λ l. rest (omega (arith, whole, step)) l)
          (λ l. let here : a ≡ first + n = omega arith in ap (is_taken rows bare) here ∙ last)
          (cases_lt a (first + n))
      by false last step rest = absurd (omega (arith, whole, step, taken_grows rows bare first n (first + n) k refl))

-- if each is taken, as many are taken as there are
pub all_taken : (rows : List Row) (bare : List ℕ) (first n m : ℕ) → Apart rows bare → m ≡ first + n → ((a : ℕ) → first ≤ a → a < m → is_taken rows bare a ≡ true) → taken_below rows bare m ≡ taken_below rows bare first + n
all_taken rows bare first zero m k e each = let h : m ≡ first = omega arith in ap (taken_below rows bare) h ∙ (omega arith)
all_taken rows bare first (suc n) m k e each =
    let h = all_taken rows bare first n (first + n) k refl (λ a from before. each a from (omega arith)) in
    let last = each (first + n) (omega arith) (omega arith) in
    let step = taken_step rows bare (first + n) k.rise k.listed k.apart ∙ ap (λ (b : Bool). taken_below rows bare (first + n) + one_if b) last in
    let same : m ≡ first + n + 1 = omega arith in
    ap (taken_below rows bare) same ∙ (omega (arith, h, step))
