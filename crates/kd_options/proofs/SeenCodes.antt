-- The first sub-option of each code, found by a table of the codes that were met.
use Rattle.std.proofs.Common.{◌≡◌, ℕ, zero, suc, ◌+◌, ◌-◌, ◌<◌, ◌≤◌, Bool, true, false, List, [], ◌∷◌, length, refl, sym, ap, ◌∙◌, eqb-true, get_or, set, get_or-set_same, get_or-set_other, arith}
use Rattle.std.specs.Prelude.{◌==◌, not, filter, slice_get, if◌then◌else◌}
use Rattle.std.specs.List.{list_all}
use Rattle.std.proofs.lemmas.Bool.{eqb-false, false≢true}
use Rattle.kd_wire.specs.Area.{Piece}
use Rattle.kd_options.specs.Relay.{firsts}

-- the sub-options whose codes were not met
abbrev pub unseen : List Bool → List Piece → List Piece
unseen seen list = filter (λ p. not (get_or seen p.0 false)) list

-- nothing was met
pub unseen-none : (seen : List Bool) (list : List Piece) → ((k : ℕ) → get_or seen k false ≡ false) → unseen seen list ≡ list
unseen-none seen [] nothing = refl
unseen-none seen (p ∷ list) nothing = rw (nothing p.0) (ap (λ x. p ∷ x) (unseen-none seen list nothing))

-- a code that was met stays out
unseen-without : (seen : List Bool) (code : ℕ) (list : List Piece) → get_or seen code false ≡ true → unseen seen (filter (λ q. not (q.0 == code)) list) ≡ unseen seen list
unseen-without seen code [] met = refl
unseen-without seen code (q ∷ list) met = by (q.0 == code) refl (unseen-without seen code list met)
  where
    by : (t : Bool) → (q.0 == code) ≡ t → unseen seen (filter (λ q'. not (q'.0 == code)) list) ≡ unseen seen list → unseen seen (filter (λ q'. not (q'.0 == code)) (q ∷ list)) ≡ unseen seen (q ∷ list)
    by true t rest =
        let here : get_or seen q.0 false ≡ true = ap (λ k. get_or seen k false) (eqb-true q.0 code t) ∙ met in rw (t, here) rest
    by false t rest = rw t (ap (λ x. if not (get_or seen q.0 false) then q ∷ x else x) rest)

pub unseen-met : (seen : List Bool) (p : Piece) (list : List Piece) → get_or seen p.0 false ≡ true → unseen seen (firsts (p ∷ list)) ≡ unseen seen (firsts list)
unseen-met seen p list met = rw met (unseen-without seen p.0 (firsts list) met)

-- a code that is met at this point is left out from then on
unseen-set : (seen : List Bool) (code : ℕ) (list : List Piece) → code < length seen → unseen seen (filter (λ q. not (q.0 == code)) list) ≡ unseen (set seen code true) list
unseen-set seen code [] within = refl
unseen-set seen code (q ∷ list) within = by (q.0 == code) refl (unseen-set seen code list within)
  where
    by : (t : Bool) → (q.0 == code) ≡ t → unseen seen (filter (λ q'. not (q'.0 == code)) list) ≡ unseen (set seen code true) list → unseen seen (filter (λ q'. not (q'.0 == code)) (q ∷ list)) ≡ unseen (set seen code true) (q ∷ list)
    by true t rest =
        let here : get_or (set seen code true) q.0 false ≡ true = ap (λ k. get_or (set seen code true) k false) (eqb-true q.0 code t) ∙ get_or-set_same seen code true false within in rw (t, here) rest
    by false t rest =
        let here : get_or (set seen code true) q.0 false ≡ get_or seen q.0 false = get_or-set_other seen code q.0 true false (eqb-false q.0 code t) in
        rw (t, here) (ap (λ x. if not (get_or seen q.0 false) then q ∷ x else x) rest)

pub unseen-new : (seen : List Bool) (p : Piece) (list : List Piece) → get_or seen p.0 false ≡ false → p.0 < length seen → unseen seen (firsts (p ∷ list)) ≡ p ∷ unseen (set seen p.0 true) (firsts list)
unseen-new seen p list new within = rw new (ap (λ x. p ∷ x) (unseen-set seen p.0 (firsts list) within))

-- after the first element
pub slice_get-later : (p : Piece) (list : List Piece) (n : ℕ) → (n ≡ 0 → ⊥) → slice_get (p ∷ list) n ≡ slice_get list (n - 1)
slice_get-later p list zero ne = absurd (ne refl)
slice_get-later p list (suc n) ne = let one : suc n - 1 ≡ n = omega arith in rw one refl

-- a table in which nothing is marked
pub all_false : (xs : List Bool) → list_all not xs ≡ true → (k : ℕ) → get_or xs k false ≡ false
all_false [] each k = refl
all_false (true ∷ xs) each k = absurd (false≢true each)
all_false (false ∷ xs) each zero = refl
all_false (false ∷ xs) each (suc k) = all_false xs each k

-- how many codes were met
abbrev pub marks : List Bool → ℕ
marks [] = 0
marks (true ∷ xs) = 1 + marks xs
marks (false ∷ xs) = marks xs

pub marks-none : (xs : List Bool) → ((k : ℕ) → get_or xs k false ≡ false) → marks xs ≡ 0
marks-none [] nothing = refl
marks-none (true ∷ xs) nothing = absurd (false≢true (sym (nothing 0)))
marks-none (false ∷ xs) nothing = marks-none xs (λ k. nothing (suc k))

marks-le : (xs : List Bool) → marks xs ≤ length xs
marks-le [] = omega arith
marks-le (true ∷ xs) = let most = marks-le xs in omega (arith, most)
marks-le (false ∷ xs) = let most = marks-le xs in omega (arith, most)

-- while a code is not met, fewer were met than there are
pub marks-lt : (xs : List Bool) (k : ℕ) → get_or xs k false ≡ false → k < length xs → marks xs < length xs
marks-lt [] k unmet within = absurd (omega (arith, within))
marks-lt (true ∷ xs) zero unmet within = absurd (false≢true (sym unmet))
marks-lt (true ∷ xs) (suc k) unmet within =
    let less : marks xs < length xs = marks-lt xs k unmet (omega (arith, within)) in omega (arith, less)
marks-lt (false ∷ xs) zero unmet within = let most = marks-le xs in omega (arith, most)
marks-lt (false ∷ xs) (suc k) unmet within =
    let less : marks xs < length xs = marks-lt xs k unmet (omega (arith, within)) in omega (arith, less)

-- one more code
pub marks-set : (xs : List Bool) (k : ℕ) → get_or xs k false ≡ false → k < length xs → marks (set xs k true) ≡ marks xs + 1
marks-set [] k unmet within = absurd (omega (arith, within))
marks-set (true ∷ xs) zero unmet within = absurd (false≢true (sym unmet))
marks-set (true ∷ xs) (suc k) unmet within =
    let more : marks (set xs k true) ≡ marks xs + 1 = marks-set xs k unmet (omega (arith, within)) in omega (arith, more)
marks-set (false ∷ xs) zero unmet within = omega arith
marks-set (false ∷ xs) (suc k) unmet within =
    let more : marks (set xs k true) ≡ marks xs + 1 = marks-set xs k unmet (omega (arith, within)) in omega (arith, more)
