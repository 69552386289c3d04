-- Zones grow with the address.
use Rattle.std.proofs.Common.{◌≡◌, ℕ, zero, suc, ◌+◌, ◌<◌, ◌≤◌, Bool, true, false, List, [], ◌∷◌, length, get_or, nat_lt, refl, arith, if◌then◌else◌}
use Rattle.std.proofs.lemmas.Bool.Decides.{nat_tests}
use Rattle.kd_rows.specs.Zones.{cuts_to, zone_in}

above : (a cut : ℕ) → a < cut → nat_lt a cut ≡ true
above a cut h = grind (arith, nat_tests)

not_above : (a cut : ℕ) → cut ≤ a → nat_lt a cut ≡ false
not_above a cut h = grind (arith, nat_tests)

-- how many cuts are at an address or below it, if those before an index are and those from it on
-- are not
pub cuts_at : (cuts : List ℕ) (a n : ℕ) → n ≤ length cuts → ((i : ℕ) → i < n → get_or cuts i 0 ≤ a) → ((i : ℕ) → n ≤ i → i < length cuts → a < get_or cuts i 0) → cuts_to cuts a ≡ n
cuts_at [] a n within below over = omega arith
cuts_at (cut ∷ cuts) a zero within below over = rw (above a cut (over 0 (omega arith) (omega arith))) refl
cuts_at (cut ∷ cuts) a (suc n) within below over =
    let rest : cuts_to cuts a ≡ n = cuts_at cuts a n (omega arith) (λ i less. below (suc i) (omega arith)) (λ i le less. over (suc i) (omega arith) (omega arith)) in
    rw (not_above a cut (below 0 (omega arith))) (omega arith)

-- no fewer are at a higher address or below it
pub cuts_rise : (cuts : List ℕ) (a b : ℕ) → a ≤ b → cuts_to cuts a ≤ cuts_to cuts b
cuts_rise [] a b le = omega arith
cuts_rise (cut ∷ cuts) a b le = by (nat_lt a cut) (nat_lt b cut) refl refl (cuts_rise cuts a b le) where
  by : (t u : Bool) → nat_lt a cut ≡ t → nat_lt b cut ≡ u → cuts_to cuts a ≤ cuts_to cuts b → (if t then 0 else cuts_to cuts a + 1) ≤ (if u then 0 else cuts_to cuts b + 1)
  by true u e f h = omega arith
  by false true e f h = absurd (grind (arith, nat_tests))
  by false false e f h = omega arith

pub zones_rise : (cuts : List ℕ) (a b : ℕ) → a ≤ b → zone_in cuts a ≤ zone_in cuts b
zones_rise cuts a b le = let h : cuts_to cuts a ≤ cuts_to cuts b = cuts_rise cuts a b le in omega arith
