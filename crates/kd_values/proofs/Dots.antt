-- A dot at the end of a name.
use Rattle.std.proofs.Common.{◌≡◌, ℕ, zero, suc, List, [], ◌∷◌, ap, arith, eq-eqb, get_or, length, ne_eqb, refl, take, ◌<◌, ◌-◌}
use Rattle.kd_values.specs.Names.{without_last_dot}

dot_cut : (n : ℕ) (text : List ℕ) → length text ≡ suc n → get_or text n 0 ≡ 46 → without_last_dot text ≡ take n text
dot_cut n [] whole is = absurd (omega (arith, whole))
dot_cut zero (b ∷ []) whole is = rw (eq-eqb b 46 is) refl
dot_cut zero (b ∷ c ∷ text) whole is = absurd (omega (arith, whole))
dot_cut (suc n) (b ∷ []) whole is = absurd (omega (arith, whole))
dot_cut (suc n) (b ∷ c ∷ text) whole is = ap (λ rest. b ∷ rest) (dot_cut n (c ∷ text) (omega (arith, whole)) is)

dot_kept : (n : ℕ) (text : List ℕ) → length text ≡ suc n → (get_or text n 0 ≡ 46 → ⊥) → without_last_dot text ≡ text
dot_kept n [] whole other = refl
dot_kept zero (b ∷ []) whole other = rw (ne_eqb b 46 other) refl
dot_kept zero (b ∷ c ∷ text) whole other = absurd (omega (arith, whole))
dot_kept (suc n) (b ∷ []) whole other = absurd (omega (arith, whole))
dot_kept (suc n) (b ∷ c ∷ text) whole other = ap (λ rest. b ∷ rest) (dot_kept n (c ∷ text) (omega (arith, whole)) other)

-- a text with a dot at its end loses it
pub dot_is_cut : (text : List ℕ) → 0 < length text → get_or text (length text - 1) 0 ≡ 46 → without_last_dot text ≡ take (length text - 1) text
dot_is_cut text some is = dot_cut (length text - 1) text (omega (arith, some)) is

-- another text stays as it is
pub dot_is_kept : (text : List ℕ) → 0 < length text → (get_or text (length text - 1) 0 ≡ 46 → ⊥) → without_last_dot text ≡ text
dot_is_kept text some other = dot_kept (length text - 1) text (omega (arith, some)) other
