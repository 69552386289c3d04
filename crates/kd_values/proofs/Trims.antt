-- Texts of figures, hexadecimal digits and dots have no blanks around them, and no commas.
use Rattle.std.proofs.Common.{◌≡◌, ◌∙◌, ℕ, ◌<◌, false, List, [], ◌∷◌, ◌++◌, reverse, refl, ap, arith, ne_eqb}
use Rattle.std.specs.List.{AllByRecursion, slice_split, onto_first}
use Rattle.std.proofs.lemmas.List.{reverse-append, reverse-reverse}
use Rattle.memchr.specs.Find.{is_byte}
use Rattle.kd_expr.specs.Lexical.{a_blank}
use Rattle.kd_expr.specs.Lexing.{behind_of}
use Rattle.kd_values.specs.Parts.{trimmed}

-- a byte that is neither a blank nor a comma
abbrev pub IsInner : ℕ → Type 0
IsInner b = (a_blank b ≡ false) × (is_byte 44 b ≡ false)

abbrev pub AreInner : List ℕ → Type 0
AreInner text = AllByRecursion IsInner text

-- bytes above the space but for the comma
pub is_inner : (b : ℕ) → 32 < b → (b ≡ 44 → ⊥) → IsInner b
is_inner b above other =
    let e1 = ne_eqb b 32 (λ e. absurd (omega (arith, e))) in
    let e2 = ne_eqb b 9 (λ e. absurd (omega (arith, e))) in
    let e3 = ne_eqb b 13 (λ e. absurd (omega (arith, e))) in
    let e4 = ne_eqb b 10 (λ e. absurd (omega (arith, e))) in
    (rw (e1, e2, e3, e4) refl, ne_eqb b 44 other)

pub inner_append : (xs ys : List ℕ) → AreInner xs → AreInner ys → AreInner (xs ++ ys)
inner_append [] ys p q = q
inner_append (x ∷ xs) ys p q = (p.0, inner_append xs ys p.1 q)

inner_reverse : (xs : List ℕ) → AreInner xs → AreInner (reverse xs)
inner_reverse [] p = tt
inner_reverse (x ∷ xs) p = rw (reverse-append (x ∷ []) xs) (inner_append (reverse xs) (x ∷ []) (inner_reverse xs p.1) (p.0, tt))

behind_none : (text : List ℕ) → AreInner text → behind_of a_blank text ≡ text
behind_none [] p = refl
behind_none (b ∷ text) p = rw p.0.0 refl

-- such a text is trimmed
pub inner_trimmed : (text : List ℕ) → AreInner text → trimmed text ≡ text
inner_trimmed text p =
    ap (λ t. reverse (behind_of a_blank (reverse t))) (behind_none text p)
    ∙ ap reverse (behind_none (reverse text) (inner_reverse text p))
    ∙ reverse-reverse text

-- it is one part
pub inner_split : (text : List ℕ) → AreInner text → slice_split (is_byte 44) text ≡ text ∷ []
inner_split [] p = refl
inner_split (b ∷ text) p = rw p.0.1 (ap (onto_first b) (inner_split text p.1))

-- and the first part if a comma follows it
pub inner_first : (text rest : List ℕ) → AreInner text → slice_split (is_byte 44) (text ++ 44 ∷ rest) ≡ text ∷ slice_split (is_byte 44) rest
inner_first [] rest p = refl
inner_first (b ∷ text) rest p = rw p.0.1 (ap (onto_first b) (inner_first text rest p.1))
