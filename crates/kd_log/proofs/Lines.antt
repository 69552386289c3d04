-- Lines as splits at a line feed.
use Rattle.std.proofs.Common.{◌≡◌, ℕ, ◌<◌, List, [], ◌∷◌, ◌++◌, ◌⊎◌, inl, inr, refl, sym, ap, ◌∙◌, arith, length, length-append}
use Rattle.kd_loops.specs.Lines.{lines_of}
use Rattle.kd_loops.proofs.Looking.{lines_line}
use Rattle.kd_text.specs.Words.{HasNo, IsCutOff}

lines_last : (b : ℕ) (text : List ℕ) → HasNo 10 (b ∷ text) → lines_of (b ∷ text) ≡ (b ∷ text) ∷ []
lines_last b [] plain = rw plain.0 refl
lines_last b (c ∷ text) plain = let e = lines_last c text plain.1 in rw (plain.0, e) refl

line_last : (text : List ℕ) → 0 < length text → HasNo 10 text → lines_of text ≡ text ∷ []
line_last [] some plain = absurd (omega arith)
line_last (b ∷ text) some plain = lines_last b text plain

-- a split at a line feed gives the first line and the later ones
pub cut_lines : {text front back : List ℕ} → IsCutOff 10 text front back → 0 < length text → (lines_of text ≡ front ∷ lines_of back) × (length back < length text)
cut_lines {text} {front} {back} cut some = by cut.parts
  where
    by : (text ≡ front ++ 10 ∷ back) ⊎ ((text ≡ front) × (back ≡ [])) → (lines_of text ≡ front ∷ lines_of back) × (length back < length text)
    by (inl e) = (ap lines_of e ∙ lines_line front back cut.plain, omega (arith, ap length e, length-append front (10 ∷ back)))
    by (inr e) = (ap lines_of e.0 ∙ line_last front (omega (arith, ap length e.0)) cut.plain ∙ ap (λ r. front ∷ lines_of r) (sym e.1), omega (arith, ap length e.1))
