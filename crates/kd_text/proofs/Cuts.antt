-- Texts split at a byte.
use Rattle.std.proofs.Common.{◌≡◌, ℕ, ◌+◌, ◌-◌, ◌<◌, true, List, [], ◌∷◌, ◌++◌, Some, None, ◌⊎◌, inl, inr, refl, sym, ap, ◌∙◌, arith, length, take, drop, get_or, length-drop}
use Rattle.std.specs.Prelude.{◌==◌}
use Rattle.std.proofs.lemmas.Bool.{eqb-false, eqb-true}
use Rattle.std.proofs.lemmas.List.{drop_all, drop_more, take-append-drop, take_all}
use Rattle.memchr.specs.Find.{IsFirstByte, is_byte}
use Rattle.kd_text.specs.Words.{HasNo, IsCutOff}
use Rattle.kd_text.proofs.Plain.{plain_all, plain_front}

-- a text is its prefix, the byte and what follows, split at the first place of the byte
pub split_first : (byte : ℕ) (text : List ℕ) (at : ℕ) → at < length text → (get_or text at 0 == byte) ≡ true → text ≡ take at text ++ byte ∷ drop (at + 1) text
split_first byte text at less is =
    sym (take-append-drop at text) ∙ ap (λ r. take at text ++ r) (drop_more text at 0 less ∙ ap (λ b. b ∷ drop (at + 1) text) (eqb-true _ _ is))

pub cut_at : (byte : ℕ) (text : List ℕ) (at : ℕ) → IsFirstByte (is_byte byte) text (Some at) → IsCutOff byte text (take at text) (take (length text - (at + 1)) (drop (at + 1) text))
cut_at byte text at is =
    let all = take_all (length text - (at + 1)) (drop (at + 1) text) (omega (arith, length-drop (at + 1) text)) in
    record {
      plain = plain_front byte text at (omega (arith, is.0.high)) is.0.before;
      parts = inl (split_first byte text at is.0.high is.1 ∙ ap (λ r. take at text ++ byte ∷ r) (sym all));
    }

pub cut_none : (byte : ℕ) (text front back : List ℕ) → IsFirstByte (is_byte byte) text None → front ≡ take (length text) text → back ≡ drop (length text) text → IsCutOff byte text front back
cut_none byte text front back is first last =
    let same : front ≡ text = first ∙ take_all (length text) text (omega arith) in
    record {
      plain = rw same (plain_all byte text is);
      parts = inr (sym same, last ∙ drop_all (length text) text (omega arith));
    }

-- a text with a byte is not without it
pub no_byte : (byte : ℕ) (xs ys : List ℕ) → HasNo byte (xs ++ byte ∷ ys) → ⊥
no_byte byte [] ys plain = eqb-false byte byte plain.0 refl
no_byte byte (x ∷ xs) ys plain = no_byte byte xs ys plain.1

-- there is only one split at the first place of a byte
pub one_split : (byte : ℕ) (xs ys xs' ys' : List ℕ) → HasNo byte xs → HasNo byte xs' → xs ++ byte ∷ ys ≡ xs' ++ byte ∷ ys' → (xs ≡ xs') × (ys ≡ ys')
one_split byte [] ys [] ys' p p' e = (refl, cc)
one_split byte [] ys (x ∷ xs') ys' p p' e = absurd (let is : x ≡ byte = cc in eqb-false x byte p'.0 is)
one_split byte (x ∷ xs) ys [] ys' p p' e = absurd (let is : x ≡ byte = cc in eqb-false x byte p.0 is)
one_split byte (x ∷ xs) ys (x' ∷ xs') ys' p p' e =
    let head : x ≡ x' = cc in
    let tail : xs ++ byte ∷ ys ≡ xs' ++ byte ∷ ys' = cc in
    let rest = one_split byte xs ys xs' ys' p.1 p'.1 tail in
    (cc (head, rest.0), rest.1)

-- a text is split where the byte follows a text without it
pub cut_is : {byte : ℕ} {text front back : List ℕ} → IsCutOff byte text front back → (xs ys : List ℕ) → HasNo byte xs → text ≡ xs ++ byte ∷ ys → (front ≡ xs) × (back ≡ ys)
cut_is {byte} {text} {front} {back} cut xs ys plain whole = by cut.parts
  where
    by : (text ≡ front ++ byte ∷ back) ⊎ ((text ≡ front) × (back ≡ [])) → (front ≡ xs) × (back ≡ ys)
    by (inl e) = one_split byte front back xs ys cut.plain plain (sym e ∙ whole)
    by (inr e) = absurd (no_byte byte xs ys (let same : front ≡ xs ++ byte ∷ ys = sym e.0 ∙ whole in rw same at cut.plain))
