-- Words letter by letter, and texts sign by sign.
use Rattle.std.proofs.Common.{◌≡◌, ◌∙◌, ℕ, suc, ◌+◌, ◌-◌, ◌<◌, take, Bool, false, cond, find, List, [], ◌∷◌, ◌++◌, length, drop, get_or, Option, Some, None, option_map, refl, sym, ap, append_assoc}
use Rattle.std.specs.Char.{eq_ignore_ascii_case}
use Rattle.std.proofs.lemmas.Bool.{and_right}
use Rattle.std.proofs.lemmas.List.{drop_more, take_rest}
use Rattle.kd_values.specs.Signs.{is_word, sign_before}

-- a text of another length is another word
pub other_length : (word text : List ℕ) → (length word ≡ length text → ⊥) → is_word word text ≡ false
other_length [] [] other = absurd (other refl)
other_length [] (b ∷ text) other = refl
other_length (a ∷ word) [] other = refl
other_length (a ∷ word) (b ∷ text) other =
    and_right (eq_ignore_ascii_case a b) (is_word word text) (other_length word text (λ e. other (ap suc e)))

-- a sign goes behind those that there are
pub sign_read : (signs : List ℕ) (sign : ℕ) (o : Option (List ℕ)) → option_map (λ v. signs ++ v) (sign_before sign o) ≡ option_map (λ v. (signs ++ sign ∷ []) ++ v) o
sign_read signs sign None = refl
sign_read signs sign (Some v) = ap Some (sym (append_assoc signs (sign ∷ []) v))

-- a step over a number that fails a test
pub pass_over : (p : ℕ → Bool) (xs : List ℕ) (i : ℕ) → i < length xs → p (get_or xs i 0) ≡ false → find p (drop i xs) ≡ find p (drop (i + 1) xs)
pass_over p xs i less other =
    ap (find p) (drop_more xs i 0 less)
    ∙ ap (λ b. cond b (Some (get_or xs i 0)) (find p (drop (i + 1) xs))) other

-- a text is its first sign and the rest
pub first_and_rest : (text : List ℕ) → 0 < length text → get_or text 0 0 ∷ take (length text - 1) (drop 1 text) ≡ text
first_and_rest text some = ap (λ rest. get_or text 0 0 ∷ rest) (take_rest text 1) ∙ sym (drop_more text 0 0 some)
