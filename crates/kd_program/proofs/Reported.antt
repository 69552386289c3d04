-- What a report shows of a byte is plain.
use Rattle.std.proofs.Common.{◌≡◌, ◌<◌, ◌/◌, ◌%◌, ◌==◌, ◌&&◌, ◌||◌, ◌++◌, ℕ, Bool, true, false, List, [], ◌∷◌, codes, get_or, if◌then◌else◌, nat_le, refl, ap, ◌∙◌, arith}
use Rattle.std.specs.List.{list_all}
use Rattle.std.proofs.lemmas.List.Folds.{list_all-append}
use Rattle.std.proofs.lemmas.List.Sums.{AllPass-from_list_all}
use Rattle.hex.specs.Hex.{encode_lower, encode_with, lower_digits}
use Rattle.kd_names.specs.Values.{sign_text}
use Rattle.kd_program.specs.Report.{IsPlain, is_shown, plain_byte}

-- a digit of hexadecimal text
digit : (k : ℕ) → k < 16 → is_shown (get_or lower_digits k 0) ≡ true
digit k small = AllPass-from_list_all is_shown lower_digits refl k 0 small

-- two of them
digits : (a b : ℕ) → is_shown a ≡ true → is_shown b ≡ true → IsPlain (a ∷ b ∷ [])
digits a b p q = ap (λ x. x && (is_shown b && true)) p ∙ ap (λ x. x && true) q

-- a byte that is shown itself
one : (byte : ℕ) → is_shown byte ≡ true → IsPlain (byte ∷ [])
one byte is = ap (λ x. x && true) is

-- texts one after another
pub both_plain : (a b : List ℕ) → IsPlain a → IsPlain b → IsPlain (a ++ b)
both_plain a b p q = list_all-append is_shown a b ∙ ap (λ x. x && list_all is_shown b) p ∙ q

hexadecimal : (byte : ℕ) → byte < 256 → IsPlain (codes "\\x" ++ encode_lower (byte ∷ []))
unfolding encode_with
hexadecimal byte fits =
    both_plain (codes "\\x") (encode_lower (byte ∷ [])) refl
    (digits (get_or lower_digits (byte / 16) 0) (get_or lower_digits (byte % 16) 0) (digit (byte / 16) (omega arith))
    (digit (byte % 16) (omega arith)))

-- a sign, by what is asked of its byte
sign : (byte : ℕ) → byte < 256 → IsPlain (sign_text byte)
unfolding sign_text
sign byte fits = go (byte == 34) (byte == 92) (nat_le 32 byte && nat_le byte 126) refl where
  go : (a b c : Bool) → (nat_le 32 byte && nat_le byte 126) ≡ c
      → IsPlain (if a then codes "\\\"" else (if b then codes "\\\\" else (if c then byte ∷ [] else codes "\\x" ++ encode_lower (byte ∷ []))))
  go true b c is = refl
  go false true c is = refl
  go false false true is = one byte (printable (byte == 10) is) where
    printable : (a : Bool) → (nat_le 32 byte && nat_le byte 126) ≡ true → (a || (nat_le 32 byte && nat_le byte 126)) ≡ true
    printable true is = refl
    printable false is = is
  go false false false is = hexadecimal byte fits

-- what is shown of a byte
pub shown_is_plain : (byte : ℕ) → byte < 256 → IsPlain (plain_byte byte)
unfolding plain_byte
shown_is_plain byte fits = go (is_shown byte) refl where
  go : (b : Bool) → is_shown byte ≡ b → IsPlain (if b then byte ∷ [] else sign_text byte)
  go true is = one byte is
  go false is = sign byte fits
