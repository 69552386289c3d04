-- Texts without a byte: numbers, addresses and bytes have no space and no line feed, and their
-- numbers have no dot and no colon.
use Rattle.std.proofs.Common.{◌≡◌, ℕ, zero, suc, ◌+◌, ◌/◌, ◌%◌, ◌^◌, ◌<◌, ◌≤◌, Bool, true, false, List, [], ◌∷◌, ◌++◌, refl, sym, ap, ◌∙◌, arith, length, take, true≢false}
use Rattle.std.specs.Prelude.{◌==◌, codes, decimal, if◌then◌else◌}
use Rattle.std.specs.List.{AllPass}
use Rattle.std.proofs.lemmas.Bool.{ne_eqb}
use Rattle.std.proofs.lemmas.Fmt.{decimal_by_steps}
use Rattle.std.proofs.lemmas.List.{take_all}
use Rattle.std.proofs.lemmas.List.Elements.{All-head, All-tail}
use Rattle.hex.specs.Hex.{IsBytes, encode_lower, is_hex_digit}
use Rattle.hex.proofs.HexLemmas.{decode_of-encode_lower, decode_of-ok}
use Rattle.memchr.specs.Find.{Nowhere, Passes, is_byte}
use Rattle.kd_text.specs.Text.{address_text, bytes_text}
use Rattle.kd_text.specs.Words.{HasNo}

is_false : (t : Bool) → (t ≡ true → ⊥) → t ≡ false
is_false true h = absurd (h refl)
is_false false h = refl

-- if the byte is nowhere before n, the first n bytes do not contain it
pub plain_front : (byte : ℕ) (text : List ℕ) (n : ℕ) → n ≤ length text → Nowhere (Passes (is_byte byte) text) 0 n → HasNo byte (take n text)
plain_front byte text zero h none = tt
plain_front byte [] (suc n) h none = tt
plain_front byte (b ∷ text) (suc n) h none =
    (is_false _ (none 0 (omega arith) (omega arith)), plain_front byte text n (omega arith) (λ k low less. none (suc k) (omega arith) (omega arith)))

pub plain_all : (byte : ℕ) (text : List ℕ) → Nowhere (Passes (is_byte byte) text) 0 (length text) → HasNo byte text
plain_all byte text none =
    let e = take_all (length text) text (omega arith) in
    rw e at (plain_front byte text (length text) (omega arith) none)

pub plain_append : (byte : ℕ) (xs ys : List ℕ) → HasNo byte xs → HasNo byte ys → HasNo byte (xs ++ ys)
plain_append byte [] ys p q = q
plain_append byte (x ∷ xs) ys p q = (p.0, plain_append byte xs ys p.1 q)

-- the byte is not a digit
abbrev pub IsNoDigit : ℕ → Type 0
IsNoDigit byte = (d : ℕ) → d < 10 → ((48 + d) == byte) ≡ false

pub newline_is_none : IsNoDigit 10
newline_is_none d less = ne_eqb (48 + d) 10 (λ e. absurd (omega (arith, e)))

pub space_is_none : IsNoDigit 32
space_is_none d less = ne_eqb (48 + d) 32 (λ e. absurd (omega (arith, e)))

pub dot_is_none : IsNoDigit 46
dot_is_none d less = ne_eqb (48 + d) 46 (λ e. absurd (omega (arith, e)))

pub colon_is_none : IsNoDigit 58
colon_is_none d less = ne_eqb (48 + d) 58 (λ e. absurd (omega (arith, e, less)))

pub decimal_plain : (byte n : ℕ) → IsNoDigit byte → n < 2 ^ 64 → HasNo byte (decimal n)
decimal_plain byte n other small = decimal_by_steps (λ n digits. HasNo byte digits) one more n small
  where
    one : (n : ℕ) → n < 10 → HasNo byte ((48 + n) ∷ [])
    one n less = (other n less, tt)

    more : (n : ℕ) (digits : List ℕ) → 10 ≤ n → HasNo byte digits → HasNo byte (digits ++ (48 + n % 10) ∷ [])
    more n digits large plain = plain_append byte digits ((48 + n % 10) ∷ []) plain (other (n % 10) (omega arith), tt)

pub address_plain : (byte a : ℕ) → IsNoDigit byte → (46 == byte) ≡ false → a < 2 ^ 32 → HasNo byte (address_text a)
address_plain byte a other not_dot small =
    let dot : HasNo byte (codes ".") = (not_dot, tt) in
    let first = decimal_plain byte (a / 2 ^ 24) other (omega (arith, small)) in
    let second = decimal_plain byte (a / 2 ^ 16 % 256) other (omega arith) in
    let third = decimal_plain byte (a / 2 ^ 8 % 256) other (omega arith) in
    let last = decimal_plain byte (a % 256) other (omega arith) in
    plain_append byte _ _ (plain_append byte _ _ (plain_append byte _ _ (plain_append byte _ _ (plain_append byte _ _ (plain_append byte _ _ first dot) second) dot) third) dot) last

hex_plain : (byte : ℕ) → is_hex_digit byte ≡ false → (text : List ℕ) → AllPass is_hex_digit text → HasNo byte text
hex_plain byte other [] are = tt
hex_plain byte other (c ∷ text) are =
    let here : is_hex_digit c ≡ true = All-head (λ x. is_hex_digit x ≡ true) c text are in
    (ne_eqb c byte (λ e. true≢false (sym here ∙ ap is_hex_digit e ∙ other)), hex_plain byte other text (All-tail (λ x. is_hex_digit x ≡ true) c text are))

pub bytes_plain : (byte : ℕ) → is_hex_digit byte ≡ false → (45 == byte) ≡ false → (bytes : List ℕ) → IsBytes bytes → HasNo byte (bytes_text bytes)
bytes_plain byte other dash [] are = (dash, tt)
bytes_plain byte other dash (b ∷ bytes) are =
    hex_plain byte other (encode_lower (b ∷ bytes)) (decode_of-ok (encode_lower (b ∷ bytes)) (b ∷ bytes) (decode_of-encode_lower (b ∷ bytes) are)).1

-- whether a text is without a byte, computed
unfoldable pub is_plain : ℕ → List ℕ → Bool
is_plain byte [] = true
is_plain byte (b ∷ text) = if b == byte then false else is_plain byte text

pub from_is_plain : (byte : ℕ) (text : List ℕ) → is_plain byte text ≡ true → HasNo byte text
unfolding is_plain
from_is_plain byte [] h = tt
from_is_plain byte (b ∷ text) h = by (b == byte) refl (from_is_plain byte text) h
  where
    by : (t : Bool) → (b == byte) ≡ t → (is_plain byte text ≡ true → HasNo byte text) → (if t then false else is_plain byte text) ≡ true → HasNo byte (b ∷ text)
    by true is rest h = absurd (cc)
    by false is rest h = (is, rest h)
