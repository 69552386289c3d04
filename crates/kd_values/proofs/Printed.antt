-- Each printed value reads back, type by type.
use Rattle.std.proofs.Common.{◌≡◌, ◌∙◌, ℕ, suc, ◌+◌, ◌*◌, ◌%◌, ◌^◌, ◌<◌, true, false, not, ◌&&◌, ◌||◌, List, [], ◌∷◌, ◌++◌, length, Some, decimal, nat_le, option_map, refl, ap, ap₂, arith, ne_eqb}
use Rattle.std.specs.Prelude.{◌==◌}
use Rattle.std.specs.Int.{to_be_bytes, w16, w32}
use Rattle.std.specs.List.{flat_map, list_all}
use Rattle.std.proofs.lemmas.Bool.{and_parts, not-true, or_parts}
use Rattle.hex.specs.Hex.{IsBytes}
use Rattle.kd_names.specs.Values.{code_behind, codes_text, shorts_behind, shorts_text, sign_text}
use Rattle.kd_values.specs.Parts.{values_between_commas}
use Rattle.kd_values.specs.Numbers.{four_bytes_spelled, number_given, one_byte_spelled, signed_spelled, two_bytes_spelled}
use Rattle.kd_values.specs.Signs.{sign_before, signs_read}
use Rattle.kd_values.specs.Laws.{is_plain_sign}
use Rattle.kd_values.proofs.Decimals.{AreFigures, below_reads, decimal_reads, figures_inner}
use Rattle.kd_values.proofs.Lists.{GoesOn, goes_on_more, goes_on_none}
use Rattle.kd_values.proofs.Trims.{AreInner}

-- ---- bytes of numbers

two_bytes : (a b : ℕ) → a < 256 → b < 256 → to_be_bytes w16 (a * 256 + b) ≡ a ∷ b ∷ []
two_bytes a b p q = ap₂ (λ x y. x ∷ y ∷ []) (omega (arith, p, q)) (omega (arith, p, q))

pub four_bytes : (a b c d : ℕ) → a < 256 → b < 256 → c < 256 → d < 256 → to_be_bytes w32 (((a * 256 + b) * 256 + c) * 256 + d) ≡ a ∷ b ∷ c ∷ d ∷ []
four_bytes a b c d p q r s =
    ap₂ (λ x y. x ∷ y) (omega (arith, p, q, r, s)) (ap₂ (λ x y. x ∷ y) (omega (arith, p, q, r, s)) (ap₂ (λ x y. x ∷ y ∷ []) (omega (arith, p, q, r, s)) (omega (arith, p, q, r, s))))

-- ---- one number

pub one_byte_reads : (n : ℕ) → n < 256 → one_byte_spelled (decimal n) ≡ Some (n ∷ [])
one_byte_reads n small = ap (option_map (λ m. m ∷ [])) (below_reads 256 n small (omega (arith, small)))

pub two_bytes_read : (a b : ℕ) → a < 256 → b < 256 → two_bytes_spelled (decimal (a * 256 + b)) ≡ Some (a ∷ b ∷ [])
two_bytes_read a b p q =
    ap (option_map (to_be_bytes w16)) (below_reads (2 ^ 16) (a * 256 + b) (omega (arith, p, q)) (omega (arith, p, q)))
    ∙ ap Some (two_bytes a b p q)

pub four_bytes_read : (a b c d : ℕ) → a < 256 → b < 256 → c < 256 → d < 256 → four_bytes_spelled (decimal (((a * 256 + b) * 256 + c) * 256 + d)) ≡ Some (a ∷ b ∷ c ∷ d ∷ [])
four_bytes_read a b c d p q r s =
    ap (option_map (to_be_bytes w32)) (below_reads (2 ^ 32) (((a * 256 + b) * 256 + c) * 256 + d) (omega (arith, p, q, r, s)) (omega (arith, p, q, r, s)))
    ∙ ap Some (four_bytes a b c d p q r s)

-- ---- lists of numbers

pub number_inner : (n : ℕ) → n < 2 ^ 64 → AreInner (decimal n)
number_inner n small = figures_inner (decimal n) (decimal_reads n small).0

codes_go_on : (bytes : List ℕ) → IsBytes bytes → GoesOn one_byte_spelled (flat_map code_behind bytes) bytes
codes_go_on [] are = goes_on_none one_byte_spelled
codes_go_on (c ∷ rest) are =
    goes_on_more one_byte_spelled (decimal c) (c ∷ []) (flat_map code_behind rest) rest
    (number_inner c (omega (arith, are 0))) (one_byte_reads c (are 0)) (codes_go_on rest (λ i. are (suc i)))

pub codes_read : (bytes : List ℕ) → 0 < length bytes → IsBytes bytes → values_between_commas one_byte_spelled (codes_text bytes) ≡ Some bytes
unfolding codes_text
codes_read [] some are = absurd (omega (arith, some))
codes_read (c ∷ rest) some are =
    codes_go_on rest (λ i. are (suc i)) (decimal c) (c ∷ []) (number_inner c (omega (arith, are 0))) (one_byte_reads c (are 0))

shorts_go_on : (bytes : List ℕ) → length bytes % 2 ≡ 0 → IsBytes bytes → GoesOn two_bytes_spelled (shorts_behind bytes) bytes
unfolding shorts_behind
shorts_go_on [] whole are = goes_on_none two_bytes_spelled
shorts_go_on (a ∷ []) whole are = absurd (omega (arith, whole))
shorts_go_on (a ∷ b ∷ rest) whole are =
    goes_on_more two_bytes_spelled (decimal (a * 256 + b)) (a ∷ b ∷ []) (shorts_behind rest) rest
    (number_inner (a * 256 + b) (omega (arith, are 0, are 1))) (two_bytes_read a b (are 0) (are 1)) (shorts_go_on rest (omega (arith, whole)) (λ i. are (suc (suc i))))

pub shorts_read : (bytes : List ℕ) → 0 < length bytes → length bytes % 2 ≡ 0 → IsBytes bytes → values_between_commas two_bytes_spelled (shorts_text bytes) ≡ Some bytes
unfolding shorts_text
shorts_read [] some whole are = absurd (omega (arith, some))
shorts_read (a ∷ []) some whole are = absurd (omega (arith, whole))
shorts_read (a ∷ b ∷ rest) some whole are =
    shorts_go_on rest (omega (arith, whole)) (λ i. are (suc (suc i))) (decimal (a * 256 + b)) (a ∷ b ∷ [])
    (number_inner (a * 256 + b) (omega (arith, are 0, are 1))) (two_bytes_read a b (are 0) (are 1))

-- ---- signed numbers

pub plain_signed : (digits : List ℕ) → AreFigures digits → 0 < length digits → signed_spelled digits ≡ option_map (to_be_bytes w32) (number_given (2 ^ 31) digits)
plain_signed [] are some = absurd (omega (arith, some))
plain_signed (c ∷ digits) are some = rw (ne_eqb c 45 (λ e. absurd (omega (arith, e, are.0.0)))) refl

-- ---- text

sign_is : (b : ℕ) → is_plain_sign b ≡ true → sign_text b ≡ b ∷ []
unfolding sign_text
sign_is b plain =
    let parts = and_parts (nat_le 32 b && nat_le b 126) (not (b == 34 || b == 44 || b == 92)) plain in
    let none = or_parts (b == 34 || b == 44) (b == 92) (not-true (b == 34 || b == 44 || b == 92) parts.1) in
    let first = or_parts (b == 34) (b == 44) none.0 in
    rw (first.0, none.1, parts.0) refl

pub signs_are : (value : List ℕ) → list_all is_plain_sign value ≡ true → flat_map sign_text value ≡ value
signs_are [] plain = refl
signs_are (b ∷ value) plain =
    let parts = and_parts (is_plain_sign b) (list_all is_plain_sign value) plain in
    ap₂ (λ x y. x ++ y) (sign_is b parts.0) (signs_are value parts.1)

-- such a sign is no comma and no backslash
no_comma : (b : ℕ) → is_plain_sign b ≡ true → ((b == 44) ≡ false) × ((b == 92) ≡ false)
no_comma b plain =
    let parts = and_parts (nat_le 32 b && nat_le b 126) (not (b == 34 || b == 44 || b == 92)) plain in
    let none = or_parts (b == 34 || b == 44) (b == 92) (not-true (b == 34 || b == 44 || b == 92) parts.1) in
    ((or_parts (b == 34) (b == 44) none.0).1, none.1)

pub plain_read : (value : List ℕ) → list_all is_plain_sign value ≡ true → signs_read value ≡ Some value
plain_read [] plain = refl
plain_read (b ∷ []) plain =
    let parts = and_parts (is_plain_sign b) true plain in
    let other = no_comma b parts.0 in
    rw other.0 refl
plain_read (b ∷ c ∷ value) plain =
    let parts = and_parts (is_plain_sign b) (list_all is_plain_sign (c ∷ value)) plain in
    let other = no_comma b parts.0 in
    rw (other.1, other.0) (ap (sign_before b) (plain_read (c ∷ value) parts.1))
