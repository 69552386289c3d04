-- Each printed value is read back.
use Rattle.std.proofs.Common.{◌≡◌, ◌∙◌, ℕ, zero, suc, ◌+◌, ◌-◌, ◌*◌, ◌%◌, ◌^◌, ◌≤◌, ◌<◌, true, false, List, [], ◌∷◌, ◌++◌, length, Some, append-nil, codes, decimal, nat_le, nat_lt, option_and_then, option_map, refl, sym, ap, arith, inl, inr, lt-ltb, le-ltb, eqb-true, leb-true, ltb-true}
use Rattle.std.specs.Prelude.{◌==◌}
use Rattle.std.specs.Int.{to_be_bytes, w32}
use Rattle.std.specs.Result.{result_ok}
use Rattle.std.specs.List.{AllPass, filter, flat_map, list_all}
use Rattle.std.proofs.lemmas.Bool.{and_parts, and_right, cases_lt, false≢true, true≢false, ne_eqb}
use Rattle.std.proofs.lemmas.List.Elements.{All-head, All-tail}
use Rattle.std.specs.Fmt.{digits}
use Rattle.std.proofs.lemmas.Fmt.{decimal_nonempty}
use Rattle.hex.specs.Hex.{IsBytes, decode_of, encode_lower, is_hex_digit}
use Rattle.hex.proofs.HexLemmas.{decode_of-encode_lower, decode_of-ok}
use Rattle.kd_names.specs.Values.{addresses_behind, addresses_text, dotted_text, flag_text, is_byte_within, is_grouped, message_type_text, message_type_word, number_of_bytes, sign_text, signed_text}
use Rattle.kd_names.specs.declared.kind.Kind.TheVariants.{Address, Addresses, Pairs, Flag, Byte, Short, Long, Signed, Shorts, Codes, MessageType, Text, Name, Names, Routes, Bytes}
use Rattle.kd_values.specs.Parts.{trimmed, values_between_commas}
use Rattle.kd_values.specs.Numbers.{based_number, four_bytes_spelled, one_byte_spelled, signed_spelled, two_bytes_spelled}
use Rattle.kd_values.specs.Signs.{flag_spelled, if_any, message_type_spelled, signs_read}
use Rattle.kd_values.specs.Digits.{digits_behind_0x, hexadecimal_spelled, is_no_separator}
use Rattle.kd_values.specs.Laws.{PrintedReads, is_plain_sign}
use Rattle.kd_values.specs.Spelled.{if_pairs}
use Rattle.kd_expr.specs.Lexing.{address_read}
use Rattle.kd_values.proofs.Decimals.{based_reads, below_reads, decimal_reads}
use Rattle.kd_values.proofs.Printed.{codes_read, four_bytes, four_bytes_read, number_inner, one_byte_reads, plain_read, plain_signed, shorts_read, signs_are, two_bytes_read}
use Rattle.kd_values.proofs.Domains.{name_reads_one, names_read}
use Rattle.kd_values.proofs.Dotted.{dotted_inner, dotted_reads}
use Rattle.kd_values.proofs.Lists.{addresses_read}
use Rattle.kd_values.proofs.Routes.{routes_read}
use Rattle.kd_values.proofs.Trims.{AreInner, inner_trimmed, is_inner}

-- ---- flags and message types

pub flag_reads : (value : List ℕ) → is_byte_within 0 1 value ≡ true → flag_spelled (trimmed (flag_text (number_of_bytes value))) ≡ Some value
unfolding flag_spelled number_of_bytes
flag_reads [] fits = absurd (false≢true fits)
flag_reads (zero ∷ []) fits = refl
flag_reads (suc zero ∷ []) fits = refl
flag_reads (suc (suc n) ∷ []) fits = absurd (omega (arith, leb-true (suc (suc n)) 1 (and_parts (nat_le 0 (suc (suc n))) (nat_le (suc (suc n)) 1) fits).1))
flag_reads (a ∷ b ∷ value) fits = absurd (false≢true fits)

pub message_type_reads : (value : List ℕ) → is_byte_within 1 8 value ≡ true → message_type_spelled (trimmed (message_type_text (number_of_bytes value))) ≡ Some value
unfolding message_type_spelled message_type_word number_of_bytes based_number digits
message_type_reads [] fits = absurd (false≢true fits)
message_type_reads (zero ∷ []) fits = absurd (false≢true fits)
message_type_reads (suc zero ∷ []) fits = refl
message_type_reads (suc (suc zero) ∷ []) fits = refl
message_type_reads (suc (suc (suc zero)) ∷ []) fits = refl
message_type_reads (suc (suc (suc (suc zero))) ∷ []) fits = refl
message_type_reads (suc (suc (suc (suc (suc zero)))) ∷ []) fits = refl
message_type_reads (suc (suc (suc (suc (suc (suc zero))))) ∷ []) fits = refl
message_type_reads (suc (suc (suc (suc (suc (suc (suc zero)))))) ∷ []) fits = refl
message_type_reads (suc (suc (suc (suc (suc (suc (suc (suc zero))))))) ∷ []) fits = refl
message_type_reads (suc (suc (suc (suc (suc (suc (suc (suc (suc n)))))))) ∷ []) fits =
    absurd (omega (arith, leb-true (suc (suc (suc (suc (suc (suc (suc (suc (suc n))))))))) 8 (and_parts (nat_le 1 (suc (suc (suc (suc (suc (suc (suc (suc (suc n)))))))))) (nat_le (suc (suc (suc (suc (suc (suc (suc (suc (suc n))))))))) 8) fits).1))
message_type_reads (a ∷ b ∷ value) fits = absurd (false≢true fits)

-- ---- signed numbers

pub positive_reads : (n : ℕ) (bytes : List ℕ) → n < 2 ^ 31 → to_be_bytes w32 n ≡ bytes → signed_spelled (trimmed (decimal n)) ≡ Some bytes
positive_reads n bytes small is =
    ap signed_spelled (inner_trimmed (decimal n) (number_inner n (omega (arith, small))))
    ∙ plain_signed (decimal n) (decimal_reads n (omega (arith, small))).0 (decimal_nonempty n (omega (arith, small)))
    ∙ ap (option_map (to_be_bytes w32)) (below_reads (2 ^ 31) n small (omega (arith, small)))
    ∙ ap Some is

pub negative_reads : (n : ℕ) (bytes : List ℕ) → 2 ^ 31 ≤ n → n < 2 ^ 32 → to_be_bytes w32 n ≡ bytes → signed_spelled (trimmed (codes "-" ++ decimal (2 ^ 32 - n))) ≡ Some bytes
negative_reads n bytes large small is =
    let inner : AreInner (codes "-" ++ decimal (2 ^ 32 - n)) = (is_inner 45 (omega arith) (λ e. absurd (omega (arith, e))), number_inner (2 ^ 32 - n) (omega (arith, large, small))) in
    ap signed_spelled (inner_trimmed (codes "-" ++ decimal (2 ^ 32 - n)) inner)
    ∙ ap (λ o. option_map (to_be_bytes w32) (option_map (λ m. (2 * 2 ^ 31 - m) % (2 * 2 ^ 31)) o)) (based_reads (2 ^ 31 + 1) (2 ^ 32 - n) (omega (arith, large, small)) (omega (arith, large, small)))
    ∙ ap (λ m. Some (to_be_bytes w32 m)) (omega (arith, large, small))
    ∙ ap Some is

pub signed_reads : (a b c d : ℕ) → a < 256 → b < 256 → c < 256 → d < 256 → signed_spelled (trimmed (signed_text (((a * 256 + b) * 256 + c) * 256 + d))) ≡ Some (a ∷ b ∷ c ∷ d ∷ [])
unfolding signed_text
signed_reads a b c d p q r s =
    let n = ((a * 256 + b) * 256 + c) * 256 + d in
    elim (cases_lt n (2 ^ 31)) as (λ _. signed_spelled (trimmed (signed_text n)) ≡ Some (a ∷ b ∷ c ∷ d ∷ [])) [
      | inl less ↦ rw (lt-ltb n (2 ^ 31) less) (positive_reads n (a ∷ b ∷ c ∷ d ∷ []) less (four_bytes a b c d p q r s))
      | inr more ↦ rw (le-ltb n (2 ^ 31) more) (negative_reads n (a ∷ b ∷ c ∷ d ∷ []) more (omega (arith, p, q, r, s)) (four_bytes a b c d p q r s))
    ]

-- ---- bytes in hexadecimal

-- a byte that is no digit is another one
no_digit : (c other : ℕ) → is_hex_digit other ≡ false → is_hex_digit c ≡ true → (c == other) ≡ false
no_digit c other none is = ne_eqb c other (λ e. true≢false (sym is ∙ ap is_hex_digit e ∙ none))

hex_inner : (text : List ℕ) → AllPass is_hex_digit text → AreInner text
hex_inner [] are = tt
hex_inner (c ∷ text) are =
    let here : is_hex_digit c ≡ true = All-head (λ x. is_hex_digit x ≡ true) c text are in (
      (rw (no_digit c 32 refl here, no_digit c 9 refl here, no_digit c 13 refl here, no_digit c 10 refl here) refl, no_digit c 44 refl here),
      hex_inner text (All-tail (λ x. is_hex_digit x ≡ true) c text are),
    )

hex_counts : (text : List ℕ) → AllPass is_hex_digit text → filter is_no_separator text ≡ text
hex_counts [] are = refl
hex_counts (c ∷ text) are =
    let here : is_hex_digit c ≡ true = All-head (λ x. is_hex_digit x ≡ true) c text are in
    rw (no_digit c 32 refl here, no_digit c 58 refl here) (ap (λ rest. c ∷ rest) (hex_counts text (All-tail (λ x. is_hex_digit x ≡ true) c text are)))

hex_unprefixed : (text : List ℕ) → AllPass is_hex_digit text → digits_behind_0x text ≡ text
hex_unprefixed [] are = refl
hex_unprefixed (a ∷ []) are = refl
hex_unprefixed (a ∷ b ∷ text) are =
    let rest = All-tail (λ x. is_hex_digit x ≡ true) a (b ∷ text) are in
    let here : is_hex_digit b ≡ true = All-head (λ x. is_hex_digit x ≡ true) b text rest in
    rw (no_digit b 120 refl here, no_digit b 88 refl here, and_right (a == 48) false refl) refl

pub hexadecimal_reads : (value : List ℕ) → IsBytes value → if_any value ≡ Some value → hexadecimal_spelled (trimmed (encode_lower value)) ≡ Some value
unfolding hexadecimal_spelled
hexadecimal_reads value are some =
    let text = encode_lower value in
    let decoded = decode_of-encode_lower value are in
    let all = (decode_of-ok text value decoded).1 in
    ap hexadecimal_spelled (inner_trimmed text (hex_inner text all))
    ∙ ap (λ t. option_and_then if_any (result_ok (decode_of (digits_behind_0x t)))) (hex_counts text all)
    ∙ ap (λ t. option_and_then if_any (result_ok (decode_of t))) (hex_unprefixed text all)
    ∙ ap (λ r. option_and_then if_any (result_ok r)) decoded
    ∙ some

pub any_is : (value : List ℕ) → 0 < length value → if_any value ≡ Some value
any_is [] some = absurd (omega (arith, some))
any_is (b ∷ value) some = refl

-- ---- text

pub text_reads : (value : List ℕ) → 0 < length value → list_all is_plain_sign value ≡ true → trimmed value ≡ value
    → option_and_then if_any (signs_read (trimmed (flat_map sign_text value))) ≡ Some value
text_reads value some plain bare =
    ap (λ t. option_and_then if_any (signs_read (trimmed t))) (signs_are value plain)
    ∙ ap (λ t. option_and_then if_any (signs_read t)) bare
    ∙ ap (option_and_then if_any) (plain_read value plain)
    ∙ any_is value some

-- ---- every type

one_number : (value : List ℕ) → (length value == 1) ≡ true → IsBytes value → one_byte_spelled (trimmed (decimal (number_of_bytes value))) ≡ Some value
unfolding number_of_bytes
one_number [] fits are = absurd (false≢true fits)
one_number (a ∷ []) fits are = ap one_byte_spelled (inner_trimmed (decimal a) (number_inner a (omega (arith, are 0)))) ∙ one_byte_reads a (are 0)
one_number (a ∷ b ∷ value) fits are = absurd (omega (arith, eqb-true (length (a ∷ b ∷ value)) 1 fits))

two_numbers : (value : List ℕ) → (length value == 2) ≡ true → IsBytes value → two_bytes_spelled (trimmed (decimal (number_of_bytes value))) ≡ Some value
unfolding number_of_bytes
two_numbers [] fits are = absurd (false≢true fits)
two_numbers (a ∷ []) fits are = absurd (false≢true fits)
two_numbers (a ∷ b ∷ []) fits are =
    ap two_bytes_spelled (inner_trimmed (decimal (a * 256 + b)) (number_inner (a * 256 + b) (omega (arith, are 0, are 1)))) ∙ two_bytes_read a b (are 0) (are 1)
two_numbers (a ∷ b ∷ c ∷ value) fits are = absurd (omega (arith, eqb-true (length (a ∷ b ∷ c ∷ value)) 2 fits))

-- a fact of values of four bytes
of_four : (P : List ℕ → Type 0) → ((a b c d : ℕ) → a < 256 → b < 256 → c < 256 → d < 256 → P (a ∷ b ∷ c ∷ d ∷ [])) → (value : List ℕ) → (length value == 4) ≡ true → IsBytes value → P value
of_four P f [] fits are = absurd (false≢true fits)
of_four P f (a ∷ []) fits are = absurd (false≢true fits)
of_four P f (a ∷ b ∷ []) fits are = absurd (false≢true fits)
of_four P f (a ∷ b ∷ c ∷ []) fits are = absurd (false≢true fits)
of_four P f (a ∷ b ∷ c ∷ d ∷ []) fits are = f a b c d (are 0) (are 1) (are 2) (are 3)
of_four P f (a ∷ b ∷ c ∷ d ∷ e ∷ value) fits are = absurd (omega (arith, eqb-true (length (a ∷ b ∷ c ∷ d ∷ e ∷ value)) 4 fits))

one_address : (a b c d : ℕ) → a < 256 → b < 256 → c < 256 → d < 256 → address_read (trimmed (addresses_text (a ∷ b ∷ c ∷ d ∷ []))) ≡ Some (a ∷ b ∷ c ∷ d ∷ [])
unfolding addresses_text addresses_behind
one_address a b c d p q r s =
    ap (λ t. address_read (trimmed t)) (append-nil (dotted_text a b c d))
    ∙ ap address_read (inner_trimmed (dotted_text a b c d) (dotted_inner a b c d p q r s))
    ∙ dotted_reads a b c d p q r s

four_numbers : (a b c d : ℕ) → a < 256 → b < 256 → c < 256 → d < 256 → four_bytes_spelled (trimmed (decimal (number_of_bytes (a ∷ b ∷ c ∷ d ∷ [])))) ≡ Some (a ∷ b ∷ c ∷ d ∷ [])
unfolding number_of_bytes
four_numbers a b c d p q r s =
    let n = ((a * 256 + b) * 256 + c) * 256 + d in
    ap four_bytes_spelled (inner_trimmed (decimal n) (number_inner n (omega (arith, p, q, r, s)))) ∙ four_bytes_read a b c d p q r s

four_signed : (a b c d : ℕ) → a < 256 → b < 256 → c < 256 → d < 256 → signed_spelled (trimmed (signed_text (number_of_bytes (a ∷ b ∷ c ∷ d ∷ [])))) ≡ Some (a ∷ b ∷ c ∷ d ∷ [])
unfolding number_of_bytes
four_signed a b c d p q r s = signed_reads a b c d p q r s

-- groups are whole, and there is one
grouped : (size : ℕ) (value : List ℕ) → is_grouped size value ≡ true → (0 < length value) × (length value % size ≡ 0)
grouped size value fits =
    let parts = and_parts (nat_lt 0 (length value)) (length value % size == 0) fits in
    (ltb-true 0 (length value) parts.0, eqb-true (length value % size) 0 parts.1)

pairs_read : (value : List ℕ) → is_grouped 8 value ≡ true → IsBytes value → option_and_then if_pairs (values_between_commas address_read (addresses_text value)) ≡ Some value
pairs_read value fits are =
    let whole = grouped 8 value fits in
    ap (option_and_then if_pairs) (addresses_read value whole.0 (omega (arith, whole.1)) are)
    ∙ rw (and_parts (nat_lt 0 (length value)) (length value % 8 == 0) fits).1 refl

pub printed_reads : PrintedReads
printed_reads Address value are fits bare = of_four (λ v. address_read (trimmed (addresses_text v)) ≡ Some v) one_address value fits are
printed_reads Addresses value are fits bare = let whole = grouped 4 value fits in addresses_read value whole.0 whole.1 are
printed_reads Pairs value are fits bare = pairs_read value fits are
printed_reads Flag value are fits bare = flag_reads value fits
printed_reads Byte value are fits bare = one_number value fits are
printed_reads Short value are fits bare = two_numbers value fits are
printed_reads Long value are fits bare = of_four (λ v. four_bytes_spelled (trimmed (decimal (number_of_bytes v))) ≡ Some v) four_numbers value fits are
printed_reads Signed value are fits bare = of_four (λ v. signed_spelled (trimmed (signed_text (number_of_bytes v))) ≡ Some v) four_signed value fits are
printed_reads Shorts value are fits bare = let whole = grouped 2 value fits in shorts_read value whole.0 whole.1 are
printed_reads Codes value are fits bare = codes_read value (ltb-true 0 (length value) fits) are
printed_reads MessageType value are fits bare = message_type_reads value fits
printed_reads Text value are fits bare = text_reads value (ltb-true 0 (length value) fits) bare.0 bare.1
printed_reads Name value are fits bare = name_reads_one value fits
printed_reads Names value are fits bare = names_read value fits
printed_reads Routes value are fits bare = routes_read value fits are
printed_reads Bytes value are fits bare = hexadecimal_reads value are (any_is value (ltb-true 0 (length value) fits))
