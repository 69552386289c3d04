-- A field of a line, once read: its text is that of one value.
use Rattle.std.proofs.Common.{◌≡◌, ℕ, ◌+◌, ◌*◌, ◌/◌, ◌%◌, ◌^◌, ◌<◌, List, [], ◌∷◌, ◌++◌, Some, refl, ap, ◌∙◌, arith, append_assoc, length}
use Rattle.std.specs.Prelude.{codes, decimal, Ok, Err, Result, IfOk, MatchOption, Option, None}
use Rattle.std.specs.Str.{IsUtf8}
use Rattle.std.proofs.lemmas.Fmt.{IsAscii-decimal}
use Rattle.std.proofs.lemmas.Str.{IsUtf8-from_ascii}
use Rattle.hex.specs.Hex.{IsBytes, decode_of, lower_digits}
use Rattle.hex.proofs.HexLemmas.{decode_of-encode_lower, decode_of-same, length-encode_with}
use Rattle.kd_text.specs.Text.{address_text, bytes_text}
use Rattle.kd_text.specs.Words.{IsCutOff}
use Rattle.kd_text.proofs.Cuts.{cut_is}
use Rattle.kd_text.proofs.Plain.{decimal_plain, dot_is_none}

-- the text of a number is UTF-8
pub decimal_is_text : (n : ℕ) (word : List ℕ) → n < 2 ^ 64 → word ≡ decimal n → IsUtf8 word
decimal_is_text n word small is = rw is (IsUtf8-from_ascii (decimal n) (IsAscii-decimal n small))

-- only no bytes are a dash
pub dash_is_none : (bytes : List ℕ) → bytes_text bytes ≡ codes "-" → bytes ≡ []
dash_is_none [] is = refl
dash_is_none (b ∷ bytes) is = absurd (omega (arith, length-encode_with lower_digits (b ∷ bytes), ap length is))

-- a word that is not a dash has the bytes in hexadecimal
pub decoded : (bytes word : List ℕ) → IsBytes bytes → word ≡ bytes_text bytes → (word ≡ codes "-" → ⊥) → decode_of word ≡ Ok bytes
decoded [] word are is other = absurd (other is)
decoded (b ∷ bytes) word are is other = ap decode_of is ∙ decode_of-encode_lower (b ∷ bytes) are

-- the four bytes of an address
address_is : (a : ℕ) → a < 2 ^ 32 → a / 2 ^ 24 * 16777216 + a / 2 ^ 16 % 256 * 65536 + a / 2 ^ 8 % 256 * 256 + a % 256 ≡ a
address_is a small = omega (arith, small)

-- an address split at its dots has its four bytes
pub bytes_of_address : {word first r1 second r2 third last : List ℕ} → IsCutOff 46 word first r1 → IsCutOff 46 r1 second r2 → IsCutOff 46 r2 third last → (a : ℕ) → a < 2 ^ 32 → word ≡ address_text a
    → (first ≡ decimal (a / 2 ^ 24)) × (second ≡ decimal (a / 2 ^ 16 % 256)) × (third ≡ decimal (a / 2 ^ 8 % 256)) × (last ≡ decimal (a % 256))
bytes_of_address k1 k2 k3 a small is =
    let d1 = decimal (a / 2 ^ 24) in
    let d2 = decimal (a / 2 ^ 16 % 256) in
    let d3 = decimal (a / 2 ^ 8 % 256) in
    let d4 = decimal (a % 256) in
    let whole : address_text a ≡ d1 ++ 46 ∷ (d2 ++ 46 ∷ (d3 ++ 46 ∷ d4)) = simp append_assoc in
    let p1 = cut_is k1 d1 (d2 ++ 46 ∷ (d3 ++ 46 ∷ d4)) (decimal_plain 46 (a / 2 ^ 24) dot_is_none (omega (arith, small))) (is ∙ whole) in
    let p2 = cut_is k2 d2 (d3 ++ 46 ∷ d4) (decimal_plain 46 (a / 2 ^ 16 % 256) dot_is_none (omega arith)) p1.1 in
    let p3 = cut_is k3 d3 d4 (decimal_plain 46 (a / 2 ^ 8 % 256) dot_is_none (omega arith)) p2.1 in
    (p1.0, p2.0, p3.0, p3.1)

-- each byte of an address is below 256
pub first_small : (a : ℕ) → a < 2 ^ 32 → a / 2 ^ 24 < 256
first_small a small = omega (arith, small)

pub others_small : (n : ℕ) → n % 256 < 256
others_small n = omega arith

pub address_of_bytes : (a b c d e : ℕ) → e < 2 ^ 32 → a ≡ e / 2 ^ 24 → b ≡ e / 2 ^ 16 % 256 → c ≡ e / 2 ^ 8 % 256 → d ≡ e % 256 → a * 16777216 + b * 65536 + c * 256 + d ≡ e
address_of_bytes a b c d e small is_a is_b is_c is_d = rw (is_a, is_b, is_c, is_d) (address_is e small)

abbrev MayDecode : List ℕ → Option (List ℕ) → Type 0
MayDecode word found = MatchOption found ((bytes : List ℕ) → decode_of word ≡ Ok bytes → ⊥) (λ bytes. decode_of word ≡ Ok bytes)

-- what can be decoded is found, unless memory ran out
pub found_as_decoded : {E : Type 0} (bytes word : List ℕ) (r : Result (Option (List ℕ)) E) → decode_of word ≡ Ok bytes → IfOk r (MayDecode word) → IfOk r (λ found. found ≡ Some bytes)
found_as_decoded bytes word (Ok None) is h = absurd (h bytes is)
found_as_decoded bytes word (Ok (Some other)) is h = ap Some (decode_of-same word other bytes h is)
found_as_decoded bytes word (Err fault) is h = tt
