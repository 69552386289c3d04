-- Each word of the definition is cut off the beginning of bytes.
use Rattle.std.proofs.Common.{◌≡◌, ℕ, ◌≤◌, Bool, true, false, ◌==◌, List, [], ◌∷◌, ◌++◌, length, refl, append_assoc, arith, Option, Some, None, le-leb}
use Rattle.std.proofs.lemmas.Bool.Decides.{nat_tests}
use Rattle.kd_expr.specs.Address.{a_digit, Each, decimal, IsPart, IsAddress, four}
use Rattle.kd_expr.specs.Lexical.{Lexeme, StringAt, HexAt, AddressAt, NumberAt, MinusAt, NameAt, SignAt, a_blank, a_letter, is_hex_digit, a_sign, is_x, in_string, in_run, in_name, WordEnds, Word, string_word, hex_word, address_word, number_word, minus_word, name_word, sign_word, equal_word}
use Rattle.kd_expr.specs.Lexing.{digits_after_0x, address_read, token_of_run, run_cut, string_cut, minus_cut, name_cut, equal_cut, cut}
use Rattle.kd_expr.proofs.Addresses.{address_complete}
use Rattle.kd_expr.proofs.Lexed.{digit_in_run}
use Rattle.kd_expr.proofs.Spans.{front_word, behind_word, all_pass_each, each_weaker, second_fails}

-- a result is this one
abbrev Cuts : Option (Lexeme × List ℕ) → Lexeme → List ℕ → Type 0
Cuts o x rest = ◌≡◌ {A = Option (Lexeme × List ℕ)} o (Some (x, rest))

string_complete : (at : ℕ) (s rest : List ℕ) → Each in_string s → Cuts (cut at (39 ∷ ((s ++ 39 ∷ []) ++ rest))) (StringAt at s) rest
unfolding cut string_cut
string_complete at s rest h = rw (append_assoc s (39 ∷ []) rest, front_word in_string s (39 ∷ rest) h refl, behind_word in_string s (39 ∷ rest) h refl) refl

digit_not_quote : (b : ℕ) → a_digit b ≡ true → (b == 39) ≡ false
digit_not_quote b h = grind (arith, nat_tests, h)

run_complete : (at d : ℕ) (ds rest : List ℕ) (x : Lexeme) → a_digit d ≡ true → token_of_run at (d ∷ ds) ≡ Some x → Each in_run (d ∷ ds) → WordEnds in_run rest → Cuts (cut at (d ∷ (ds ++ rest))) x rest
unfolding cut run_cut
run_complete at d ds rest x digit e each ends =
    rw (digit_not_quote d digit, digit, front_word in_run ds rest each.1 ends, behind_word in_run ds rest each.1 ends, e) refl

number_token : (at d : ℕ) (ds : List ℕ) → Each a_digit (d ∷ ds) → token_of_run at (d ∷ ds) ≡ Some (NumberAt at (decimal (d ∷ ds)))
unfolding token_of_run
number_token at d ds h = rw (all_pass_each a_digit (d ∷ ds) h) refl

number_complete : (at d : ℕ) (ds rest : List ℕ) → Each a_digit (d ∷ ds) → WordEnds in_run rest → Cuts (cut at (d ∷ (ds ++ rest))) (NumberAt at (decimal (d ∷ ds))) rest
number_complete at d ds rest h ends = run_complete at d ds rest (NumberAt at (decimal (d ∷ ds))) h.0 (number_token at d ds h) (each_weaker a_digit in_run digit_in_run (d ∷ ds) h) ends

x_not_digit : (x : ℕ) → is_x x ≡ true → a_digit x ≡ false
x_not_digit x h = grind (arith, nat_tests, h)

digit_not_x : (x : ℕ) → a_digit x ≡ true → is_x x ≡ false
digit_not_x x h = grind (arith, nat_tests, h)

x_in_run : (x : ℕ) → is_x x ≡ true → in_run x ≡ true
x_in_run x h = grind (arith, nat_tests, h)

hex_in_run : (b : ℕ) → is_hex_digit b ≡ true → in_run b ≡ true
hex_in_run b h = grind (arith, nat_tests, h)

hex_token : (at x d : ℕ) (ds : List ℕ) → is_x x ≡ true → Each is_hex_digit (d ∷ ds) → token_of_run at (48 ∷ x ∷ d ∷ ds) ≡ Some (HexAt at (d ∷ ds))
unfolding token_of_run digits_after_0x
hex_token at x d ds h each = rw (x_not_digit x h, h, le-leb 1 (length (d ∷ ds)) (omega arith), all_pass_each is_hex_digit (d ∷ ds) each) refl

hex_complete : (at x d : ℕ) (ds rest : List ℕ) → is_x x ≡ true → Each is_hex_digit (d ∷ ds) → WordEnds in_run rest → Cuts (cut at (48 ∷ x ∷ d ∷ (ds ++ rest))) (HexAt at (d ∷ ds)) rest
hex_complete at x d ds rest h each ends =
    run_complete at 48 (x ∷ d ∷ ds) rest (HexAt at (d ∷ ds)) refl (hex_token at x d ds h each) (refl, (x_in_run x h, each_weaker is_hex_digit in_run hex_in_run (d ∷ ds) each)) ends

no_prefix : (s tail : List ℕ) → Each a_digit s → 1 ≤ length s → digits_after_0x (s ++ 46 ∷ tail) ≡ None
unfolding digits_after_0x
no_prefix [] tail each some = absurd (omega (arith, some))
no_prefix (z ∷ []) tail each some = rw (second_fails (z == 48) (is_x 46) refl) refl
no_prefix (z ∷ y ∷ s) tail each some = rw (second_fails (z == 48) (is_x y) (digit_not_x y each.1.0)) refl

address_token : (at : ℕ) (s tail a : List ℕ) → Each a_digit s → 1 ≤ length s → address_read (s ++ 46 ∷ tail) ≡ Some a → token_of_run at (s ++ 46 ∷ tail) ≡ Some (AddressAt at a)
unfolding token_of_run
address_token at s tail a each some is = rw (behind_word a_digit s (46 ∷ tail) each refl, no_prefix s tail each some, is) refl

each_append : (p : ℕ → Bool) (us vs : List ℕ) → Each p us → Each p vs → Each p (us ++ vs)
each_append p [] vs _ h = h
each_append p (b ∷ us) vs g h = (g.0, each_append p us vs g.1 h)

part_runs : {s : List ℕ} {a : ℕ} → IsPart s a → Each in_run s
part_runs {s} p = each_weaker a_digit in_run digit_in_run s p.digits

starts_with : (at : ℕ) (s tail a rest : List ℕ) → Each a_digit s → 1 ≤ length s → address_read (s ++ 46 ∷ tail) ≡ Some a → Each in_run (s ++ 46 ∷ tail) → WordEnds in_run rest → Cuts (cut at ((s ++ 46 ∷ tail) ++ rest)) (AddressAt at a) rest
starts_with at [] tail a rest each some is runs ends = absurd (omega (arith, some))
starts_with at (z ∷ s) tail a rest each some is runs ends = run_complete at z (s ++ 46 ∷ tail) rest (AddressAt at a) each.0 (address_token at (z ∷ s) tail a each some is) runs ends

address_runs : (at : ℕ) (text a rest : List ℕ) → IsAddress text a → WordEnds in_run rest → Cuts (cut at (text ++ rest)) (AddressAt at a) rest
address_runs at _ _ rest (four s t u v {a = a} {b = b} {c = c} {d = d} p q r w) ends =
    starts_with at s (t ++ 46 ∷ (u ++ 46 ∷ v)) (a ∷ b ∷ c ∷ d ∷ []) rest p.digits p.some
    (address_complete (s ++ 46 ∷ (t ++ 46 ∷ (u ++ 46 ∷ v))) (a ∷ b ∷ c ∷ d ∷ []) (four s t u v p q r w))
    (each_append in_run s (46 ∷ (t ++ 46 ∷ (u ++ 46 ∷ v))) (part_runs p) (refl, each_append in_run t (46 ∷ (u ++ 46 ∷ v)) (part_runs q) (refl, each_append in_run u (46 ∷ v) (part_runs r) (refl, part_runs w))))
    ends

minus_complete : (at d : ℕ) (ds rest : List ℕ) → Each a_digit (d ∷ ds) → WordEnds in_run rest → Cuts (cut at (45 ∷ ((d ∷ ds) ++ rest))) (MinusAt at (decimal (d ∷ ds))) rest
unfolding cut minus_cut
minus_complete at d ds rest h ends =
    let runs : Each in_run (d ∷ ds) = each_weaker a_digit in_run digit_in_run (d ∷ ds) h in
    rw (front_word in_run (d ∷ ds) rest runs ends, behind_word in_run (d ∷ ds) rest runs ends, le-leb 1 (length (d ∷ ds)) (omega arith), all_pass_each a_digit (d ∷ ds) h) refl

letter_not_quote : (b : ℕ) → a_letter b ≡ true → (b == 39) ≡ false
letter_not_quote b h = grind (arith, nat_tests, h)

letter_not_digit : (b : ℕ) → a_letter b ≡ true → a_digit b ≡ false
letter_not_digit b h = grind (arith, nat_tests, h)

letter_not_minus : (b : ℕ) → a_letter b ≡ true → (b == 45) ≡ false
letter_not_minus b h = grind (arith, nat_tests, h)

name_complete : (at c : ℕ) (cs rest : List ℕ) → a_letter c ≡ true → Each in_name cs → WordEnds in_name rest → Cuts (cut at (c ∷ (cs ++ rest))) (NameAt at (c ∷ cs)) rest
unfolding cut name_cut
name_complete at c cs rest h each ends =
    rw (letter_not_quote c h, letter_not_digit c h, letter_not_minus c h, h, front_word in_name cs rest each ends, behind_word in_name cs rest each ends) refl

sign_not_quote : (b : ℕ) → a_sign b ≡ true → (b == 39) ≡ false
sign_not_quote b h = grind (arith, nat_tests, h)

sign_not_digit : (b : ℕ) → a_sign b ≡ true → a_digit b ≡ false
sign_not_digit b h = grind (arith, nat_tests, h)

sign_not_minus : (b : ℕ) → a_sign b ≡ true → (b == 45) ≡ false
sign_not_minus b h = grind (arith, nat_tests, h)

sign_not_letter : (b : ℕ) → a_sign b ≡ true → a_letter b ≡ false
sign_not_letter b h = grind (arith, nat_tests, h)

sign_not_equal : (b : ℕ) → a_sign b ≡ true → (b == 61) ≡ false
sign_not_equal b h = grind (arith, nat_tests, h)

sign_complete : (at b : ℕ) (rest : List ℕ) → a_sign b ≡ true → Cuts (cut at (b ∷ rest)) (SignAt at b) rest
unfolding cut
sign_complete at b rest h =
    rw (sign_not_quote b h, sign_not_digit b h, sign_not_minus b h, sign_not_letter b h, sign_not_equal b h, h) refl

equal_complete : (at : ℕ) (rest : List ℕ) → Cuts (cut at (61 ∷ 61 ∷ rest)) (SignAt at 61) rest
unfolding cut equal_cut
equal_complete at rest = refl

pub cut_complete : {at : ℕ} {word rest : List ℕ} {x : Lexeme} → Word at word rest x → Cuts (cut at (word ++ rest)) x rest
cut_complete (string_word {at = at} {s = s} {rest = rest} h) = string_complete at s rest h
cut_complete (hex_word {at = at} {x = x} {d = d} {ds = ds} {rest = rest} h each ends) = hex_complete at x d ds rest h each ends
cut_complete (address_word {at = at} {text = text} {a = a} {rest = rest} h ends) = address_runs at text a rest h ends
cut_complete (number_word {at = at} {d = d} {ds = ds} {rest = rest} h ends) = number_complete at d ds rest h ends
cut_complete (minus_word {at = at} {d = d} {ds = ds} {rest = rest} h ends) = minus_complete at d ds rest h ends
cut_complete (name_word {at = at} {c = c} {cs = cs} {rest = rest} h each ends) = name_complete at c cs rest h each ends
cut_complete (sign_word {at = at} {b = b} {rest = rest} h) = sign_complete at b rest h
cut_complete (equal_word {at = at} {rest = rest}) = equal_complete at rest

-- the first byte of a word is there, and is not a blank
pub record Starts (word : List ℕ) : Type 0 where
  pub first : ℕ
  pub others : List ℕ
  pub is : word ≡ first ∷ others
  pub no_blank : a_blank first ≡ false

digit_no_blank : (b : ℕ) → a_digit b ≡ true → a_blank b ≡ false
digit_no_blank b h = grind (arith, nat_tests, h)

letter_no_blank : (b : ℕ) → a_letter b ≡ true → a_blank b ≡ false
letter_no_blank b h = grind (arith, nat_tests, h)

sign_no_blank : (b : ℕ) → a_sign b ≡ true → a_blank b ≡ false
sign_no_blank b h = grind (arith, nat_tests, h)

part_starts : (s tail : List ℕ) → Each a_digit s → 1 ≤ length s → Starts (s ++ tail)
part_starts [] tail each some = absurd (omega (arith, some))
part_starts (b ∷ s) tail each some = record { first = b; others = s ++ tail; is = refl; no_blank = digit_no_blank b each.0 }

address_starts : {text a : List ℕ} → IsAddress text a → Starts text
address_starts (four s t u v p q r w) = part_starts s (46 ∷ (t ++ 46 ∷ (u ++ 46 ∷ v))) p.digits p.some

pub word_starts : {at : ℕ} {word rest : List ℕ} {x : Lexeme} → Word at word rest x → Starts word
word_starts (string_word {s = s} h) = record { first = 39; others = s ++ 39 ∷ []; is = refl; no_blank = refl }
word_starts (hex_word {x = x} {d = d} {ds = ds} h each ends) = record { first = 48; others = x ∷ d ∷ ds; is = refl; no_blank = refl }
word_starts (address_word h ends) = address_starts h
word_starts (number_word {d = d} {ds = ds} h ends) = record { first = d; others = ds; is = refl; no_blank = digit_no_blank d h.0 }
word_starts (minus_word {d = d} {ds = ds} h ends) = record { first = 45; others = d ∷ ds; is = refl; no_blank = refl }
word_starts (name_word {c = c} {cs = cs} h each ends) = record { first = c; others = cs; is = refl; no_blank = letter_no_blank c h }
word_starts (sign_word {b = b} h) = record { first = b; others = []; is = refl; no_blank = sign_no_blank b h }
word_starts equal_word = record { first = 61; others = 61 ∷ []; is = refl; no_blank = refl }
