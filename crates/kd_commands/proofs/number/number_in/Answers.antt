use Rattle.std.proofs.Common.{◌≡◌, ◌∙◌, ap, sym, refl, ℕ, ◌<◌, ◌^◌, ◌&&◌, true, false, Bool, List, [], ◌∷◌, length, nat_lt, nat_le, Option, Some, None, Result, Ok, Err, arith}
use Rattle.std.specs.Result.{OkIff, result_ok}
use Rattle.std.specs.Str.{all_ascii_digits}
use Rattle.std.specs.Str.Parse.{ParsesUnsigned, digits_value}
use Rattle.std.proofs.lemmas.Bool.{lt-ltb, ltb-true}
use Rattle.std.proofs.lemmas.Str.Parse.{IsNumeralModel, numerals_by_value, parse_digits, tells_all_ascii_digits}
use Rattle.kd_commands.specs.Values.{are_digits, number_of}
use Rattle.kd_commands.proofs.number.number_in.Goals as goal

own : IsNumeralModel (λ ds. all_ascii_digits ds ≡ true) (digits_value 10)
own = numerals_by_value (λ ds. all_ascii_digits ds ≡ true) tells_all_ascii_digits

last_of : (a b c : Bool) → (a && (b && c)) ≡ true → c ≡ true
last_of true true c h = h
last_of true false c h = cc
last_of false b c h = cc

some_digits : (text : List ℕ) → are_digits text ≡ true → 0 < length text
some_digits [] h = cc
some_digits (c ∷ cs) h = omega arith

-- what a parse of digits gives is their number
by_value : {E : Type 0} (text : List ℕ) (r : Result ℕ E) → are_digits text ≡ true
    → OkIff r ((0 < length text) × (digits_value 10 text < 2 ^ 64)) (digits_value 10 text) → result_ok r ≡ number_of text
by_value text (Ok n) digits (fits, is) =
    let below : nat_lt (digits_value 10 text) (2 ^ 64) ≡ true = lt-ltb (digits_value 10 text) (2 ^ 64) fits.1 in
    rw (digits, below) (ap (λ x. Some x) is)
by_value text (Err error) digits not_that = go (nat_lt (digits_value 10 text) (2 ^ 64)) refl
  where
    go : (t : Bool) → nat_lt (digits_value 10 text) (2 ^ 64) ≡ t → None ≡ number_of text
    go true e = absurd (not_that (some_digits text digits, ltb-true (digits_value 10 text) (2 ^ 64) e))
    go false e = rw (digits, e) refl

parsed : {E : Type 0} (text : List ℕ) (r : Result ℕ E) (o : Option ℕ) → are_digits text ≡ true → ParsesUnsigned 64 10 text r → o ≡ result_ok r → o ≡ number_of text
parsed text r o digits parses is =
    let all : all_ascii_digits text ≡ true = last_of (nat_lt 0 (length text)) (nat_le (length text) 20) (all_ascii_digits text) digits in
    is ∙ by_value text r digits (parse_digits own 64 text r parses all)

pub returns-then-is_numeral : goal.returns-then-is_numeral
returns-then-is_numeral c = parsed c.args.text.now c.parse.result c.ok.result (sym c.is_numeral.ensures ∙ c.if-is_numeral.true) c.parse.ensures.value.0 c.ok.ensures.value

pub returns-else-is_numeral : goal.returns-else-is_numeral
returns-else-is_numeral c =
    let none : are_digits c.args.text.now ≡ false = sym c.is_numeral.ensures ∙ c.if-is_numeral.false in
    rw none refl
