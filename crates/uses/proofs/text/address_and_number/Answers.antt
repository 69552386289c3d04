use Rattle.std.proofs.Common.{rules, ◌≡◌, ◌<◌, ◌^◌, ◌∷◌, ◌++◌, List, None, Some, decimal, refl, ℕ}
use Rattle.kd_text.specs.Text.{address_text}
use Rattle.kd_text.specs.Words.{IsCutOff}
use Rattle.kd_text.proofs.Cuts.{cut_is}
use Rattle.kd_text.proofs.Plain.{address_plain, space_is_none}
use Rattle.uses.proofs.text.address_and_number.Goals as goal

-- the two words of the text
words_of : {text front back : List ℕ} (a n : ℕ) → IsCutOff 32 text front back → a < 2 ^ 32 → text ≡ address_text a ++ 32 ∷ decimal n
    → (front ≡ address_text a) × (back ≡ decimal n)
words_of a n cut small text_is = cut_is cut (address_text a) (decimal n) (address_plain 32 a space_is_none refl small) text_is

pub returns-in_err-address_of_word : goal.returns-in_err-address_of_word
returns-in_err-address_of_word c a n small number_small text_is =
    let none : c.address_of_word.result ≡ None = search rules in
    let some = c.address_of_word.ensures a small (words_of a n c.cut.ensures small text_is).0 in
    let no : ⊥ = cc (none, some) in
    absurd no

pub returns-in_err-number_of_word : goal.returns-in_err-number_of_word
returns-in_err-number_of_word c a n small number_small text_is =
    let none : c.number_of_word.result ≡ None = search rules in
    let some = c.number_of_word.ensures n number_small (words_of a n c.cut.ensures small text_is).1 in
    let no : ⊥ = cc (none, some) in
    absurd no

pub returns : goal.returns
returns c a n small number_small text_is =
    let words = words_of a n c.cut.ensures small text_is in
    let address : c.address_of_word.result ≡ Some c.in_ok-address_of_word.field-0 = search rules in
    let number : c.number_of_word.result ≡ Some c.in_ok-number_of_word.field-0 = search rules in
    let one : c.in_ok-address_of_word.field-0 ≡ a = cc (address, c.address_of_word.ensures a small words.0) in
    let two : c.in_ok-number_of_word.field-0 ≡ n = cc (number, c.number_of_word.ensures n number_small words.1) in
    cc (one, two)
