-- What is printed of a server before it serves: a number with commas between its groups of three
-- digits, and a line in parts.
use Rattle.std.proofs.Common.{◌≡◌, ℕ, suc, zero, ◌<◌, ◌≤◌, ◌/◌, ◌%◌, ◌^◌, ◌++◌, codes, decimal, List, Result, Ok, Err, OnOk, if◌then◌else◌, arith}
use Rattle.std.specs.Result.{is_ok}
use Rattle.std.proofs.lemmas.List.{append_assoc}
use Rattle.std.proofs.lemmas.Bool.Decides.{nat_tests}
use Rattle.kd_program.specs.Banner.{grouped, grouped_in, three_digits}

-- this many commas are enough for a number
abbrev Suffices : ℕ → ℕ → Type 0
Suffices zero n = n < 1000
Suffices (suc more) n = Suffices more (n / 1000)

-- then one more makes no difference
one_more : (commas n : ℕ) → Suffices commas n → grouped_in (suc commas) n ≡ grouped_in commas n
unfolding grouped_in
one_more zero n enough = grind (arith, nat_tests)
one_more (suc more) n enough = let rest = one_more more (n / 1000) enough in grind (arith, nat_tests)

-- a small number has no comma
pub one_group : (n : ℕ) → n < 1000 → grouped n ≡ decimal n
unfolding grouped grouped_in
one_group n small = grind (arith, nat_tests)

-- another is that of its thousands, a comma, and three digits
pub more_groups : (n : ℕ) → 1000 ≤ n → n < 2 ^ 64
    → grouped n ≡ grouped (n / 1000) ++ codes "," ++ three_digits (n % 1000)
unfolding grouped grouped_in
more_groups n large fits =
    let enough : Suffices 5 (n / 1000) = omega arith in
    let rest = one_more 5 (n / 1000) enough in
    grind (arith, nat_tests)

-- what is printed after the thousands is the end of the number
pub joined : (line thousands comma digits : List ℕ)
    → (line ++ thousands) ++ (comma ++ digits) ≡ line ++ (thousands ++ comma ++ digits)
joined line thousands comma digits = simp append_assoc

-- a line that is printed in six parts
pub six_parts : (old a b c d e f one two three four five : List ℕ) → one ≡ old ++ a → two ≡ one ++ b
    → three ≡ two ++ c → four ≡ three ++ d → five ≡ four ++ e
    → five ++ f ≡ old ++ (a ++ b ++ c ++ d ++ e ++ f)
six_parts old a b c d e f one two three four five p q r s t =
    rw t (rw s (rw r (rw q (rw p (simp append_assoc)))))

-- a line that is printed in four parts
pub four_parts : (old a b c d one two three : List ℕ) → one ≡ old ++ a → two ≡ one ++ b
    → three ≡ two ++ c → three ++ d ≡ old ++ (a ++ b ++ c ++ d)
four_parts old a b c d one two three p q r = rw r (rw q (rw p (simp append_assoc)))

-- what was appended, if memory did not run out
pub appended : {T E : Type 0} (result : Result T E) (old new text : List ℕ)
    → new ≡ (if is_ok result then old ++ text else old) → OnOk result (new ≡ old ++ text)
appended (Ok done) old new text is = is
appended (Err fault) old new text is = tt
