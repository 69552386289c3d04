-- The rests of a text, one after another.
use Rattle.std.proofs.Common.{◌≡◌, ℕ, zero, suc, ◌≤◌, Bool, true, false, ◌==◌, cond, ◌&&◌, List, [], ◌∷◌, length, map, refl, sym, ap, ◌∙◌, arith}
use Rattle.std.proofs.lemmas.Bool.Decides.{nat_tests}
use Rattle.kd_check.specs.Place.{after_commas, after_first, after_string, after_white, depth_behind, is_closing, members, rests, rests_within}

-- what follows a string is no longer than the text
pub string_within : (text : List ℕ) → length (after_string text) ≤ length text
string_within [] = omega arith
string_within (b ∷ []) = omega arith
string_within (b ∷ c ∷ bytes) =
    let one : length (after_string bytes) ≤ length bytes = string_within bytes in
    let two : length (after_string (c ∷ bytes)) ≤ length (c ∷ bytes) = string_within (c ∷ bytes) in
    by (b == 34) (b == 92) one two
  where
    by : (p q : Bool) → length (after_string bytes) ≤ length bytes → length (after_string (c ∷ bytes)) ≤ length (c ∷ bytes) → length (cond p (c ∷ bytes) (cond q (after_string bytes) (after_string (c ∷ bytes)))) ≤ length (b ∷ c ∷ bytes)
    by true q one two = omega arith
    by false true one two = omega arith
    by false false one two = omega arith

-- what follows the first string or byte of a text is shorter
pub first_within : (b : ℕ) (bytes : List ℕ) → length (after_first b bytes) ≤ length bytes
first_within b bytes = by (b == 34) (string_within bytes)
  where
    by : (p : Bool) → length (after_string bytes) ≤ length bytes → length (cond p (after_string bytes) bytes) ≤ length bytes
    by true h = h
    by false h = omega arith

-- a text has no more rests than bytes
enough : (n m : ℕ) (text : List ℕ) → length text ≤ n → length text ≤ m → rests_within n text ≡ rests_within m text
unfolding rests_within
enough zero zero text p q = refl
enough zero (suc m) [] p q = refl
enough zero (suc m) (b ∷ bytes) p q = absurd (omega arith)
enough (suc n) zero [] p q = refl
enough (suc n) zero (b ∷ bytes) p q = absurd (omega arith)
enough (suc n) (suc m) [] p q = refl
enough (suc n) (suc m) (b ∷ bytes) p q =
    let shorter : length (after_first b bytes) ≤ length bytes = first_within b bytes in
    ap (λ t. (b ∷ bytes) ∷ t) (enough n m (after_first b bytes) (omega arith) (omega arith))

-- the first rest is the text, and the others are those of what follows its first string or byte
pub rests_cut : (b : ℕ) (bytes : List ℕ) → rests (b ∷ bytes) ≡ (b ∷ bytes) ∷ rests (after_first b bytes)
unfolding rests_within
rests_cut b bytes =
    ap (λ t. (b ∷ bytes) ∷ t) (enough (length bytes) (length (after_first b bytes)) (after_first b bytes) (first_within b bytes) (omega arith))

pub rests_none : rests [] ≡ []
unfolding rests_within
rests_none = refl

-- a rest that begins with a byte, and those after it
commas_turn : (depth b : ℕ) (bytes rest : List ℕ) → rest ≡ b ∷ bytes → after_commas depth (rests rest) ≡ after_commas depth ((b ∷ bytes) ∷ rests (after_first b bytes))
commas_turn depth b bytes rest is = ap (λ t. after_commas depth (rests t)) is ∙ ap (λ t. after_commas depth t) (rests_cut b bytes)

-- the container ends here
pub commas_end : (b : ℕ) (bytes rest : List ℕ) → rest ≡ b ∷ bytes → is_closing b ≡ true → after_commas 0 (rests rest) ≡ []
commas_end b bytes rest is closing = commas_turn 0 b bytes rest is ∙ rw closing refl

-- a comma of the container
pub commas_here : (b : ℕ) (bytes rest : List ℕ) → rest ≡ b ∷ bytes → b ≡ 44 → after_commas 0 (rests rest) ≡ bytes ∷ after_commas 0 (rests bytes)
commas_here b bytes rest is comma =
    let other : rest ≡ 44 ∷ bytes = is ∙ ap (λ x. x ∷ bytes) comma in
    commas_turn 0 44 bytes rest other

-- the container goes on
pub commas_further : (depth b : ℕ) (bytes rest : List ℕ) → rest ≡ b ∷ bytes → (depth == 0 && is_closing b) ≡ false → (depth == 0 && b == 44) ≡ false → after_commas (depth_behind b depth) (rests (after_first b bytes)) ≡ after_commas depth (rests rest)
commas_further depth b bytes rest is inside other = sym (commas_turn depth b bytes rest is ∙ rw (inside, other) refl)

-- the members of a container are the first one and those after a comma
pub members_more : (text rest : List ℕ) → after_commas 0 (rests text) ≡ rest ∷ after_commas 0 (rests rest) → members text ≡ after_white text ∷ members rest
members_more text rest is = ap (λ t. map after_white (text ∷ t)) is

pub members_last : (text : List ℕ) → after_commas 0 (rests text) ≡ [] → members text ≡ after_white text ∷ []
members_last text is = ap (λ t. map after_white (text ∷ t)) is

-- a test that counts at depth 0 alone
pub not_here : (depth : ℕ) (test : Bool) → (depth ≡ 0 → test ≡ false) → (depth == 0 && test) ≡ false
not_here zero test h = h refl
not_here (suc depth) test h = grind (arith, nat_tests)
