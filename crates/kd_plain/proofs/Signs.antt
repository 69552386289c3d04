-- Where strings, and signs in a text, end.
use Rattle.std.proofs.Common.{◌≡◌, ℕ, ◌+◌, ◌-◌, ◌<◌, ◌≤◌, Bool, true, false, ◌==◌, nat_eq, List, [], ◌∷◌, length, take, drop, get_or, Option, Some, None, refl, sym, ap, ◌∙◌, arith, if◌then◌else◌}
use Rattle.std.specs.Prelude.{option_map}
use Rattle.std.specs.List.{starts_with}
use Rattle.std.proofs.lemmas.List.{drop_more, take_rest}
use Rattle.kd_plain.specs.Plain.{string_size, size_with}

-- a quotation mark ends a string
pub string_closed : (b : ℕ) (bytes : List ℕ) → (b == 34) ≡ true → string_size (b ∷ bytes) ≡ 1
string_closed b [] h = refl
string_closed b (c ∷ bytes) h = rw h refl

-- a string has no more bytes than the text
pub string_within : (bytes : List ℕ) → string_size bytes ≤ length bytes
string_within [] = omega arith
string_within (b ∷ []) = omega arith
string_within (b ∷ c ∷ bytes) = at (b == 34) (b == 92) (string_within bytes) (string_within (c ∷ bytes))
  where
    at : (k l : Bool) → string_size bytes ≤ length bytes → string_size (c ∷ bytes) ≤ length (c ∷ bytes) → (if k then 1 else (if l then 2 + string_size bytes else 1 + string_size (c ∷ bytes))) ≤ length (b ∷ c ∷ bytes)
    at true l p q = omega arith
    at false true p q = omega arith
    at false false p q = omega arith

size_no : (sign : List ℕ) (b : ℕ) (bytes : List ℕ) → starts_with nat_eq (b ∷ bytes) sign ≡ false → size_with sign (b ∷ bytes) ≡ option_map (λ n. n + 1) (size_with sign bytes)
size_no sign b bytes h = rw h refl

further : (o : Option ℕ) (at : ℕ) → option_map (λ n. n + at) (option_map (λ n. n + 1) o) ≡ option_map (λ n. n + (at + 1)) o
further None at = refl
further (Some n) at = ap Some (omega arith)

-- a sign that does not occur at a place
pub size_further : (sign bytes : List ℕ) (at : ℕ) → at < length bytes → starts_with nat_eq (take (length bytes - at) (drop at bytes)) sign ≡ false → option_map (λ n. n + at) (size_with sign (drop at bytes)) ≡ option_map (λ n. n + (at + 1)) (size_with sign (drop (at + 1) bytes))
size_further sign bytes at less other =
    let e = drop_more bytes at 0 less in
    ap (λ t. option_map (λ n. n + at) (size_with sign t)) e
    ∙ ap (λ o. option_map (λ n. n + at) o) (size_no sign (get_or bytes at 0) (drop (at + 1) bytes) (ap (λ t. starts_with nat_eq t sign) (sym (take_rest bytes at ∙ e)) ∙ other))
    ∙ further (size_with sign (drop (at + 1) bytes)) at
