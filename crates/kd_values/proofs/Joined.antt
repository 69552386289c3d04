-- Values of parts one after another.
use Rattle.std.proofs.Common.{◌≡◌, ◌∙◌, ◌<◌, ℕ, arith, length, List, [], ◌∷◌, ◌++◌, Option, Some, None, refl, sym, ap, append_assoc, append-nil, option_and_then, option_map}
use Rattle.kd_values.specs.Parts.{halves_at, if_two, values_in}
use Rattle.std.specs.List.{slice_split}
use Rattle.std.proofs.lemmas.List.Splits.{length-slice_split}
use Rattle.memchr.specs.Find.{is_byte}

pub behind_both : (out v : List ℕ) (o : Option (List ℕ)) → option_map (λ w. out ++ w) (option_and_then (λ w. Some (v ++ w)) o) ≡ option_map (λ w. (out ++ v) ++ w) o
behind_both out v None = refl
behind_both out v (Some w) = ap Some (sym (append_assoc out v w))

-- a part that has a value goes behind what there is
pub part_read : (value : List ℕ → Option (List ℕ)) (out v part : List ℕ) (parts : List (List ℕ)) → value part ≡ Some v → option_map (λ w. out ++ w) (values_in value (part ∷ parts)) ≡ option_map (λ w. (out ++ v) ++ w) (values_in value parts)
part_read value out v part parts is =
    ap (λ (o : Option (List ℕ)). option_map (λ w. out ++ w) (option_and_then (λ first. option_and_then (λ others. Some (first ++ others)) (values_in value parts)) o)) is
    ∙ behind_both out v (values_in value parts)

-- the last part
pub last_read : (value : List ℕ → Option (List ℕ)) (out v part : List ℕ) → value part ≡ Some v → option_map (λ w. out ++ w) (values_in value (part ∷ [])) ≡ Some (out ++ v)
last_read value out v part is = part_read value out v part [] is ∙ ap Some (append-nil (out ++ v))

-- a part that has no value
pub part_refused : (value : List ℕ → Option (List ℕ)) (out part : List ℕ) (parts : List (List ℕ)) → value part ≡ None → option_map (λ w. out ++ w) (values_in value (part ∷ parts)) ≡ None
part_refused value out part parts is =
    ap (λ (o : Option (List ℕ)). option_map (λ w. out ++ w) (option_and_then (λ first. option_and_then (λ others. Some (first ++ others)) (values_in value parts)) o)) is

-- three parts or more are not two
pub more_than_two : (front back : List ℕ) (parts : List (List ℕ)) → 0 < length parts → if_two (front ∷ back ∷ parts) ≡ None
more_than_two front back [] some = absurd (omega (arith, some))
more_than_two front back (part ∷ parts) some = refl

-- a text with a byte twice has no halves at it
pub no_halves : (byte : ℕ) (text front back rest more : List ℕ) → slice_split (is_byte byte) text ≡ front ∷ slice_split (is_byte byte) rest
    → slice_split (is_byte byte) rest ≡ back ∷ slice_split (is_byte byte) more → halves_at byte text ≡ None
no_halves byte text front back rest more first second =
    ap if_two (first ∙ ap (λ parts. front ∷ parts) second)
    ∙ more_than_two front back (slice_split (is_byte byte) more) (omega (arith, length-slice_split (is_byte byte) more))
