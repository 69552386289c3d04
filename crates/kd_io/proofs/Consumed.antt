-- Bytes that were read of a source, one part after another.
use Rattle.std.proofs.Common.{◌≡◌, ◌+◌, ◌≤◌, ℕ, List, [], ◌++◌, length, Option, Some, None, refl, sym, ◌∙◌, ap, arith}
use Rattle.std.proofs.lemmas.List.{append-nil, length-append}
use Rattle.std.proofs.lemmas.Option.{none-some, same_Some}
use Rattle.std.specs.Io.KnownBytes.{Consumes, IsAtEnd}

-- nothing was read
pub none_read : (a : Option (List ℕ)) → Consumes a a []
none_read None = tt
none_read (Some xs) = refl

-- what was read up to the end is all
pub all_read : (xs all : List ℕ) (a b : Option (List ℕ)) → Consumes a b xs → IsAtEnd b → a ≡ Some all → xs ≡ all
all_read xs all a b f end is = go a b f end is where
  go : (a b : Option (List ℕ)) → Consumes a b xs → IsAtEnd b → a ≡ Some all → xs ≡ all
  go None b f end is = absurd (none-some all is)
  go (Some it) None f end is = absurd f
  go (Some it) (Some rest) f end is = sym (append-nil xs) ∙ ap (λ more. xs ++ more) (sym end) ∙ sym f ∙ same_Some it all is

-- what was read and more is no longer than all
pub few_read : (xs ys all : List ℕ) (a b c : Option (List ℕ)) → Consumes a b xs → Consumes b c ys → a ≡ Some all → length xs + length ys ≤ length all
few_read xs ys all a b c f g is = go a b c f g is where
  go : (a b c : Option (List ℕ)) → Consumes a b xs → Consumes b c ys → a ≡ Some all → length xs + length ys ≤ length all
  go None b c f g is = absurd (none-some all is)
  go (Some it) None c f g is = absurd f
  go (Some it) (Some rest) None f g is = absurd g
  go (Some it) (Some rest) (Some last) f g is =
      let whole = sym (same_Some it all is) ∙ f ∙ ap (λ more. xs ++ more) g in
      let size = ap length whole ∙ length-append xs (ys ++ last) in
      let size' = length-append ys last in
      omega (arith, size, size')
