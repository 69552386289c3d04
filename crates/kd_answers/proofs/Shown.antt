-- Lines of the entries of a list, in order.
use Rattle.std.proofs.Common.{◌≡◌, ℕ, zero, suc, ◌+◌, ◌<◌, List, [], ◌∷◌, ◌++◌, length, take, Some, None, refl, sym, ap, ◌∙◌, arith, append_assoc, true≢false, is_some}
use Rattle.std.specs.Prelude.{slice_get}
use Rattle.std.specs.List.{flat_map}
use Rattle.kd_wire.specs.Area.{Piece}

append_none : (xs : List ℕ) → xs ++ [] ≡ xs
append_none [] = refl
append_none (x ∷ xs) = ap (λ r. x ∷ r) (append_none xs)

-- five texts in sequence
pub five_put : (old a b c d e o1 o2 o3 o4 o5 : List ℕ) → o1 ≡ old ++ a → o2 ≡ o1 ++ b → o3 ≡ o2 ++ c → o4 ≡ o3 ++ d → o5 ≡ o4 ++ e → o5 ≡ old ++ (a ++ b ++ c ++ d ++ e)
five_put old a b c d e o1 o2 o3 o4 o5 e1 e2 e3 e4 e5 = rw (e5, e4, e3, e2, e1) (simp append_assoc)

module _ (line : Piece → List ℕ) where
  -- the lines with one more entry
  pub entry_more : (list : List Piece) (i : ℕ) (p : Piece) → Some p ≡ slice_get list i → flat_map line (take (i + 1) list) ≡ flat_map line (take i list) ++ line p
  entry_more [] i p at = absurd (true≢false (ap is_some at))
  entry_more (q ∷ list) zero p at =
      let same : p ≡ q = cc in append_none (line q) ∙ ap line (sym same)
  entry_more (q ∷ list) (suc i) p at =
      let next : suc i + 1 ≡ suc (i + 1) = omega arith in
      rw next (ap (λ x. line q ++ x) (entry_more list i p at) ∙ sym (append_assoc (line q) (flat_map line (take i list)) (line p)))

-- an entry is within the list
pub entry_within : (list : List Piece) (i : ℕ) (p : Piece) → Some p ≡ slice_get list i → i < length list
entry_within [] i p at = absurd (true≢false (ap is_some at))
entry_within (q ∷ list) zero p at = omega arith
entry_within (q ∷ list) (suc i) p at = let less = entry_within list i p at in omega (arith, less)

-- after the last entry there are all
pub all_taken : (list : List Piece) (i : ℕ) → None ≡ slice_get list i → take i list ≡ list
all_taken [] zero at = refl
all_taken [] (suc i) at = refl
all_taken (q ∷ list) zero at = absurd (true≢false (ap is_some (sym at)))
all_taken (q ∷ list) (suc i) at = ap (λ x. q ∷ x) (all_taken list i at)
