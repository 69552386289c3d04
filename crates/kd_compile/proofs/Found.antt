-- The index of a name that the search finds.
use Rattle.std.proofs.Common.{◌≡◌, ℕ, suc, ◌≤◌, ◌+◌, Bool, true, false, List, [], ◌∷◌, length, refl, sym, arith}
use Rattle.std.specs.Prelude.{nat_lt, cond, Some, None, if◌then◌else◌}
use Rattle.std.specs.List.{position, position_or_len}
use Rattle.std.specs.Option.{unwrap_or}
use Rattle.std.proofs.lemmas.Bool.{ltb-false}
use Rattle.std.proofs.lemmas.List.Recursion.{is_position_or_len}
use Rattle.kd_machine.specs.Parts.{same}
use Rattle.kd_compile.specs.Tokens.{index_of}

place_within : (name : List ℕ) (names : List (List ℕ)) → index_of name names ≤ length names
place_within name [] = omega arith
place_within name (x ∷ names) = by (same name x) (place_within name names) where
  by : (b : Bool) → index_of name names ≤ length names → (if b then 0 else suc (index_of name names)) ≤ suc (length names)
  by true le = omega arith
  by false le = omega (arith, le)

place_is : (name : List ℕ) (names : List (List ℕ)) → index_of name names ≡ position_or_len (same name) names
place_is name names = is_position_or_len (index_of name) (same name) refl (λ x xs. by (same name x) (index_of name xs)) names where
  by : (b : Bool) (n : ℕ) → (if b then 0 else suc n) ≡ cond b 0 (1 + n)
  by true n = refl
  by false n = omega arith

-- the first index of the name, or otherwise how many names there are
pub found_place : (name : List ℕ) (names : List (List ℕ)) → unwrap_or (position (same name) names) (length names) ≡ index_of name names
found_place name names = by (nat_lt (position_or_len (same name) names) (length names)) refl where
  by : (b : Bool) → nat_lt (position_or_len (same name) names) (length names) ≡ b → unwrap_or (cond b (Some (position_or_len (same name) names)) None) (length names) ≡ index_of name names
  by true e = sym (place_is name names)
  by false e = let past = ltb-false (position_or_len (same name) names) (length names) e in let le = place_within name names in let is = place_is name names in omega (arith, past, le, is)
