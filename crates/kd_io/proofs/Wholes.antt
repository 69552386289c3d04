-- What is read of a source within a limit is all that remained of it, if it is shorter than the
-- limit.
use Rattle.std.proofs.Common.{◌≡◌, ℕ, ◌+◌, ◌≤◌, List, length, take, Option, Some, None, arith, subst, ◌∙◌, IfSome, option_map}
use Rattle.std.proofs.lemmas.List.{length-take, take_all}

-- a prefix that is shorter than asked for is the whole list
pub whole_front : (n : ℕ) (xs : List ℕ) → length (take (n + 1) xs) ≤ n → take (n + 1) xs ≡ xs
whole_front n xs short =
    let size = length-take (n + 1) xs in
    take_all (n + 1) xs (omega (arith, size, short))

-- so are bytes that are a prefix of the remaining bytes
pub is_whole : (n : ℕ) (left : Option (List ℕ)) (bytes : List ℕ) → length bytes ≤ n
    → IfSome (option_map (take (n + 1)) left) (λ xs. bytes ≡ xs) → IfSome left (λ xs. bytes ≡ xs)
is_whole n None bytes short front = tt
is_whole n (Some xs) bytes short front = front ∙ whole_front n xs (subst (λ it. length it ≤ n) front short)
