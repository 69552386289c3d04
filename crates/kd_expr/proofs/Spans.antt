-- The first bytes that pass a test, and what follows them.
use Rattle.std.proofs.Common.{◌≡◌, ℕ, ◌+◌, Bool, true, false, cond, ◌&&◌, List, [], ◌∷◌, ◌++◌, take, drop, refl, ap, if◌then◌else◌, one-add}
use Rattle.std.specs.List.{prefix_len}
use Rattle.kd_expr.specs.Address.{Each}
use Rattle.kd_expr.specs.Lexical.{WordEnds}
use Rattle.kd_expr.specs.Lexing.{front_of, behind_of, is_empty, all_pass}

pub front_is : (p : ℕ → Bool) (bytes : List ℕ) → take (prefix_len p bytes) bytes ≡ front_of p bytes
front_is p [] = refl
front_is p (b ∷ bytes) =
    let at : (k : Bool) → take (cond k (1 + prefix_len p bytes) 0) (b ∷ bytes) ≡ (if k then b ∷ front_of p bytes else [])
    = λ k. elim k as (λ k. take (cond k (1 + prefix_len p bytes) 0) (b ∷ bytes) ≡ (if k then b ∷ front_of p bytes else [])) [
      | true ↦ rw (one-add (prefix_len p bytes)) (ap (λ v. b ∷ v) (front_is p bytes))
      | false ↦ refl
    ] in
    at (p b)

pub behind_is : (p : ℕ → Bool) (bytes : List ℕ) → drop (prefix_len p bytes) bytes ≡ behind_of p bytes
behind_is p [] = refl
behind_is p (b ∷ bytes) =
    let at : (k : Bool) → drop (cond k (1 + prefix_len p bytes) 0) (b ∷ bytes) ≡ (if k then behind_of p bytes else b ∷ bytes)
    = λ k. elim k as (λ k. drop (cond k (1 + prefix_len p bytes) 0) (b ∷ bytes) ≡ (if k then behind_of p bytes else b ∷ bytes)) [
      | true ↦ rw (one-add (prefix_len p bytes)) (behind_is p bytes)
      | false ↦ refl
    ] in
    at (p b)

pub each_front : (p : ℕ → Bool) (bytes : List ℕ) → Each p (front_of p bytes)
each_front p [] = tt
each_front p (b ∷ bytes) =
    let at : (k : Bool) → p b ≡ k → Each p (if k then b ∷ front_of p bytes else [])
    = λ k. elim k as (λ k. p b ≡ k → Each p (if k then b ∷ front_of p bytes else [])) [
      | true ↦ λ e. (e, each_front p bytes)
      | false ↦ λ e. tt
    ] in
    at (p b) refl

pub ends_behind : (p : ℕ → Bool) (bytes : List ℕ) → WordEnds p (behind_of p bytes)
ends_behind p [] = tt
ends_behind p (b ∷ bytes) =
    let at : (k : Bool) → p b ≡ k → WordEnds p (if k then behind_of p bytes else b ∷ bytes)
    = λ k. elim k as (λ k. p b ≡ k → WordEnds p (if k then behind_of p bytes else b ∷ bytes)) [
      | true ↦ λ e. ends_behind p bytes
      | false ↦ λ e. e
    ] in
    at (p b) refl

pub front_behind : (p : ℕ → Bool) (bytes : List ℕ) → bytes ≡ front_of p bytes ++ behind_of p bytes
front_behind p [] = refl
front_behind p (b ∷ bytes) =
    let at : (k : Bool) → b ∷ bytes ≡ (if k then b ∷ front_of p bytes else []) ++ (if k then behind_of p bytes else b ∷ bytes)
    = λ k. elim k as (λ k. b ∷ bytes ≡ (if k then b ∷ front_of p bytes else []) ++ (if k then behind_of p bytes else b ∷ bytes)) [
      | true ↦ ap (λ v. b ∷ v) (front_behind p bytes)
      | false ↦ refl
    ] in
    at (p b)

pub front_word : (p : ℕ → Bool) (word rest : List ℕ) → Each p word → WordEnds p rest → front_of p (word ++ rest) ≡ word
front_word p [] [] _ _ = refl
front_word p [] (b ∷ rest) _ e = rw e refl
front_word p (b ∷ word) rest h e = rw h.0 (ap (λ v. b ∷ v) (front_word p word rest h.1 e))

pub behind_word : (p : ℕ → Bool) (word rest : List ℕ) → Each p word → WordEnds p rest → behind_of p (word ++ rest) ≡ rest
behind_word p [] [] _ _ = refl
behind_word p [] (b ∷ rest) _ e = rw e refl
behind_word p (b ∷ word) rest h e = rw h.0 (behind_word p word rest h.1 e)

pub all_pass_is : (p : ℕ → Bool) (bytes : List ℕ) → all_pass p bytes ≡ true → Each p bytes
all_pass_is p [] _ = tt
all_pass_is p (b ∷ bytes) h =
    let at : (k : Bool) → p b ≡ k → is_empty (if k then behind_of p bytes else b ∷ bytes) ≡ true → Each p (b ∷ bytes)
    = λ k. elim k as (λ k. p b ≡ k → is_empty (if k then behind_of p bytes else b ∷ bytes) ≡ true → Each p (b ∷ bytes)) [
      | true ↦ λ e m. (e, all_pass_is p bytes m)
      | false ↦ λ e m. absurd (cc)
    ] in
    at (p b) refl h

pub all_pass_each : (p : ℕ → Bool) (bytes : List ℕ) → Each p bytes → all_pass p bytes ≡ true
all_pass_each p [] _ = refl
all_pass_each p (b ∷ bytes) h = rw h.0 (all_pass_each p bytes h.1)

-- a test that is weaker
pub each_weaker : (p q : ℕ → Bool) → ((b : ℕ) → p b ≡ true → q b ≡ true) → (bytes : List ℕ) → Each p bytes → Each q bytes
each_weaker p q w [] _ = tt
each_weaker p q w (b ∷ bytes) h = (w b h.0, each_weaker p q w bytes h.1)

-- both of two tests
pub both_of_two : (a b : Bool) → (a && b) ≡ true → (a ≡ true) × (b ≡ true)
both_of_two true b e = (refl, e)
both_of_two false b e = absurd (cc)

-- a test that fails with its second part
pub second_fails : (a b : Bool) → b ≡ false → (a && b) ≡ false
second_fails true b e = e
second_fails false b e = refl
