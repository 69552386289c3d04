-- What is said of the values that are wrong, one after another.
use Rattle.std.proofs.Common.{◌≡◌, ◌≤◌, ◌<◌, ◌++◌, ◌∙◌, ℕ, Bool, List, [], ◌∷◌, append-nil, append_assoc, ap, arith, cond, length, length-append, refl, subst, sym}
use Rattle.std.proofs.lemmas.Bool.{le-ltb, lt-ltb}
use Rattle.std.proofs.lemmas.List.{take_all, take_at}
use Rattle.kd_reports.specs.KeaWords.{AreSaidOfValues, AreValueWords, IsSaidOfValue, more_values}

-- one value more
pub one_more : (name written json : List ℕ) (paths : List (List ℕ)) (path said line : List ℕ) → AreSaidOfValues name written json paths said → IsSaidOfValue name written json path line
    → AreSaidOfValues name written json (paths ++ path ∷ []) (said ++ line)
one_more name written json [] path said line none value =
    (line, [], value, refl, ap (λ (s : List ℕ). s ++ line) none ∙ sym (append-nil line))
one_more name written json (p ∷ paths) path said line (first, others, this, rest, all) value =
    (first, others ++ line, this, one_more name written json paths path others line rest value, ap (λ (s : List ℕ). s ++ line) all ∙ append_assoc first others line)

-- all are shown
pub all_said : (name written json : List ℕ) (paths : List (List ℕ)) (said : List ℕ) → length paths ≤ 64 → AreSaidOfValues name written json paths said
    → AreValueWords name written json paths said
all_said name written json paths said few h = record {
  shown = said;
  said = subst (λ (some : List (List ℕ)). AreSaidOfValues name written json some said) (sym (take_all 64 paths few)) h;
  all = sym (ap (λ (b : Bool). said ++ cond b (more_values name) []) (le-ltb 64 (length paths) few) ∙ append-nil said);
}

-- the first 64 are shown
pub first_said : (name written json : List ℕ) (seen rest : List (List ℕ)) (said : List ℕ) → length seen ≡ 64 → 0 < length rest → AreSaidOfValues name written json seen said
    → AreValueWords name written json (seen ++ rest) (said ++ more_values name)
first_said name written json seen rest said full more h =
    let over : 64 < length (seen ++ rest) = omega (arith, length-append seen rest) in
    record {
      shown = said;
      said = subst (λ (some : List (List ℕ)). AreSaidOfValues name written json some said) (sym (take_at seen rest 64 full)) h;
      all = sym (ap (λ (b : Bool). said ++ cond b (more_values name) []) (lt-ltb 64 (length (seen ++ rest)) over));
    }
