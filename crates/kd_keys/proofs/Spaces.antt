-- The options in an option, code by code.
use Rattle.std.proofs.Common.{◌≡◌, ℕ, zero, suc, ◌+◌, Bool, true, false, ◌&&◌, ◌||◌, ◌==◌, List, [], ◌∷◌, ◌++◌, Some, None, refl, sym, ap, ◌∙◌, arith, bytes_eq, if◌then◌else◌}
use Rattle.std.proofs.lemmas.Bool.{false≢true}
use Rattle.std.proofs.lemmas.List.{append_assoc, append-nil}
use Rattle.std.specs.List.{find, flat_map, list_any, range_with_len}
use Rattle.kd_keys.specs.Options.{inner_option, is_entry, is_of_space, options_below}
use Rattle.kd_keys.specs.declared.entry.OptionEntry.{OptionEntry}

-- one number more
numbers_more : (f : ℕ → List ℕ) (a n : ℕ) → flat_map f (range_with_len a (suc n)) ≡ flat_map f (range_with_len a n) ++ f (a + n)
numbers_more f a zero =
    let here : a ≡ a + zero = omega arith in append-nil (f a) ∙ ap f here
numbers_more f a (suc n) =
    let there : a + 1 + n ≡ a + suc n = omega arith in
    ap (λ (xs : List ℕ). f a ++ xs) (numbers_more f (a + 1) n)
    ∙ sym (append_assoc (f a) (flat_map f (range_with_len (a + 1) n)) (f (a + 1 + n)))
    ∙ ap (λ (m : ℕ). (f a ++ flat_map f (range_with_len (a + 1) n)) ++ f m) there

-- no code is below 0
pub none_below : (entries : List OptionEntry) (space : List ℕ) → options_below entries space 0 ≡ []
unfolding options_below
none_below entries space = refl

-- the options below one more code
pub below_more : (entries : List OptionEntry) (space : List ℕ) (code : ℕ) → options_below entries space (code + 1) ≡ options_below entries space code ++ inner_option (find (is_entry space code) entries)
unfolding options_below
below_more entries space code =
    let f : ℕ → List ℕ = λ c. inner_option (find (is_entry space c) entries) in
    let next : code + 1 ≡ suc code = omega arith in
    let here : 0 + code ≡ code = omega arith in
    ap (λ (n : ℕ). flat_map f (range_with_len 0 n)) next
    ∙ numbers_more f 0 code
    ∙ ap (λ (c : ℕ). flat_map f (range_with_len 0 code) ++ f c) here

-- of a space that no entry is of there is no option
not_found : (entries : List OptionEntry) (space : List ℕ) (code : ℕ) → list_any (is_of_space space) entries ≡ false → find (is_entry space code) entries ≡ None
not_found [] space code h = refl
not_found (entry ∷ entries) space code h = by (bytes_eq entry.space space) h (not_found entries space code) where
  by : (t : Bool) → (t || list_any (is_of_space space) entries) ≡ false → (list_any (is_of_space space) entries ≡ false → find (is_entry space code) entries ≡ None) → (if t && entry.code == code then Some entry else find (is_entry space code) entries) ≡ None
  by true g rest = absurd (false≢true (sym g))
  by false g rest = rest g

pub none_inside : (entries : List OptionEntry) (space : List ℕ) (end : ℕ) → list_any (is_of_space space) entries ≡ false → options_below entries space end ≡ []
none_inside entries space zero h = none_below entries space
none_inside entries space (suc n) h =
    let next : suc n ≡ n + 1 = omega arith in
    ap (λ (m : ℕ). options_below entries space m) next
    ∙ below_more entries space n
    ∙ ap (λ (xs : List ℕ). xs ++ inner_option (find (is_entry space n) entries)) (none_inside entries space n h)
    ∙ ap inner_option (not_found entries space n h)
