-- A key in quotation marks, part by part.
use Rattle.std.proofs.Common.{◌≡◌, ℕ, Bool, true, false, ◌&&◌, ◌||◌, ◌==◌, nat_eq, eqb-true, List, [], ◌∷◌, ◌++◌, length, drop, refl, sym, ap, ◌∙◌, arith}
use Rattle.std.specs.List.{list_all, list_any, prefix_len, starts_with}
use Rattle.std.proofs.lemmas.Bool.{true≢false}
use Rattle.std.proofs.lemmas.Bool.Decides.{nat_tests}
use Rattle.std.proofs.lemmas.List.{drop-drop}
use Rattle.kd_check.specs.Place.{after_colon, after_white, has_key, is_escaping, is_white, value_of_member}
use Rattle.kd_check.specs.PlaceLaws.{IsInString, closed, plain, escaped}
use Rattle.kd_check.proofs.Paired.{string_ends}

both : (p q r : Bool) → (p && (q && r)) ≡ ((p && q) && r)
both true q r = refl
both false q r = refl

-- a text begins with two texts if it begins with the one, and the rest with the other
starts_append : (a b text : List ℕ) → starts_with nat_eq text (a ++ b) ≡ (starts_with nat_eq text a && starts_with nat_eq (drop (length a) text) b)
starts_append [] b text = refl
starts_append (x ∷ a) b [] = refl
starts_append (x ∷ a) b (y ∷ text) =
    ap (λ t. nat_eq x y && t) (starts_append a b text) ∙ both (nat_eq x y) _ _

-- a member begins with a key if it begins with a quotation mark, the key and a quotation mark
pub key_parts : (b : ℕ) (key rest member : List ℕ) → member ≡ b ∷ rest → has_key key member ≡ (nat_eq 34 b && (starts_with nat_eq rest key && starts_with nat_eq (drop (length key) rest) (34 ∷ [])))
key_parts b key rest member is =
    ap (λ t. has_key key t) is ∙ ap (λ t. nat_eq 34 b && t) (starts_append key (34 ∷ []) rest)

-- a text begins with itself
begins_own : (key rest : List ℕ) → starts_with nat_eq (key ++ 34 ∷ rest) (key ++ 34 ∷ []) ≡ true
begins_own [] rest = refl
begins_own (x ∷ key) rest =
    let same : nat_eq x x ≡ true = grind (arith, nat_tests) in
    rw same (begins_own key rest)

-- a member has the key that it begins with
pub key_own : (key rest : List ℕ) → has_key key (34 ∷ (key ++ 34 ∷ rest)) ≡ true
key_own key rest = begins_own key rest

-- parts of a test
both_true : (p q : Bool) → (p && q) ≡ true → (p ≡ true) × (q ≡ true)
both_true true q h = (refl, h)
both_true false q h = absurd (true≢false (sym h))

no_first : (p q : Bool) → (p || q) ≡ false → (p ≡ false) × (q ≡ false)
no_first true q h = absurd (true≢false h)
no_first false q h = (refl, h)

-- no key without escapes goes on where a string ends, or has what is escaped in one
key_same : (key string rest : List ℕ) → list_any is_escaping key ≡ false → IsInString string → starts_with nat_eq (string ++ 34 ∷ rest) (key ++ 34 ∷ []) ≡ true → key ≡ string
key_same [] string rest free closed begins = refl
key_same (x ∷ key) string rest free closed begins =
    let first = both_true (nat_eq x 34) _ begins in
    let is : x ≡ 34 = eqb-true x 34 first.0 in
    let mark = no_first (is_escaping x) _ free in
    absurd (true≢false (ap is_escaping (sym is) ∙ mark.0))
key_same [] string rest free (plain b more other is) begins =
    let first = both_true (nat_eq 34 b) _ begins in
    let same : 34 ≡ b = eqb-true 34 b first.0 in
    let mark = no_first (b == 34) _ other in
    absurd (true≢false (ap (λ y. y == 34) same ∙ mark.0))
key_same (x ∷ key) string rest free (plain b more other is) begins =
    let first = both_true (nat_eq x b) _ begins in
    let same : x ≡ b = eqb-true x b first.0 in
    let mark = no_first (is_escaping x) _ free in
    let others : key ≡ more = key_same key more rest mark.1 is first.1 in
    cc
key_same [] string rest free (escaped b more is) begins = absurd (true≢false (sym begins))
key_same (x ∷ key) string rest free (escaped b more is) begins =
    let first = both_true (nat_eq x 92) _ begins in
    let same : x ≡ 92 = eqb-true x 92 first.0 in
    let mark = no_first (is_escaping x) _ free in
    absurd (true≢false (ap is_escaping (sym same) ∙ mark.0))

pub key_only : (key string rest : List ℕ) → list_any is_escaping key ≡ false → IsInString string → has_key key (34 ∷ (string ++ 34 ∷ rest)) ≡ true → key ≡ string
key_only key string rest free is begins = key_same key string rest free is begins

-- white space before a colon
white_gone : (gap rest : List ℕ) → list_all is_white gap ≡ true → after_white (gap ++ 58 ∷ rest) ≡ 58 ∷ rest
white_gone [] rest white = refl
white_gone (x ∷ gap) rest white =
    let first = both_true (is_white x) _ white in
    let text = gap ++ 58 ∷ rest in
    rw first.0 (sym (drop-drop (prefix_len is_white text) 1 (x ∷ text)) ∙ white_gone gap rest first.1)

-- the value of a member follows its colon
pub value_follows : (string gap rest : List ℕ) → IsInString string → list_all is_white gap ≡ true → value_of_member (34 ∷ (string ++ 34 ∷ (gap ++ 58 ∷ rest))) ≡ after_white rest
value_follows string gap rest is white =
    ap (λ t. after_colon (34 ∷ (string ++ 34 ∷ (gap ++ 58 ∷ rest))) (after_white t)) (string_ends string (gap ++ 58 ∷ rest) is)
    ∙ ap (λ t. after_colon (34 ∷ (string ++ 34 ∷ (gap ++ 58 ∷ rest))) t) (white_gone gap rest white)
