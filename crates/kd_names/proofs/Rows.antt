-- The rows of the table of options: each code and each name occurs once, so that what is found by
-- its code is what is found by its name.
use Rattle.std.proofs.Common.{◌≡◌, ◌≢◌, ◌∙◌, ℕ, ◌+◌, ◌*◌, ◌<◌, ◌≤◌, Bool, true, false, cond, if◌then◌else◌, refl, sym, ap, ap₂, subst, List, [], ◌∷◌, map, Option, Some, None, option_map}
use Rattle.std.specs.Prelude.{◌==◌, ◌&&◌, bytes_eq, find, nat_le, nat_lt}
use Rattle.std.specs.List.{list_all}
use Rattle.std.proofs.lemmas.Bool.{and_parts, eq-eqb, eqb-false, eqb-true, false_from_ne_true, false≢true, leb-true, ltb-true, ne_eqb}
use Rattle.std.proofs.lemmas.Option.{none-some, same_Some, some_pair_parts}
use Rattle.std.proofs.lemmas.Slice.Eq.{bytes_eq-Decides}
use Rattle.kd_names.specs.Table.{Definition, definition_in, definition_of, definitions, option_by_name, option_among}
use Rattle.kd_names.specs.declared.kind.Kind.{Kind}

-- a name as a number
abbrev number_of_name : ℕ → List ℕ → ℕ
number_of_name n [] = n
number_of_name n (c ∷ name) = number_of_name (n * 256 + c) name

-- the codes and the names of rows, as numbers
abbrev pairs_of : List Definition → List (ℕ × ℕ)
pairs_of ds = map (λ d. (d.0, number_of_name 0 d.1)) ds

-- no pair has this code or this name
abbrev has_none : ℕ → ℕ → List (ℕ × ℕ) → Bool
has_none code name [] = true
has_none code name (p ∷ ps) = if p.0 == code then false else (if p.1 == name then false else has_none code name ps)

-- no two pairs have a code or a name in common
abbrev are_apart : List (ℕ × ℕ) → Bool
are_apart [] = true
are_apart (p ∷ ps) = if has_none p.0 p.1 ps then are_apart ps else false

all_apart : are_apart (pairs_of definitions) ≡ true
all_apart = refl

-- codes are those between the pad and the end
all_within : list_all (λ d. nat_le 1 d.0 && nat_lt d.0 255) definitions ≡ true
all_within = refl

apart_parts : (s t rest : Bool) → (if s then false else (if t then false else rest)) ≡ true → (s ≡ false) × (t ≡ false) × (rest ≡ true)
apart_parts true t rest h = absurd (false≢true h)
apart_parts false true rest h = absurd (false≢true h)
apart_parts false false rest h = (refl, refl, h)

if_parts : (s rest : Bool) → (if s then rest else false) ≡ true → (s ≡ true) × (rest ≡ true)
if_parts true rest h = (refl, h)
if_parts false rest h = absurd (false≢true h)

-- what is found passes the test
found_passes : (p : Definition → Bool) (ds : List Definition) (d : Definition) → find p ds ≡ Some d → p d ≡ true
found_passes p [] d is = absurd (none-some d is)
found_passes p (e ∷ ds) d is = by (p e) refl is (found_passes p ds d)
  where
    by : (t : Bool) → p e ≡ t → cond t (Some e) (find p ds) ≡ Some d → (find p ds ≡ Some d → p d ≡ true) → p d ≡ true
    by true at h later = subst (λ v. p v ≡ true) (same_Some e d h) at
    by false at h later = later h

-- what is found passes each test that all rows pass
found_in : (p q : Definition → Bool) (ds : List Definition) (d : Definition) → list_all q ds ≡ true → find p ds ≡ Some d → q d ≡ true
found_in p q [] d all is = absurd (none-some d is)
found_in p q (e ∷ ds) d all is =
    let parts = and_parts (q e) (list_all q ds) all in
    by parts.0 (p e) is (found_in p q ds d parts.1)
  where
    by : q e ≡ true → (t : Bool) → cond t (Some e) (find p ds) ≡ Some d → (find p ds ≡ Some d → q d ≡ true) → q d ≡ true
    by here true h later = subst (λ v. q v ≡ true) (same_Some e d h) here
    by here false h later = later h

-- what is found among rows without a code and a name has neither
away : (p : Definition → Bool) (ds : List Definition) (code name : ℕ) (d : Definition) → has_none code name (pairs_of ds) ≡ true → find p ds ≡ Some d → ((d.0 == code) ≡ false) × ((number_of_name 0 d.1 == name) ≡ false)
away p [] code name d none is = absurd (none-some d is)
away p (e ∷ ds) code name d none is =
    let here = apart_parts (e.0 == code) (number_of_name 0 e.1 == name) (has_none code name (pairs_of ds)) none in
    by (here.0, here.1) (p e) is (away p ds code name d here.2)
  where
    by : ((e.0 == code) ≡ false) × ((number_of_name 0 e.1 == name) ≡ false) → (t : Bool) → cond t (Some e) (find p ds) ≡ Some d
        → (find p ds ≡ Some d → ((d.0 == code) ≡ false) × ((number_of_name 0 d.1 == name) ≡ false)) → ((d.0 == code) ≡ false) × ((number_of_name 0 d.1 == name) ≡ false)
    by here true h later = subst (λ v. ((v.0 == code) ≡ false) × ((number_of_name 0 v.1 == name) ≡ false)) (same_Some e d h) here
    by here false h later = later h

differs : (a b : List ℕ) → (number_of_name 0 b == number_of_name 0 a) ≡ false → bytes_eq a b ≡ false
differs a b h = false_from_ne_true (bytes_eq a b) (λ t. eqb-false (number_of_name 0 b) (number_of_name 0 a) h (ap (number_of_name 0) (sym ((bytes_eq-Decides a b).0 t))))

-- what is found by its code is found by its name
by_name : (ds : List Definition) (code : ℕ) (d : Definition) → are_apart (pairs_of ds) ≡ true → find (λ e. e.0 == code) ds ≡ Some d → find (λ e. bytes_eq e.1 d.1) ds ≡ Some d
by_name [] code d h is = absurd (none-some d is)
by_name (e ∷ ds) code d h is =
    let parts = if_parts (has_none e.0 (number_of_name 0 e.1) (pairs_of ds)) (are_apart (pairs_of ds)) h in
    by parts.0 (e.0 == code) is (by_name ds code d parts.1)
  where
    by : has_none e.0 (number_of_name 0 e.1) (pairs_of ds) ≡ true → (t : Bool) → cond t (Some e) (find (λ e. e.0 == code) ds) ≡ Some d
        → (find (λ e. e.0 == code) ds ≡ Some d → find (λ e. bytes_eq e.1 d.1) ds ≡ Some d) → cond (bytes_eq e.1 d.1) (Some e) (find (λ e. bytes_eq e.1 d.1) ds) ≡ Some d
    by none true k later = rw ((bytes_eq-Decides e.1 d.1).1 (ap (λ v. v.1) (same_Some e d k))) k
    by none false k later =
        let other = away (λ e. e.0 == code) ds e.0 (number_of_name 0 e.1) d none k in
        rw (differs e.1 d.1 other.1) (later k)

-- what is found by its name is found by its code
by_code : (ds : List Definition) (name : List ℕ) (d : Definition) → are_apart (pairs_of ds) ≡ true → find (λ e. bytes_eq e.1 name) ds ≡ Some d → find (λ e. e.0 == d.0) ds ≡ Some d
by_code [] name d h is = absurd (none-some d is)
by_code (e ∷ ds) name d h is =
    let parts = if_parts (has_none e.0 (number_of_name 0 e.1) (pairs_of ds)) (are_apart (pairs_of ds)) h in
    by parts.0 (bytes_eq e.1 name) is (by_code ds name d parts.1)
  where
    by : has_none e.0 (number_of_name 0 e.1) (pairs_of ds) ≡ true → (t : Bool) → cond t (Some e) (find (λ e. bytes_eq e.1 name) ds) ≡ Some d
        → (find (λ e. bytes_eq e.1 name) ds ≡ Some d → find (λ e. e.0 == d.0) ds ≡ Some d) → cond (e.0 == d.0) (Some e) (find (λ e. e.0 == d.0) ds) ≡ Some d
    by none true k later = rw (eq-eqb e.0 d.0 (ap (λ v. v.0) (same_Some e d k))) k
    by none false k later =
        let other = away (λ e. bytes_eq e.1 name) ds e.0 (number_of_name 0 e.1) d none k in
        rw (ne_eqb e.0 d.0 (λ q. eqb-false d.0 e.0 other.0 (sym q))) (later k)

named_in : (ds : List Definition) (code : ℕ) (name : List ℕ) (kind : Kind) → are_apart (pairs_of ds) ≡ true → definition_in ds code ≡ Some (name, kind) → option_among ds name ≡ Some (code, kind)
named_in ds code name kind h is = by (find (λ d. d.0 == code) ds) refl is
  where
    by : (o : Option Definition) → find (λ d. d.0 == code) ds ≡ o → option_map {U = List ℕ × Kind} (λ d. (d.1, d.2)) o ≡ Some (name, kind) → option_among ds name ≡ Some (code, kind)
    by None at k = absurd (none-some {A = List ℕ × Kind} (name, kind) k)
    by (Some d) at k =
        let same = some_pair_parts d.1 name d.2 kind k in
        let found = by_name ds code d h at in
        let its : d.0 ≡ code = eqb-true d.0 code (found_passes (λ d. d.0 == code) ds d at) in
        subst (λ v. option_map {U = ℕ × Kind} (λ d. (d.0, d.2)) (find (λ e. bytes_eq e.1 v) ds) ≡ Some (code, kind)) same.0
        (ap (option_map {U = ℕ × Kind} (λ d. (d.0, d.2))) found ∙ ap₂ (λ (c : ℕ) (k : Kind). let p : ℕ × Kind = (c, k) in Some p) its same.1)

named_out : (ds : List Definition) (name : List ℕ) → are_apart (pairs_of ds) ≡ true → list_all (λ d. nat_le 1 d.0 && nat_lt d.0 255) ds ≡ true
    → ((code : ℕ) (kind : Kind) → 1 ≤ code → code < 255 → definition_in ds code ≢ Some (name, kind)) → option_among ds name ≡ None
named_out ds name h within none = by (find (λ d. bytes_eq d.1 name) ds) refl
  where
    by : (o : Option Definition) → find (λ d. bytes_eq d.1 name) ds ≡ o → option_map {U = ℕ × Kind} (λ d. (d.0, d.2)) o ≡ None
    by None at = refl
    by (Some d) at =
        let found = by_code ds name d h at in
        let its : d.1 ≡ name = (bytes_eq-Decides d.1 name).0 (found_passes (λ d. bytes_eq d.1 name) ds d at) in
        let range = and_parts (nat_le 1 d.0) (nat_lt d.0 255) (found_in (λ d. bytes_eq d.1 name) (λ d. nat_le 1 d.0 && nat_lt d.0 255) ds d within at) in
        absurd (none d.0 d.2 (leb-true 1 d.0 range.0) (ltb-true d.0 255 range.1)
        (ap (option_map {U = List ℕ × Kind} (λ d. (d.1, d.2))) found ∙ ap (λ (n : List ℕ). let p : List ℕ × Kind = (n, d.2) in Some p) its))

-- what has a name by its code is found by this name
pub named_is : (code : ℕ) (name : List ℕ) (kind : Kind) → definition_of code ≡ Some (name, kind) → option_by_name name ≡ Some (code, kind)
named_is code name kind is = named_in definitions code name kind all_apart is

-- a name that no code has is not found
pub named_none : (name : List ℕ) → ((code : ℕ) (kind : Kind) → 1 ≤ code → code < 255 → definition_of code ≢ Some (name, kind)) → option_by_name name ≡ None
named_none name none = named_out definitions name all_apart all_within none
