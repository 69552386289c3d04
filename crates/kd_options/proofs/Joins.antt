-- Options joined piece by piece are the joined options of all pieces (RFC 3396 section 7).
use Rattle.std.proofs.Common.{◌≡◌, ℕ, Bool, true, false, List, [], ◌∷◌, ◌++◌, refl, sym, ap, subst, ◌∙◌, append_assoc, eq-eqb, ne_eqb, eqb-true}
use Rattle.std.specs.Prelude.{◌==◌, if◌then◌else◌, not, filter, map}
use Rattle.std.proofs.lemmas.Bool.{eqb-false}
use Rattle.std.proofs.lemmas.List.{append-nil}
use Rattle.kd_wire.specs.Area.{Piece}
use Rattle.kd_options.specs.Joined.{joined, codes, options_of}
use Rattle.kd_options.specs.Joining.{joined_into}

-- the value of the first option with this code, or nothing
abbrev pub content : ℕ → List Piece → List ℕ
content code [] = []
content code (o ∷ options) = if o.0 == code then o.1 else content code options

-- the options with other codes
abbrev pub without : ℕ → List Piece → List Piece
without code options = filter (λ o. not (o.0 == code)) options

-- the options with one more piece before them
abbrev pub adds : Piece → List Piece → List Piece
adds p options = (p.0, p.1 ++ content p.0 options) ∷ without p.0 options

pub flip : (a b : ℕ) → (a == b) ≡ false → (b == a) ≡ false
flip a b differs = ne_eqb b a (λ e. eqb-false a b differs (sym e))

-- a code that is one of two that differ is not the other
other : (a b c : ℕ) → (a == b) ≡ true → (b == c) ≡ false → (a == c) ≡ false
other a b c same differs = ap (λ x. x == c) (eqb-true a b same) ∙ differs

joined-same : (p : Piece) (pieces : List Piece) → joined p.0 (p ∷ pieces) ≡ p.1 ++ joined p.0 pieces
joined-same p pieces = rw (eq-eqb p.0 p.0 refl) refl

joined-other : (code : ℕ) (p : Piece) (pieces : List Piece) → (p.0 == code) ≡ false → joined code (p ∷ pieces) ≡ joined code pieces
joined-other code p pieces differs = rw differs refl

without-map : (p : Piece) (pieces : List Piece) (ks : List ℕ) → map (λ c. (c, joined c (p ∷ pieces))) (filter (λ c. not (c == p.0)) ks) ≡ without p.0 (map (λ c. (c, joined c pieces)) ks)
without-map p pieces [] = refl
without-map p pieces (k ∷ ks) = by (k == p.0) refl (without-map p pieces ks)
  where
    by : (t : Bool) → (k == p.0) ≡ t → map (λ c. (c, joined c (p ∷ pieces))) (filter (λ c. not (c == p.0)) ks) ≡ without p.0 (map (λ c. (c, joined c pieces)) ks) → map (λ c. (c, joined c (p ∷ pieces))) (filter (λ c. not (c == p.0)) (k ∷ ks)) ≡ without p.0 (map (λ c. (c, joined c pieces)) (k ∷ ks))
    by true t rest = rw t rest
    by false t rest = rw t (λ i. (k, joined-other k p pieces (flip k p.0 t) i) ∷ rest i)

content-without : (code gone : ℕ) (options : List Piece) → (gone == code) ≡ false → content code (without gone options) ≡ content code options
content-without code gone [] differs = refl
content-without code gone (o ∷ options) differs = by (o.0 == gone) refl (content-without code gone options differs)
  where
    by : (t : Bool) → (o.0 == gone) ≡ t → content code (without gone options) ≡ content code options → content code (without gone (o ∷ options)) ≡ content code (o ∷ options)
    by true t rest = rw (t, other o.0 gone code t differs) rest
    by false t rest = rw t (ap (λ x. if o.0 == code then o.1 else x) rest)

-- the options of pieces with one more before them, if the others' values are known
options_of-cons_by : (p : Piece) (pieces : List Piece) → content p.0 (options_of pieces) ≡ joined p.0 pieces → options_of (p ∷ pieces) ≡ adds p (options_of pieces)
options_of-cons_by p pieces known =
    λ i. (p.0, (joined-same p pieces ∙ ap (λ x. p.1 ++ x) (sym known)) i) ∷ without-map p pieces (codes pieces) i

content-options_of : (code : ℕ) (pieces : List Piece) → content code (options_of pieces) ≡ joined code pieces
content-options_of code [] = refl
content-options_of code (p ∷ pieces) =
    ap (content code) (options_of-cons_by p pieces (content-options_of p.0 pieces)) ∙ by (p.0 == code) refl (content-options_of code pieces)
  where
    by : (t : Bool) → (p.0 == code) ≡ t → content code (options_of pieces) ≡ joined code pieces → content code (adds p (options_of pieces)) ≡ joined code (p ∷ pieces)
    by true t rest = rw t (ap (λ x. p.1 ++ x) (ap (λ x. content x (options_of pieces)) (eqb-true p.0 code t) ∙ rest))
    by false t rest = rw t (content-without code p.0 (options_of pieces) t ∙ rest)

pub options_of-cons : (p : Piece) (pieces : List Piece) → options_of (p ∷ pieces) ≡ adds p (options_of pieces)
options_of-cons p pieces = options_of-cons_by p pieces (content-options_of p.0 pieces)

content-joined_into-same : (code : ℕ) (value : List ℕ) (options : List Piece) → content code (joined_into code value options) ≡ content code options ++ value
content-joined_into-same code value [] = rw (eq-eqb code code refl) refl
content-joined_into-same code value (o ∷ options) = by (o.0 == code) refl (content-joined_into-same code value options)
  where
    by : (t : Bool) → (o.0 == code) ≡ t → content code (joined_into code value options) ≡ content code options ++ value → content code (joined_into code value (o ∷ options)) ≡ content code (o ∷ options) ++ value
    by true t rest = rw (t, t) refl
    by false t rest = rw (t, t) rest

content-joined_into-other : (a code : ℕ) (value : List ℕ) (options : List Piece) → (code == a) ≡ false → content a (joined_into code value options) ≡ content a options
content-joined_into-other a code value [] differs = rw differs refl
content-joined_into-other a code value (o ∷ options) differs = by (o.0 == code) refl (content-joined_into-other a code value options differs)
  where
    by : (t : Bool) → (o.0 == code) ≡ t → content a (joined_into code value options) ≡ content a options → content a (joined_into code value (o ∷ options)) ≡ content a (o ∷ options)
    by true t rest = rw (t, other o.0 code a t differs) refl
    by false t rest = rw t (ap (λ x. if o.0 == a then o.1 else x) rest)

without-joined_into-same : (code : ℕ) (value : List ℕ) (options : List Piece) → without code (joined_into code value options) ≡ without code options
without-joined_into-same code value [] = rw (eq-eqb code code refl) refl
without-joined_into-same code value (o ∷ options) = by (o.0 == code) refl (without-joined_into-same code value options)
  where
    by : (t : Bool) → (o.0 == code) ≡ t → without code (joined_into code value options) ≡ without code options → without code (joined_into code value (o ∷ options)) ≡ without code (o ∷ options)
    by true t rest = rw (t, t) refl
    by false t rest = rw (t, t) (ap (λ x. o ∷ x) rest)

without-joined_into-other : (a code : ℕ) (value : List ℕ) (options : List Piece) → (code == a) ≡ false → without a (joined_into code value options) ≡ joined_into code value (without a options)
without-joined_into-other a code value [] differs = rw differs refl
without-joined_into-other a code value (o ∷ options) differs = by (o.0 == code) refl (without-joined_into-other a code value options differs)
  where
    inner : (t : Bool) → (o.0 == a) ≡ t → (o.0 == code) ≡ false → without a (joined_into code value options) ≡ joined_into code value (without a options) → without a (o ∷ joined_into code value options) ≡ joined_into code value (without a (o ∷ options))
    inner true t differs rest = rw t rest
    inner false t differs rest = rw (t, differs) (ap (λ x. o ∷ x) rest)

    by : (t : Bool) → (o.0 == code) ≡ t → without a (joined_into code value options) ≡ joined_into code value (without a options) → without a (joined_into code value (o ∷ options)) ≡ joined_into code value (without a (o ∷ options))
    by true t rest = let away = other o.0 code a t differs in rw (t, away, t) refl
    by false t rest = rw t (inner (o.0 == a) refl t rest)

joined_into-adds_same : (p : Piece) (value : List ℕ) (options : List Piece) → joined_into p.0 value (adds p options) ≡ adds p (joined_into p.0 value options)
joined_into-adds_same p value options =
    let first : joined_into p.0 value (adds p options) ≡ (p.0, (p.1 ++ content p.0 options) ++ value) ∷ without p.0 options = rw (eq-eqb p.0 p.0 refl) refl in
    let content_is = append_assoc p.1 (content p.0 options) value ∙ ap (λ x. p.1 ++ x) (sym (content-joined_into-same p.0 value options)) in
    first ∙ (λ i. (p.0, content_is i) ∷ sym (without-joined_into-same p.0 value options) i)

joined_into-adds_other : (code : ℕ) (p : Piece) (value : List ℕ) (options : List Piece) → (p.0 == code) ≡ false → joined_into code value (adds p options) ≡ adds p (joined_into code value options)
joined_into-adds_other code p value options differs =
    let away = flip p.0 code differs in
    rw differs (λ i. (p.0, p.1 ++ sym (content-joined_into-other p.0 code value options away) i) ∷ sym (without-joined_into-other p.0 code value options away) i)

joined_into-adds : (code : ℕ) (p : Piece) (value : List ℕ) (options : List Piece) → joined_into code value (adds p options) ≡ adds p (joined_into code value options)
joined_into-adds code p value options = by (p.0 == code) refl
  where
    by : (t : Bool) → (p.0 == code) ≡ t → joined_into code value (adds p options) ≡ adds p (joined_into code value options)
    by true t = let P : ℕ → Type 0 = λ c. joined_into c value (adds p options) ≡ adds p (joined_into c value options) in subst P (eqb-true p.0 code t) (joined_into-adds_same p value options)
    by false t = joined_into-adds_other code p value options t

-- one more piece is joined to the options of those before it
pub options_of-append : (pieces : List Piece) (code : ℕ) (value : List ℕ) → options_of (pieces ++ (code, value) ∷ []) ≡ joined_into code value (options_of pieces)
options_of-append [] code value = rw (eq-eqb code code refl) (λ i. (code, append-nil value i) ∷ [])
options_of-append (p ∷ pieces) code value =
    options_of-cons p (pieces ++ (code, value) ∷ []) ∙ ap (adds p) (options_of-append pieces code value) ∙ sym (joined_into-adds code p value (options_of pieces)) ∙ ap (joined_into code value) (sym (options_of-cons p pieces))
