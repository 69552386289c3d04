-- Options in the order of their places: the server's own codes before the configured ones, and
-- option 82 after them. Codes in this order are distinct, and so a code is looked up in few of them.
use Rattle.std.proofs.Common.{◌≡◌, ℕ, ◌+◌, ◌<◌, ◌≤◌, ◌⊎◌, inl, inr, Bool, true, false, List, [], ◌∷◌, ◌++◌, Option, None, sym, ap, ◌∙◌, arith, append-nil, ne_eqb}
use Rattle.std.specs.Prelude.{◌==◌, map, nat_eq, if◌then◌else◌}
use Rattle.std.specs.List.{AllByRecursion, IsDistinct, list_any}
use Rattle.std.proofs.lemmas.Map.Keys.{IsDistinct-cons}
use Rattle.kd_config.specs.Options.{own_codes}
use Rattle.kd_lease.specs.Plan.{ReplyOption}
use Rattle.kd_options.specs.Joined.{value_of}

-- a code is one that the server generates itself
abbrev pub is_own : ℕ → Bool
is_own code = list_any (nat_eq code) own_codes

-- the place of one of the server's own codes; those that no reply has come last
abbrev own_place : ℕ → ℕ
own_place code =
    if code == 53 then 0 else if code == 54 then 1 else if code == 51 then 2 else if code == 58 then 3
    else if code == 59 then 4 else if code == 61 then 5 else if code == 82 then 261 else 262

-- the place of a code in a reply
unfoldable pub place : ℕ → ℕ
place code = if is_own code then own_place code else code + 6

-- the place of a code that may be configured
pub place-free : (code : ℕ) → is_own code ≡ false → place code ≡ code + 6
unfolding place
place-free code free = ap (λ own. if own then own_place code else code + 6) free

-- an option is obligatory if its code is one of the server's own
abbrev pub IsSure : ReplyOption → Type 0
IsSure o = is_own o.code ≡ true → o.obligatory ≡ true

-- options are in the order of their places, which lie from `low` up to `high`
abbrev pub AreOrdered : ℕ → ℕ → List ReplyOption → Type 0
AreOrdered low high [] = low ≤ high
AreOrdered low high (o ∷ os) = (low ≤ place o.code) × IsSure o × AreOrdered (place o.code + 1) high os

-- wider bounds
pub wider : (low a b high : ℕ) (os : List ReplyOption) → low ≤ a → b ≤ high → AreOrdered a b os → AreOrdered low high os
wider low a b high [] first last is = omega (arith, is)
wider low a b high (o ∷ os) first last is =
    (omega (arith, is.0), is.1, wider (place o.code + 1) (place o.code + 1) b high os (omega arith) last is.2)

-- options one after another
pub ordered-append : (low mid high : ℕ) (xs ys : List ReplyOption) → AreOrdered low mid xs → AreOrdered mid high ys → AreOrdered low high (xs ++ ys)
ordered-append low mid high [] ys first last = wider low mid high high ys first (omega arith) last
ordered-append low mid high (x ∷ xs) ys first last =
    (first.0, first.1, ordered-append (place x.code + 1) mid high xs ys first.2 last)

-- the bounds are in order
bounds : (low high : ℕ) (os : List ReplyOption) → AreOrdered low high os → low ≤ high
bounds low high [] is = is
bounds low high (o ∷ os) is = let rest = bounds (place o.code + 1) high os is.2 in omega (arith, is.0, rest)

-- the codes of options
abbrev pub codes_of : List ReplyOption → List ℕ
codes_of os = map (λ o. o.code) os

-- no option has this code
abbrev pub LacksCode : ℕ → List ReplyOption → Type 0
LacksCode code os = AllByRecursion (λ c. nat_eq code c ≡ false) (codes_of os)

-- no option has a code whose place is outside the bounds
pub lacks : (code low high : ℕ) (os : List ReplyOption) → (place code < low) ⊎ (high ≤ place code) → AreOrdered low high os → LacksCode code os
lacks code low high [] out is = tt
lacks code low high (o ∷ os) (inl before) is =
    let differs : code ≡ o.code → ⊥ = λ e. omega (arith, ap place e, before, is.0) in
    (ne_eqb code o.code differs, lacks code (place o.code + 1) high os (inl (omega (arith, before, is.0))) is.2)
lacks code low high (o ∷ os) (inr behind) is =
    let differs : code ≡ o.code → ⊥ = λ e. omega (arith, ap place e, behind, bounds (place o.code + 1) high os is.2) in
    (ne_eqb code o.code differs, lacks code (place o.code + 1) high os (inr behind) is.2)

-- the codes are distinct
pub ordered-distinct : (low high : ℕ) (os : List ReplyOption) → AreOrdered low high os → IsDistinct nat_eq (codes_of os)
unfolding IsDistinct
ordered-distinct low high [] is = tt
ordered-distinct low high (o ∷ os) is =
    IsDistinct-cons nat_eq o.code (codes_of os) (lacks o.code (place o.code + 1) high os (inl (omega arith)) is.2) (ordered-distinct (place o.code + 1) high os is.2)

-- the server's own codes are obligatory
pub ordered-sure : (low high : ℕ) (os : List ReplyOption) → AreOrdered low high os → AllByRecursion IsSure os
ordered-sure low high [] is = tt
ordered-sure low high (o ∷ os) is = (is.1, ordered-sure (place o.code + 1) high os is.2)

-- what options say of a code
abbrev pub told : ℕ → List ReplyOption → Option (List ℕ)
told code os = value_of code (map (λ o. (o.code, o.value)) os)

-- options without a code say nothing of it
pub told-past : (code : ℕ) (xs ys : List ReplyOption) → LacksCode code xs → told code (xs ++ ys) ≡ told code ys
told-past code [] ys lack = λ i. told code ys
told-past code (x ∷ xs) ys lack = rw lack.0 (told-past code xs ys lack.1)

-- so those alone say nothing of it
pub told-none : (code : ℕ) (os : List ReplyOption) → LacksCode code os → told code os ≡ None
told-none code os lack = ap (told code) (sym (append-nil os)) ∙ told-past code os [] lack
