-- Classes that are tested in order add to the names held.
use Rattle.std.proofs.Common.{◌≡◌, ℕ, ◌+◌, ◌≤◌, List, [], ◌∷◌, ◌++◌, length, drop, Option, Some, None, refl, sym, ap, ◌∙◌, subst, append_assoc, append-nil}
use Rattle.std.specs.Prelude.{slice_get}
use Rattle.std.proofs.lemmas.List.{at_drop_all, drop_more}
use Rattle.std.proofs.lemmas.Option.{get_or_from_slice_get, slice_get_within}
use Rattle.kd_classes.specs.HeldSet.{JoinInOrder, JoinsBy}
use Rattle.kd_classes.specs.declared.definition.ClassDef.{ClassDef}
use Rattle.kd_machine.specs.declared.run.Outcome.{Outcome}
use Rattle.kd_options.specs.Message.{Seen}
use Rattle.kd_token.specs.File.{Code}
use Rattle.kd_explain.specs.Testing.{AreTested, IsTested, IsTestedBy}

-- the element at a position, and those after it
pub left_at : {X : Type 0} (xs : List X) (i : ℕ) (x : X) → slice_get xs i ≡ Some x → drop i xs ≡ x ∷ drop (i + 1) xs
left_at xs i x e = drop_more xs i x (slice_get_within xs i x e) ∙ ap (λ y. y ∷ drop (i + 1) xs) (get_or_from_slice_get xs i x x e)

joins_by : (test : Option Code) (m : Seen) (name : List ℕ) (held : List (List ℕ)) (outcome : Option Outcome) (more : List (List ℕ))
    → IsTestedBy test m name held outcome more → JoinsBy test m name held more
joins_by None m name held None more t = t
joins_by None m name held (Some outcome) more t = absurd t
joins_by (Some program) m name held None more t = absurd t
joins_by (Some program) m name held (Some outcome) more t = (outcome.value, (outcome, refl, t.0), t.1)

pub joined : (m : Seen) (classes : List ClassDef) (held : List (List ℕ)) (list : List (Option Outcome)) (names : List (List ℕ))
    → AreTested m classes held list names → JoinInOrder m classes held names
joined m [] held [] names t = t
joined m [] held (outcome ∷ list) names t = absurd t
joined m (class ∷ classes) held [] names t = absurd t
joined m (class ∷ classes) held (outcome ∷ list) names t =
    (t.0, joins_by class.test m class.name held outcome t.0 t.1, joined m classes t.0 list names t.2)

-- the remaining classes, after the outcomes so far
abbrev pub Leads : Seen → List ClassDef → List (List ℕ) → List (Option Outcome) → List (List ℕ) → List ClassDef → Type 0
Leads m classes base outcomes held left =
    (list : List (Option Outcome)) (names : List (List ℕ)) → AreTested m left held list names
    → AreTested m classes base (outcomes ++ list) names

-- before the first class
pub leads_from : (m : Seen) (classes : List ClassDef) (base held : List (List ℕ)) (outcomes : List (Option Outcome)) → held ≡ base → outcomes ≡ []
    → Leads m classes base outcomes held classes
leads_from m classes base held outcomes same none list names t =
    subst (λ (o : List (Option Outcome)). AreTested m classes base (o ++ list) names) (sym none) (subst (λ (h : List (List ℕ)). AreTested m classes h list names) same t)

-- one more class
pub leads_on : (m : Seen) (classes : List ClassDef) (base : List (List ℕ)) (outcomes all : List (Option Outcome)) (held more : List (List ℕ)) (i : ℕ) (class : ClassDef) (outcome : Option Outcome)
    → Some class ≡ slice_get classes i → IsTested m class held outcome more → all ≡ outcomes ++ outcome ∷ [] → Leads m classes base outcomes held (drop i classes)
    → Leads m classes base all more (drop (i + 1) classes)
leads_on m classes base outcomes all held more i class outcome at tested grown leads list names t =
    subst (λ (l : List (Option Outcome)). AreTested m classes base l names) (sym (append_assoc outcomes (outcome ∷ []) list) ∙ ap (λ o. o ++ list) (sym grown))
    (leads (outcome ∷ list) names
    (subst (λ (left : List ClassDef). AreTested m left held (outcome ∷ list) names) (sym (left_at classes i class (sym at))) (more, tested, t)))

-- after the last class
pub leads_end : (m : Seen) (classes : List ClassDef) (base : List (List ℕ)) (outcomes : List (Option Outcome)) (held : List (List ℕ)) (i : ℕ) → length classes ≤ i
    → Leads m classes base outcomes held (drop i classes) → AreTested m classes base outcomes held
leads_end m classes base outcomes held i past leads =
    subst (λ (l : List (Option Outcome)). AreTested m classes base l held) (append-nil outcomes)
    (leads [] held (subst (λ (left : List ClassDef). AreTested m left held [] held) (sym (at_drop_all (λ xs. xs) classes i past)) refl))
