-- Lines of the entries of lists, in order.
use Rattle.std.proofs.Common.{◌≡◌, Bool, ℕ, zero, suc, ◌+◌, ◌<◌, ◌≤◌, arith, List, [], ◌∷◌, ◌++◌, length, drop, take, Option, Some, None, refl, sym, ap, ap₂, ◌∙◌, append_assoc, append-nil, subst, false, if◌then◌else◌, true≢false, is_some}
use Rattle.std.specs.Prelude.{codes, slice_get}
use Rattle.std.specs.List.{flat_map}
use Rattle.std.proofs.lemmas.List.{at_drop_all}
use Rattle.kd_classes.specs.declared.definition.ClassDef.{ClassDef}
use Rattle.kd_config.specs.declared.subnet.Subnet.{Subnet}
use Rattle.kd_lease.specs.SubnetOf.{served_by}
use Rattle.kd_machine.specs.declared.run.Outcome.{Outcome}
use Rattle.kd_options.specs.declared.item.Item.{Item}
use Rattle.kd_explain.proofs.Testing.{left_at}
use Rattle.kd_explain.specs.FoundLines.{tested_line, class_lines, first_outcome, later_line, passed_words, sought_line, sought_lines}
use Rattle.kd_explain.specs.OutcomeLines.{AreOptionLines}

-- two texts in sequence
pub two_put : (old a b o1 o2 : List ℕ) → o1 ≡ old ++ a → o2 ≡ o1 ++ b → o2 ≡ old ++ (a ++ b)
two_put old a b o1 o2 e1 e2 = e2 ∙ ap (λ t. t ++ b) e1 ∙ append_assoc old a b

-- three texts in sequence
pub three_put : (old a b c o1 o2 o3 : List ℕ) → o1 ≡ old ++ a → o2 ≡ o1 ++ b → o3 ≡ o2 ++ c → o3 ≡ old ++ (a ++ (b ++ c))
three_put old a b c o1 o2 o3 e1 e2 e3 = two_put old a (b ++ c) o1 o3 e1 (two_put o1 b c o2 o3 e2 e3)

drop_one : {X : Type 0} (xs : List X) (i : ℕ) → drop 1 (drop i xs) ≡ drop (i + 1) xs
drop_one [] zero = refl
drop_one [] (suc i) =
    let next : suc i + 1 ≡ suc (i + 1) = omega arith in
    rw next refl
drop_one (x ∷ xs) zero = refl
drop_one (x ∷ xs) (suc i) =
    let next : suc i + 1 ≡ suc (i + 1) = omega arith in
    rw next (drop_one xs i)

-- the lines of classes from an index on: that of the class there, and those from the next
class_at : (classes : List ClassDef) (outcomes : List (Option Outcome)) (i : ℕ) (class : ClassDef) (outcome : Option Outcome) → Some class ≡ slice_get classes i
    → outcome ≡ first_outcome (drop i outcomes)
    → class_lines (drop i classes) (drop i outcomes) ≡ tested_line class outcome ++ class_lines (drop (i + 1) classes) (drop (i + 1) outcomes)
unfolding class_lines
class_at classes outcomes i class outcome at is =
    ap (λ cs. class_lines cs (drop i outcomes)) (left_at classes i class (sym at))
    ∙ ap₂ (λ o os. tested_line class o ++ class_lines (drop (i + 1) classes) os) (sym is) (drop_one outcomes i)

-- so a text with the line of the class there
pub class_on : (old new : List ℕ) (classes : List ClassDef) (outcomes : List (Option Outcome)) (i : ℕ) (class : ClassDef) (outcome : Option Outcome) → Some class ≡ slice_get classes i
    → outcome ≡ first_outcome (drop i outcomes) → new ≡ old ++ tested_line class outcome
    → new ++ class_lines (drop (i + 1) classes) (drop (i + 1) outcomes) ≡ old ++ class_lines (drop i classes) (drop i outcomes)
class_on old new classes outcomes i class outcome at is put =
    ap (λ t. t ++ class_lines (drop (i + 1) classes) (drop (i + 1) outcomes)) put
    ∙ append_assoc old (tested_line class outcome) (class_lines (drop (i + 1) classes) (drop (i + 1) outcomes))
    ∙ ap (λ t. old ++ t) (sym (class_at classes outcomes i class outcome at is))

-- after the last class there is nothing to add
pub classes_end : (text : List ℕ) (classes : List ClassDef) (outcomes : List (Option Outcome)) (i : ℕ) → length classes ≤ i
    → text ≡ text ++ class_lines (drop i classes) (drop i outcomes)
unfolding class_lines
classes_end text classes outcomes i past =
    sym (ap (λ (cs : List ClassDef). text ++ class_lines cs (drop i outcomes)) (at_drop_all (λ xs. xs) classes i past) ∙ append-nil text)

module _ {X : Type 0} (line : X → List ℕ) where
  -- the lines with one more entry
  pub entry_more : (list : List X) (i : ℕ) (x : X) → Some x ≡ slice_get list i → flat_map line (take (i + 1) list) ≡ flat_map line (take i list) ++ line x
  entry_more [] i x at = absurd (true≢false (ap is_some at))
  entry_more (y ∷ list) zero x at =
      let same : x ≡ y = cc in append-nil (line y) ∙ ap line (sym same)
  entry_more (y ∷ list) (suc i) x at =
      let next : suc i + 1 ≡ suc (i + 1) = omega arith in
      rw next (ap (λ t. line y ++ t) (entry_more list i x at) ∙ sym (append_assoc (line y) (flat_map line (take i list)) (line x)))

-- the remaining options, after the lines so far
abbrev pub Leads : (Item → List ℕ → Type 0) → List Item → List ℕ → List Item → Type 0
Leads Line items text left = (rest : List ℕ) → AreOptionLines Line left rest → AreOptionLines Line items (text ++ rest)

module _ (Line : Item → List ℕ → Type 0) (items : List Item) where
  -- one more option
  pub leads_on : (text line : List ℕ) (i : ℕ) (item : Item) → drop i items ≡ item ∷ drop (i + 1) items → Line item line → Leads Line items text (drop i items)
      → Leads Line items (text ++ line) (drop (i + 1) items)
  leads_on text line i item at h lead rest t =
      subst (AreOptionLines Line items) (sym (append_assoc text line rest))
      (lead (line ++ rest) (subst (λ (left : List Item). AreOptionLines Line left (line ++ rest)) (sym at) (line, rest, h, t, refl)))

  -- after the last option
  pub leads_end : (text : List ℕ) (i : ℕ) → length items ≤ i → Leads Line items text (drop i items) → AreOptionLines Line items text
  leads_end text i past lead =
      subst (AreOptionLines Line items) (append-nil text)
      (lead [] (subst (λ (left : List Item). AreOptionLines Line left []) (sym (at_drop_all (λ xs. xs) items i past)) refl))

-- no subnets remain to serve
pub none_left : (relayed by_relay : Bool) (place : ℕ) (names : List (List ℕ)) (left : List Subnet) → length left < 1
    → codes "subnet - none serves\n" ≡ sought_lines relayed by_relay place names left
unfolding sought_lines
none_left relayed by_relay place names [] h = refl
none_left relayed by_relay place names (s ∷ left) h = absurd (omega (arith, h))

module _ (relayed by_relay : Bool) (place : ℕ) (names : List (List ℕ)) (s : Subnet) (subnets : List Subnet) where
  -- the lines of subnets, the first of which does not serve
  pub passed_first : served_by by_relay place names s ≡ false
      → sought_lines relayed by_relay place names (s ∷ subnets) ≡ sought_line s (passed_words relayed by_relay place names s) ++ sought_lines relayed by_relay place names subnets
  unfolding sought_lines
  passed_first is = ap (λ b. if b then sought_line s (codes " serves") ++ flat_map (later_line s) subnets else sought_line s (passed_words relayed by_relay place names s) ++ sought_lines relayed by_relay place names subnets) is
