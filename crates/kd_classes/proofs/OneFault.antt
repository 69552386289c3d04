-- Definitions have at most one first fault, and none if they are in order.
use Rattle.std.proofs.Common.{◌≡◌, ℕ, ◌<◌, ◌≤◌, Bool, true, false, List, length, take, Some, refl, sym, ap, subst, ◌∙◌, arith, inl, inr}
use Rattle.std.specs.Prelude.{◌⊎◌, slice_get}
use Rattle.std.proofs.lemmas.Bool.{cases_lt}
use Rattle.std.proofs.lemmas.Option.{slice_get_within}
use Rattle.std.specs.List.{list_all}
use Rattle.kd_classes.specs.Order.{AreInOrder, IsClassFault, IsFaultOf, IsFirstClassFault, IsInOrder, asked, known_after, named_among}
use Rattle.kd_classes.specs.declared.definition.ClassDef.{ClassDef}
use Rattle.kd_classes.specs.declared.fault.ClassFault.{ClassFault}
use Rattle.kd_classes.specs.declared.fault.ClassFault.TheVariants as faults

both : (b : Bool) → b ≡ true → b ≡ false → ⊥
both b yes-is no-is = cc

-- a definition that is in order has no fault
clash : (i : ℕ) (earlier : List ClassDef) (def : ClassDef) (fault : ClassFault) → IsInOrder earlier def → IsFaultOf i earlier def fault → ⊥
clash i earlier def (faults.Duplicate at) order wrong = both (named_among def.name earlier) wrong.1 order.own
clash i earlier def (faults.UnknownMember at) order wrong = both (list_all (known_after earlier) (asked def)) order.known wrong.2
clash i earlier def faults.TooMany order wrong = wrong

-- a definition has at most one fault
one_of : (i : ℕ) (earlier : List ClassDef) (def : ClassDef) (f g : ClassFault) → IsFaultOf i earlier def f → IsFaultOf i earlier def g → f ≡ g
one_of i earlier def (faults.Duplicate a) (faults.Duplicate b) u v = ap faults.Duplicate (u.0 ∙ sym v.0)
one_of i earlier def (faults.Duplicate a) (faults.UnknownMember b) u v = absurd (both (named_among def.name earlier) u.1 v.1)
one_of i earlier def (faults.Duplicate a) faults.TooMany u v = absurd v
one_of i earlier def (faults.UnknownMember a) (faults.Duplicate b) u v = absurd (both (named_among def.name earlier) v.1 u.1)
one_of i earlier def (faults.UnknownMember a) (faults.UnknownMember b) u v = ap faults.UnknownMember (u.0 ∙ sym v.0)
one_of i earlier def (faults.UnknownMember a) faults.TooMany u v = absurd v
one_of i earlier def faults.TooMany g u v = absurd u

some_same : (x y : ClassDef) → Some x ≡ Some y → x ≡ y
some_same x y e = cc

one_place : (defs : List ClassDef) (i j : ℕ) (f g : ClassFault) → IsClassFault defs i f → IsClassFault defs j g → f ≡ g
one_place defs i j f g a b = by (cases_lt i j) (cases_lt j i) where
  by : (i < j) ⊎ (j ≤ i) → (j < i) ⊎ (i ≤ j) → f ≡ g
  by (inl less) other = absurd (clash i (take i defs) a.def f (b.before i a.def less a.at) a.wrong)
  by (inr le) (inl less) = absurd (clash j (take j defs) b.def g (a.before j b.def less b.at) b.wrong)
  by (inr le) (inr ge) =
      let place : i ≡ j = omega (arith, le, ge) in
      let same : a.def ≡ b.def = some_same a.def b.def (sym a.at ∙ ap (slice_get defs) place ∙ b.at) in
      let F : ℕ → Type 0 = λ k. IsFaultOf k (take k defs) a.def f in
      let G : ClassDef → Type 0 = λ def. IsFaultOf j (take j defs) def f in
      one_of j (take j defs) b.def f g (subst G same (subst F place a.wrong)) b.wrong

-- the two ways to be the first fault
abbrev Ways : List ClassDef → ClassFault → Type 0
Ways defs f = ((f ≡ faults.TooMany) × (256 < length defs)) ⊎ ((length defs ≤ 256) × (i : ℕ) × IsClassFault defs i f)

ways : (defs : List ClassDef) (f : ClassFault) → IsFirstClassFault defs f → Ways defs f
ways defs (faults.Duplicate i) is = inr is
ways defs (faults.UnknownMember i) is = inr is
ways defs faults.TooMany is = inl (refl, is)

pub one_fault : (defs : List ClassDef) (f g : ClassFault) → IsFirstClassFault defs f → IsFirstClassFault defs g → f ≡ g
one_fault defs f g a b = by (ways defs f a) (ways defs g b) where
  by : Ways defs f → Ways defs g → f ≡ g
  by (inl u) (inl v) = u.0 ∙ sym v.0
  by (inl u) (inr v) = let over = u.1 in let within = v.0 in absurd (omega (arith, over, within))
  by (inr u) (inl v) = let over = v.1 in let within = u.0 in absurd (omega (arith, over, within))
  by (inr u) (inr v) = one_place defs u.1 v.1 f g u.2 v.2

pub no_fault : (defs : List ClassDef) (f : ClassFault) → AreInOrder defs → IsFirstClassFault defs f → ⊥
no_fault defs f order a = by (ways defs f a) where
  by : Ways defs f → ⊥
  by (inl u) = let over = u.1 in let within = order.few in omega (arith, over, within)
  by (inr u) = clash u.1 (take u.1 defs) u.2.def f (order.each u.1 u.2.def (slice_get_within defs u.1 u.2.def u.2.at) u.2.at) u.2.wrong
