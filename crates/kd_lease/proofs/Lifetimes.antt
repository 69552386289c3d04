-- The lifetimes of leases: what the classes give, one after another, and what holds of each lifetime of
-- a configuration holds of those that leases get.
use Rattle.std.proofs.Common.{◌≡◌, ℕ, ◌+◌, ◌<◌, ◌≤◌, ◌==◌, Bool, true, false, List, [], ◌∷◌, ◌++◌, Option, Some, None, refl, sym, ap, ◌∙◌, filter, length, max, min, slice_get, take, unwrap_or, if◌then◌else◌, arith}
use Rattle.std.specs.Prelude.{IfSome}
use Rattle.std.specs.List.{AllByRecursion}
use Rattle.std.specs.Option.{option_or}
use Rattle.std.proofs.lemmas.List.{take_more}
use Rattle.std.proofs.lemmas.List.Elements.{filter-append}
use Rattle.std.proofs.lemmas.Option.{get_or_from_slice_get, slice_get_within}
use Rattle.kd_classes.specs.Lifetime.{lifetime_granted}
use Rattle.kd_classes.specs.declared.definition.ClassDef.{ClassDef}
use Rattle.kd_classes.specs.declared.lifetime.Lifetime.{Lifetime}
use Rattle.kd_config.specs.Configuration.{Configuration}
use Rattle.kd_config.specs.Networks.{network_of, part_holding}
use Rattle.kd_config.specs.Sound.{IsClass, IsLifetime, IsSound, IsSubnet, longest_lease}
use Rattle.kd_config.specs.Term.{times_of_term}
use Rattle.kd_config.specs.declared.subnet.Subnet.{Subnet}
use Rattle.kd_config.specs.declared.term.Term.{Term}
use Rattle.kd_machine.specs.Parts.{is_held}
use Rattle.kd_options.specs.Message.{Seen}
use Rattle.kd_lease.specs.Choice.{Asking}
use Rattle.kd_lease.specs.Rules.{granted_times, serving_subnet}
use Rattle.kd_lease.specs.Times.{asked_seconds, class_lifetime, first_lifetime, times_in_subnet, times_under}
use Rattle.kd_lease.proofs.Boots.{or_assoc, or_none}
use Rattle.kd_lease.proofs.Served.{at_part, at_serving}

-- ---- what the classes give

first_append : (xs ys : List ClassDef) → first_lifetime (xs ++ ys) ≡ option_or (first_lifetime xs) (first_lifetime ys)
first_append [] ys = refl
first_append (class ∷ xs) ys = ap (option_or class.lifetime) (first_append xs ys) ∙ sym (or_assoc class.lifetime (first_lifetime xs) (first_lifetime ys))

-- the classes up to one more
pub more_lifetimes : (classes : List ClassDef) (names : List (List ℕ)) (i : ℕ) (class : ClassDef) → slice_get classes i ≡ Some class
    → class_lifetime (take (i + 1) classes) names ≡ option_or (class_lifetime (take i classes) names) (class_lifetime (class ∷ []) names)
more_lifetimes classes names i class at =
    let held : ClassDef → Bool = λ class. is_held class.name names in
    let within : i < length classes = slice_get_within classes i class at in
    let taken : take (i + 1) classes ≡ take i classes ++ class ∷ [] = take_more classes i class within ∙ ap (λ c. take i classes ++ c ∷ []) (get_or_from_slice_get classes i class class at) in
    ap (λ cs. class_lifetime cs names) taken
    ∙ ap first_lifetime (filter-append held (take i classes) (class ∷ []))
    ∙ first_append (filter held (take i classes)) (filter held (class ∷ []))

-- a class that is held, or gives none
pub one_lifetime : (class : ClassDef) (names : List (List ℕ)) → is_held class.name names ≡ true → class_lifetime (class ∷ []) names ≡ class.lifetime
one_lifetime class names held = rw held (or_none class.lifetime)

pub no_class_lifetime : (class : ClassDef) (names : List (List ℕ)) → is_held class.name names ≡ false → class_lifetime (class ∷ []) names ≡ None
no_class_lifetime class names held = rw held refl

pub empty_lifetime : (class : ClassDef) (names : List (List ℕ)) → class.lifetime ≡ None → class_lifetime (class ∷ []) names ≡ None
empty_lifetime class names none = by (is_held class.name names) where
  by : (b : Bool) → first_lifetime (if b then class ∷ [] else []) ≡ None
  by true = or_none class.lifetime ∙ none
  by false = refl

-- ---- what holds of each lifetime

or_holds : {A : Type 0} (P : A → Type 0) (x y : Option A) → IfSome x P → IfSome y P → IfSome (option_or x y) P
or_holds P None y left right = right
or_holds P (Some x) y left right = left

-- a subnet has a term of which this holds, if it has one
abbrev pub HasTerm : (Lifetime → Type 0) → Subnet → Type 0
HasTerm Such s = IfSome s.term (λ term. Such term.lifetime)

-- a class likewise
abbrev pub GivesTime : (Lifetime → Type 0) → ClassDef → Type 0
GivesTime Such class = IfSome class.lifetime Such

-- a shared network as one subnet has no term
termless : (Such : Lifetime → Type 0) (subnets : List Subnet) → AllByRecursion (HasTerm Such) subnets → (n : ℕ) → HasTerm Such (network_of subnets n)
unfolding network_of
termless Such subnets each n = tt

by_classes : (Such : Lifetime → Type 0) (classes : List ClassDef) (names : List (List ℕ)) → AllByRecursion (GivesTime Such) classes → IfSome (class_lifetime classes names) Such
by_classes Such [] names each = tt
by_classes Such (class ∷ classes) names each = by (is_held class.name names) (by_classes Such classes names each.1) where
  by : (b : Bool) → IfSome (class_lifetime classes names) Such
      → IfSome (first_lifetime (if b then class ∷ filter (λ class. is_held class.name names) classes else filter (λ class. is_held class.name names) classes)) Such
  by true rest = or_holds Such class.lifetime (class_lifetime classes names) each.0 rest
  by false rest = rest

or_own : (Such : Lifetime → Type 0) (given : Option Lifetime) (own : Lifetime) → IfSome given Such → Such own → Such (unwrap_or given own)
or_own Such None own is own_is = own_is
or_own Such (Some given) own is own_is = is

module _ (Such : Lifetime → Type 0) (Lasts : ℕ → Type 0) (grants : (lifetime : Lifetime) (asked : ℕ) → Such lifetime → Lasts (lifetime_granted lifetime asked)) where
  under : (config : Configuration) (term : Option Term) (names : List (List ℕ)) (m : Seen) → Lasts config.times.lifetime → AllByRecursion (GivesTime Such) config.classes
      → IfSome term (λ term. Such term.lifetime) → Lasts (times_under config term names m).lifetime
  unfolding times_of_term
  under config None names m whole classes is = whole
  under config (Some term) names m whole classes is =
      grants (unwrap_or (class_lifetime config.classes names) term.lifetime) (asked_seconds m)
      (or_own Such (class_lifetime config.classes names) term.lifetime (by_classes Such config.classes names classes) is)

  within : (q : Asking) (s : Option Subnet) (a : ℕ) → Lasts q.config.times.lifetime → AllByRecursion (GivesTime Such) q.config.classes → AllByRecursion (HasTerm Such) q.config.subnets
      → IfSome s (HasTerm Such) → Lasts (times_in_subnet q s a).lifetime
  unfolding times_in_subnet
  within q None a whole classes subnets is = whole
  within q (Some s) a whole classes subnets is =
      under q.config (part_holding q.config.subnets s a).term q.names q.message whole classes
      (at_part (HasTerm Such) (termless Such) q.config.subnets subnets s a is)

  -- what holds of the server's lifetime, and of each of classes and subnets, holds of what leases get
  pub granted_each : (q : Asking) (a : ℕ) → Lasts q.config.times.lifetime → AllByRecursion (GivesTime Such) q.config.classes → AllByRecursion (HasTerm Such) q.config.subnets
      → Lasts (granted_times q a).lifetime
  granted_each q a whole classes subnets =
      within q (serving_subnet q) a whole classes subnets (at_serving (HasTerm Such) (termless Such) q subnets)

-- ---- bounds

abbrev IsBounded : ℕ → Type 0
IsBounded seconds = seconds ≤ longest_lease

bounded_by : (lifetime : Lifetime) (asked : ℕ) → IsLifetime lifetime → IsBounded (lifetime_granted lifetime asked)
bounded_by lifetime asked is = by (asked == 0) where
  by : (b : Bool) → IsBounded (if b then lifetime.usual else min lifetime.most (max lifetime.least asked))
  by true = omega (arith, is.below, is.bounded)
  by false = omega (arith, is.bounded)

classes_bounded : (classes : List ClassDef) → AllByRecursion IsClass classes → AllByRecursion (GivesTime IsLifetime) classes
classes_bounded [] each = tt
classes_bounded (class ∷ classes) each = (each.0.lifetime, classes_bounded classes each.1)

subnets_bounded : (subnets : List Subnet) → AllByRecursion IsSubnet subnets → AllByRecursion (HasTerm IsLifetime) subnets
subnets_bounded [] each = tt
subnets_bounded (s ∷ subnets) each = (each.0.term, subnets_bounded subnets each.1)

-- the lifetime of a lease is within the longest
pub granted_bounded : (q : Asking) → IsSound q.config → (a : ℕ) → (granted_times q a).lifetime ≤ longest_lease
granted_bounded q sound a =
    granted_each IsLifetime IsBounded bounded_by q a sound.times.lifetime.below
    (classes_bounded q.config.classes sound.classes.each) (subnets_bounded q.config.subnets sound.subnets.each)
