-- The part of a network that was found for a message is the one that has the address.
use Rattle.std.proofs.Common.{◌≡◌, ℕ, ◌<◌, Bool, true, false, ◌||◌, ◌==◌, List, [], ◌∷◌, Option, None, Some, IfSome, refl, sym, ap, subst, ◌∙◌, arith, if◌then◌else◌}
use Rattle.std.specs.List.{AllByRecursion, find, list_any}
use Rattle.std.specs.Prelude.{nat_le, nat_lt}
use Rattle.std.proofs.lemmas.Bool.{and_from, and_parts, eq-eqb, eqb-true, false≢true, ltb-true, or_left, or_right}
use Rattle.std.proofs.lemmas.Option.{none-some, same_Some}
use Rattle.kd_config.specs.Address.{has_address}
use Rattle.kd_config.specs.Configuration.{Configuration}
use Rattle.kd_config.specs.Networks.{covers, is_part, network_of, part_holding, prefix_or_none, value_or}
use Rattle.kd_config.specs.declared.subnet.Subnet.{Subnet}
use Rattle.kd_lease.specs.Choice.{Asking}
use Rattle.kd_lease.specs.Parts.{part_has, part_in, part_known}
use Rattle.kd_lease.specs.Rules.{passes_in, serving_subnet}
use Rattle.kd_lease.proofs.Homes.{found_passes}
use Rattle.kd_lease.proofs.Served.{at_serving, find-each}

pub known_part : (config : Configuration) (serving : Option Subnet) (s : Subnet) (ciaddr a : ℕ) (part : Subnet) → serving ≡ Some s → part_known config serving ciaddr a ≡ Some part
    → part ≡ part_holding config.subnets s a
known_part config serving s ciaddr a part serves h =
    same (ciaddr == a) refl (ap (λ (o : Option Subnet). part_known config o ciaddr a) (sym serves) ∙ h) where
      found : (b : Bool) → (if b then None else Some (part_holding config.subnets s ciaddr)) ≡ Some part → part_holding config.subnets s ciaddr ≡ part
      found true e = absurd (none-some part e)
      found false e = same_Some (part_holding config.subnets s ciaddr) part e

      same : (b : Bool) → (ciaddr == a) ≡ b → (if b then part_in config (Some s) ciaddr else None) ≡ Some part → part ≡ part_holding config.subnets s a
      same true e k = sym (found (ciaddr == 0) k) ∙ ap (part_holding config.subnets s) (eqb-true ciaddr a e)
      same false e k = absurd (none-some part k)

-- ---- a network has the addresses of its prefix

-- if a subnet has an address in its prefix, a subnet of its network does
abbrev IsCovered : List Subnet → ℕ → Subnet → Type 0
IsCovered subnets a s = has_address s.prefix a ≡ true → list_any (is_part s.network a) subnets ≡ true

one_more : (t : Subnet) (subnets : List Subnet) (a : ℕ) (xs : List Subnet) → AllByRecursion (IsCovered subnets a) xs → AllByRecursion (IsCovered (t ∷ subnets) a) xs
one_more t subnets a [] each = tt
one_more t subnets a (x ∷ xs) each = (λ h. or_right (is_part x.network a t) (list_any (is_part x.network a) subnets) (each.0 h), one_more t subnets a xs each.1)

each_covered : (subnets : List Subnet) (a : ℕ) → AllByRecursion (IsCovered subnets a) subnets
each_covered [] a = tt
each_covered (s ∷ subnets) a = (
  λ h. or_left (is_part s.network a s) (list_any (is_part s.network a) subnets) (and_from (s.network == s.network) (has_address s.prefix a) (eq-eqb s.network s.network refl) h),
  one_more s subnets a subnets (each_covered subnets a),
)

-- the prefix of no subnet has the address 0 alone
none_covered : (a : ℕ) → has_address (prefix_or_none None) a ≡ true → a < 1
none_covered a h = ltb-true a 1 (and_parts (nat_le 0 a) (nat_lt a 1) h).1

joined : (all : List Subnet) (a : ℕ) → (a == 0) ≡ false → (subnets : List Subnet) → AllByRecursion (IsCovered all a) subnets → (n : ℕ) → IsCovered all a (network_of subnets n)
unfolding network_of
joined all a some subnets each n h = by (find (λ s. s.network == n) subnets) refl (find-each (IsCovered all a) (λ s. s.network == n) subnets each) h where
  zero_only : (b : ℕ) → b < 1 → (b == 0) ≡ true
  zero_only b less = eq-eqb b 0 (omega (arith, less))

  by : (o : Option Subnet) → find (λ s. s.network == n) subnets ≡ o → IfSome o (IsCovered all a) → has_address (prefix_or_none o) a ≡ true → list_any (is_part n a) all ≡ true
  by None e there h = absurd (false≢true (sym some ∙ zero_only a (none_covered a h)))
  by (Some t) e there h =
      let same : t.network ≡ n = eqb-true t.network n (found_passes (λ s. s.network == n) subnets t e) in
      subst (λ (m : ℕ). list_any (is_part m a) all ≡ true) same (there h)

-- ---- so the subnet that serves a message has the address of its part

any_found : {X : Type 0} (test : X → Bool) (xs : List X) (x : X) → find test xs ≡ Some x → list_any test xs ≡ true
any_found test [] x h = absurd (none-some x h)
any_found {X} test (y ∷ ys) x h = by (test y) h (any_found test ys x) where
  by : (b : Bool) → (if b then Some y else find test ys) ≡ Some x → (find test ys ≡ Some x → list_any test ys ≡ true) → (b || list_any test ys) ≡ true
  by true h rest = refl
  by false h rest = rest h

held_part : (subnets : List Subnet) (s : Subnet) (a : ℕ) → IsCovered subnets a s → has_address (part_holding subnets s a).prefix a ≡ true → covers subnets s a ≡ true
held_part subnets s a covered h = by (s.network == 0) h where
  among : (o : Option Subnet) → find (is_part s.network a) subnets ≡ o → has_address (value_or o s).prefix a ≡ true → list_any (is_part s.network a) subnets ≡ true
  among None e h = covered h
  among (Some t) e h = any_found (is_part s.network a) subnets t e

  by : (b : Bool) → has_address (if b then s else value_or (find (is_part s.network a) subnets) s).prefix a ≡ true → (if b then has_address s.prefix a else list_any (is_part s.network a) subnets) ≡ true
  by true h = h
  by false h = among (find (is_part s.network a) subnets) refl h

pub part_covers : (q : Asking) (a : ℕ) → part_has (part_known q.config (serving_subnet q) q.message.header.ciaddr a) a ≡ true → passes_in (covers q.config.subnets) (serving_subnet q) (Some a) ≡ true
part_covers q a h = by (serving_subnet q) refl h where
  ciaddr : ℕ
  ciaddr = q.message.header.ciaddr

  subnets : List Subnet
  subnets = q.config.subnets

  none : (b : Bool) → part_has (if b then None else None) a ≡ true → passes_in (covers subnets) None (Some a) ≡ true
  none true h = absurd (false≢true h)
  none false h = absurd (false≢true h)

  some : (s : Subnet) → serving_subnet q ≡ Some s → ciaddr ≡ a → (b : Bool) → (ciaddr == 0) ≡ b → part_has (if b then None else Some (part_holding subnets s ciaddr)) a ≡ true → covers subnets s a ≡ true
  some s serves same true zero h = absurd (false≢true h)
  some s serves same false zero h =
      let nonzero : (a == 0) ≡ false = subst (λ (b : ℕ). (b == 0) ≡ false) same zero in
      let covered : IsCovered subnets a s = subst (λ (o : Option Subnet). IfSome o (IsCovered subnets a)) serves (at_serving (IsCovered subnets a) (joined subnets a nonzero) q (each_covered subnets a)) in
      held_part subnets s a covered (subst (λ (b : ℕ). has_address (part_holding subnets s b).prefix a ≡ true) same h)

  known : (s : Subnet) → serving_subnet q ≡ Some s → (b : Bool) → (ciaddr == a) ≡ b → part_has (if b then part_in q.config (Some s) ciaddr else None) a ≡ true → covers subnets s a ≡ true
  known s serves true same h = some s serves (eqb-true ciaddr a same) (ciaddr == 0) refl h
  known s serves false same h = absurd (false≢true h)

  by : (o : Option Subnet) → serving_subnet q ≡ o → part_has (part_known q.config o ciaddr a) a ≡ true → passes_in (covers subnets) o (Some a) ≡ true
  by None serves h = none (ciaddr == a) h
  by (Some s) serves h = known s serves (ciaddr == a) refl h
