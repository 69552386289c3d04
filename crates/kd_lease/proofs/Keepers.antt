-- A client that keeps its lease in a pool gets the options of that pool: no other one of its network has the
-- address.
use Rattle.std.proofs.Common.{◌≡◌, ℕ, Bool, true, false, not, ◌&&◌, ◌||◌, ◌==◌, List, [], ◌∷◌, ◌++◌, Option, None, Some, IfSome, option_map, map, refl, sym, ap, subst, ◌∙◌, arith, if◌then◌else◌, ⊎_elim}
use Rattle.std.specs.List.{AllByRecursion, find, flat_map, list_any}
use Rattle.std.specs.Option.{option_or}
use Rattle.std.proofs.lemmas.Bool.{and_parts, false≢true, not-true, or_cases, or_from, or_parts}
use Rattle.std.proofs.lemmas.Bool.Decides.{nat_tests}
use Rattle.std.proofs.lemmas.List.Folds.{list_any-append}
use Rattle.std.proofs.lemmas.Option.{none-some, same_Some}
use Rattle.kd_config.specs.Apart.{has, lie_apart, share_one}
use Rattle.kd_config.specs.Networks.{home_of, network_of, pool_for, pools_within}
use Rattle.kd_config.specs.Rules.{all_obey, may_stand, pool_ranges, ranges_in}
use Rattle.kd_config.specs.Sound.{IsSound}
use Rattle.kd_config.specs.declared.pool.Pool.{Pool}
use Rattle.kd_config.specs.declared.range.Range.{Range}
use Rattle.kd_config.specs.declared.subnet.Subnet.{Subnet}
use Rattle.kd_lease.specs.Choice.{Asking, contained}
use Rattle.kd_lease.specs.Given.{options_in, options_of_pool}
use Rattle.kd_lease.specs.Keeping.{keeper, pooled_keeper}
use Rattle.kd_lease.specs.Kept.{has_to_keep, renews_lease}
use Rattle.kd_lease.specs.Rules.{kept_subnet, serving_subnet}
use Rattle.kd_lease.specs.SubnetOf.{subnet_serving}
use Rattle.kd_lease.proofs.Homes.{home_contains, kept_home}
use Rattle.kd_lease.proofs.Served.{at_serving, find-each}

-- ---- ranges that lie apart

-- ranges with one address share it
one_shared : (r s : Range) (a : ℕ) → has r a ≡ true → has s a ≡ true → share_one r s ≡ true
one_shared r s a h k = grind (arith, nat_tests)

-- those that share none with the range of an address do not have it
none_has : (r : Range) (a : ℕ) → has r a ≡ true → (rs : List Range) → list_any (share_one r) rs ≡ false → list_any (λ s. has s a) rs ≡ false
none_has r a here [] none = refl
none_has r a here (s ∷ rs) none =
    let parts = or_parts (share_one r s) (list_any (share_one r) rs) none in
    or_from (has s a) (list_any (λ s. has s a) rs) (by (has s a) refl parts.0) (none_has r a here rs parts.1) where
      by : (b : Bool) → has s a ≡ b → share_one r s ≡ false → has s a ≡ false
      by true e apart = absurd (false≢true (sym apart ∙ one_shared r s a here e))
      by false e apart = e

-- an address of the first ranges is in none of the others
later_none : (rs ss : List Range) (a : ℕ) → lie_apart (rs ++ ss) ≡ true → list_any (λ r. has r a) rs ≡ true → list_any (λ r. has r a) ss ≡ false
later_none [] ss a apart h = absurd (false≢true h)
later_none (r ∷ rs) ss a apart h =
    let parts = and_parts (not (list_any (share_one r) (rs ++ ss))) (lie_apart (rs ++ ss)) apart in
    ⊎_elim
    (λ here. (or_parts (list_any (λ s. has s a) rs) (list_any (λ s. has s a) ss) (sym (list_any-append (λ s. has s a) rs ss) ∙ none_has r a here (rs ++ ss) (not-true (list_any (share_one r) (rs ++ ss)) parts.0))).1)
    (λ there. later_none rs ss a parts.1 there)
    (or_cases (has r a) (list_any (λ s. has s a) rs) h)

apart_behind : (rs ss : List Range) → lie_apart (rs ++ ss) ≡ true → lie_apart ss ≡ true
apart_behind [] ss h = h
apart_behind (r ∷ rs) ss h = apart_behind rs ss (and_parts (not (list_any (share_one r) (rs ++ ss))) (lie_apart (rs ++ ss)) h).1

apart_from : (subnets : List Subnet) → may_stand subnets ≡ true → lie_apart (pool_ranges subnets) ≡ true
unfolding may_stand
apart_from subnets h = (and_parts (lie_apart (pool_ranges subnets)) (all_obey [] subnets) h).0

-- ---- the subnets whose pools have an address

in_ranges : (pools : List Pool) (a : ℕ) → list_any (λ p. has p.range a) pools ≡ list_any (λ r. has r a) (ranges_in pools)
in_ranges [] a = refl
in_ranges (p ∷ pools) a = ap (λ b. has p.range a || b) (in_ranges pools a)

none_of : (subnets : List Subnet) (a : ℕ) → list_any (λ r. has r a) (pool_ranges subnets) ≡ false → AllByRecursion (λ s. contained s a ≡ false) subnets
none_of [] a none = tt
none_of (s ∷ subnets) a none =
    let parts = or_parts (list_any (λ r. has r a) (ranges_in s.pools)) (list_any (λ r. has r a) (pool_ranges subnets)) (sym (list_any-append (λ r. has r a) (ranges_in s.pools) (pool_ranges subnets)) ∙ none) in
    (in_ranges s.pools a ∙ parts.0, none_of subnets a parts.1)

-- if the pools of a subnet have an address, its options are those of another one
abbrev HasOptionsOf : ℕ → Subnet → Subnet → Type 0
HasOptionsOf a k s = contained s a ≡ true → options_of_pool s.pools a ≡ options_of_pool k.pools a

none_have : (a : ℕ) (k : Subnet) (subnets : List Subnet) → AllByRecursion (λ s. contained s a ≡ false) subnets → AllByRecursion (HasOptionsOf a k) subnets
none_have a k [] none = tt
none_have a k (s ∷ subnets) none = (λ h. absurd (false≢true (sym none.0 ∙ h)), none_have a k subnets none.1)

-- only one of the subnets has the address in a pool
each_same : (test : Subnet → Bool) (subnets : List Subnet) (k : Subnet) (a : ℕ) → lie_apart (pool_ranges subnets) ≡ true → find test subnets ≡ Some k → contained k a ≡ true → AllByRecursion (HasOptionsOf a k) subnets
each_same test [] k a apart there pooled = tt
each_same test (s ∷ subnets) k a apart there pooled = by (test s) there (λ found. each_same test subnets k a (apart_behind (ranges_in s.pools) (pool_ranges subnets) apart) found pooled) where
  alone : contained s a ≡ true → AllByRecursion (λ t. contained t a ≡ false) subnets
  alone here = none_of subnets a (later_none (ranges_in s.pools) (pool_ranges subnets) a apart (sym (in_ranges s.pools a) ∙ here))

  by : (b : Bool) → (if b then Some s else find test subnets) ≡ Some k → (find test subnets ≡ Some k → AllByRecursion (HasOptionsOf a k) subnets) → AllByRecursion (HasOptionsOf a k) (s ∷ subnets)
  by true e rest =
      let same : s ≡ k = same_Some s k e in
      (λ h. ap (λ (t : Subnet). options_of_pool t.pools a) same, none_have a k subnets (alone (subst (λ (t : Subnet). contained t a ≡ true) (sym same) pooled)))
  by false e rest = (
    λ h. absurd (false≢true (sym (subst (λ (o : Option Subnet). IfSome o (λ t. contained t a ≡ false)) e (find-each (λ t. contained t a ≡ false) test subnets (alone h))) ∙ pooled)),
    rest e,
  )

-- ---- the pools of a network

found_first : {X : Type 0} (test : X → Bool) (xs ys : List X) → list_any test xs ≡ true → find test (xs ++ ys) ≡ find test xs
found_first test [] ys h = absurd (false≢true h)
found_first {X} test (x ∷ xs) ys h = by (test x) h (found_first test xs ys) where
  by : (b : Bool) → (b || list_any test xs) ≡ true → (list_any test xs ≡ true → find test (xs ++ ys) ≡ find test xs) → (if b then Some x else find test (xs ++ ys)) ≡ (if b then Some x else find test xs)
  by true h rest = refl
  by false h rest = rest h

found_later : {X : Type 0} (test : X → Bool) (xs ys : List X) → list_any test xs ≡ false → find test (xs ++ ys) ≡ find test ys
found_later test [] ys h = refl
found_later {X} test (x ∷ xs) ys h = by (test x) h (found_later test xs ys) where
  by : (b : Bool) → (b || list_any test xs) ≡ false → (list_any test xs ≡ false → find test (xs ++ ys) ≡ find test ys) → (if b then Some x else find test (xs ++ ys)) ≡ find test ys
  by true h rest = absurd (false≢true (sym h))
  by false h rest = rest h

mapped : (classes : List (List ℕ)) (pools : List Pool) (a : ℕ) → list_any (λ p. has p.range a) (map (pool_for classes) pools) ≡ list_any (λ p. has p.range a) pools
mapped classes [] a = refl
mapped classes (p ∷ pools) a = ap (λ b. has p.range a || b) (mapped classes pools a)

mapped_options : (classes : List (List ℕ)) (pools : List Pool) (a : ℕ) → options_of_pool (map (pool_for classes) pools) a ≡ options_of_pool pools a
mapped_options classes [] a = refl
mapped_options classes (p ∷ pools) a = by (has p.range a) (mapped_options classes pools a) where
  by : (b : Bool) → options_of_pool (map (pool_for classes) pools) a ≡ options_of_pool pools a → options_in (if b then Some (pool_for classes p) else find (λ p. has p.range a) (map (pool_for classes) pools)) ≡ options_in (if b then Some p else find (λ p. has p.range a) pools)
  by true rest = refl
  by false rest = rest

-- the pools that a network has of a subnet have the same addresses and options
own_pools : (n : ℕ) (s : Subnet) (a : ℕ) → list_any (λ p. has p.range a) (pools_within n s) ≡ true → (contained s a ≡ true) × (options_of_pool (pools_within n s) a ≡ options_of_pool s.pools a)
own_pools n s a h = by (s.network == n) h where
  by : (b : Bool) → list_any (λ p. has p.range a) (if b then map (pool_for s.classes) s.pools else []) ≡ true → (contained s a ≡ true) × (options_of_pool (if b then map (pool_for s.classes) s.pools else []) a ≡ options_of_pool s.pools a)
  by true h = (sym (mapped s.classes s.pools a) ∙ h, mapped_options s.classes s.pools a)
  by false h = absurd (false≢true h)

joined_pools : (a : ℕ) (k : Subnet) (n : ℕ) (subnets : List Subnet) → AllByRecursion (HasOptionsOf a k) subnets → list_any (λ p. has p.range a) (flat_map (pools_within n) subnets) ≡ true → options_of_pool (flat_map (pools_within n) subnets) a ≡ options_of_pool k.pools a
joined_pools a k n [] each h = absurd (false≢true h)
joined_pools a k n (s ∷ subnets) each h = by (list_any inside (pools_within n s)) refl (λ there. joined_pools a k n subnets each.1 there) where
  inside : Pool → Bool
  inside = λ p. has p.range a

  more : List Pool
  more = flat_map (pools_within n) subnets

  by : (b : Bool) → list_any inside (pools_within n s) ≡ b → (list_any inside more ≡ true → options_of_pool more a ≡ options_of_pool k.pools a) → options_of_pool (pools_within n s ++ more) a ≡ options_of_pool k.pools a
  by true e rest = let own = own_pools n s a e in ap options_in (found_first inside (pools_within n s) more e) ∙ own.1 ∙ each.0 own.0
  by false e rest =
      let there : list_any inside more ≡ true = ap (λ (b : Bool). b || list_any inside more) (sym e) ∙ sym (list_any-append inside (pools_within n s) more) ∙ h in
      ap options_in (found_later inside (pools_within n s) more e) ∙ rest there

joined : (a : ℕ) (k : Subnet) (subnets : List Subnet) → AllByRecursion (HasOptionsOf a k) subnets → (n : ℕ) → HasOptionsOf a k (network_of subnets n)
unfolding network_of
joined a k subnets each n h = joined_pools a k n subnets each h

-- ---- the pool of the lease that is kept

-- the subnet that has its address is found among the subnets
found_keeper : (q : Asking) (k : Subnet) → keeper q ≡ Some k → find (has_to_keep q.message.header.ciaddr) q.config.subnets ≡ Some k
found_keeper q k is = by (q.config.extensions.keeps_leases && renews_lease q.rows q.message q.now q.client) is where
  by : (b : Bool) → (if b then find (has_to_keep q.message.header.ciaddr) q.config.subnets else None) ≡ Some k → find (has_to_keep q.message.header.ciaddr) q.config.subnets ≡ Some k
  by true h = h
  by false h = absurd (none-some k h)

-- and its home serves the message
serves_home : (q : Asking) (k : Subnet) → keeper q ≡ Some k → serving_subnet q ≡ Some (home_of q.config.subnets k)
serves_home q k is =
    let kept : kept_subnet q ≡ Some (home_of q.config.subnets k) = sym (kept_home q.config q.rows q.message q.now q.client) ∙ ap (option_map (home_of q.config.subnets)) is in
    ap (λ (o : Option Subnet). option_or o (subnet_serving q.config q.names q.message)) kept

pub kept_options : (q : Asking) (s : Subnet) (a : ℕ) (k : Subnet) → IsSound q.config → serving_subnet q ≡ Some s → pooled_keeper (keeper q) a ≡ Some k → options_of_pool k.pools a ≡ options_of_pool s.pools a
kept_options q s a k sound serves h = by (keeper q) refl h where
  ciaddr : ℕ
  ciaddr = q.message.header.ciaddr

  subnets : List Subnet
  subnets = q.config.subnets

  pooled_in : (t : Subnet) (b : Bool) → contained t a ≡ b → (if b then Some t else None) ≡ Some k → (contained t a ≡ true) × (t ≡ k)
  pooled_in t true e h = (e, same_Some t k h)
  pooled_in t false e h = absurd (none-some k h)

  by : (o : Option Subnet) → keeper q ≡ o → pooled_keeper o a ≡ Some k → options_of_pool k.pools a ≡ options_of_pool s.pools a
  by None e h = absurd (none-some k h)
  by (Some t) e h =
      let parts = pooled_in t (contained t a) refl h in
      let there = found_keeper q t e in
      let home : home_of subnets t ≡ s = same_Some (home_of subnets t) s (sym (serves_home q t e) ∙ serves) in
      let here : contained s a ≡ true = subst (λ (x : Subnet). contained x a ≡ true) home (home_contains subnets (has_to_keep ciaddr) t a there parts.0) in
      let each = each_same (has_to_keep ciaddr) subnets t a (apart_from subnets sound.subnets.together) there parts.0 in
      let same : HasOptionsOf a t s = subst (λ (o : Option Subnet). IfSome o (HasOptionsOf a t)) serves (at_serving (HasOptionsOf a t) (joined a t) q each) in
      ap (λ (x : Subnet). options_of_pool x.pools a) (sym parts.1) ∙ sym (same here)
