-- Two pools that share an address are at the same place.
use Rattle.std.proofs.Common.{◌≡◌, ℕ, zero, suc, true, false, List, [], ◌∷◌, ◌++◌, refl, sym, ap, subst, ◌∙◌, arith}
use Rattle.std.proofs.lemmas.Bool.{false≢true}
use Rattle.std.proofs.lemmas.Bool.Decides.{nat_tests}
use Rattle.std.proofs.lemmas.List.Folds.{list_any-append}
use Rattle.std.specs.List.{list_any}
use Rattle.std.specs.Prelude.{Some, slice_get}
use Rattle.kd_config.proofs.Tests.{both_passed, some_is}
use Rattle.kd_config.proofs.Tests.{not_and, or_false}
use Rattle.kd_config.specs.Apart.{lie_apart, has, share_one}
use Rattle.kd_config.specs.Laws.{AddressHasOnePool}
use Rattle.kd_config.specs.Rules.{all_obey, pool_ranges, may_stand, ranges_in}
use Rattle.kd_config.specs.declared.pool.Pool.{Pool}
use Rattle.kd_config.specs.declared.range.Range.{Range}
use Rattle.kd_config.specs.declared.subnet.Subnet.{Subnet}

-- ranges with one address share it
one_shared : (r s : Range) (a : ℕ) → has r a ≡ true → has s a ≡ true → share_one r s ≡ true
one_shared r s a h k = grind (arith, nat_tests)

-- so they are not apart
not_shared : (r s : Range) (a : ℕ) → has r a ≡ true → has s a ≡ true → share_one r s ≡ false → ⊥
not_shared r s a h k e = false≢true (sym e ∙ one_shared r s a h k)

-- a range shares an address with none of two lists
none_of_both : (r : Range) (xs ys : List Range) → list_any (share_one r) (xs ++ ys) ≡ false
    → (list_any (share_one r) xs ≡ false) × (list_any (share_one r) ys ≡ false)
none_of_both r xs ys e =
    or_false (list_any (share_one r) xs) (list_any (share_one r) ys)
    (sym (list_any-append (share_one r) xs ys) ∙ e)

-- if no pool of a subnet shares an address with a range, then this one does not
none_of_pools : (r : Range) (pools : List Pool) (j : ℕ) (p : Pool)
    → list_any (share_one r) (ranges_in pools) ≡ false
    → slice_get pools j ≡ Some p → share_one r p.range ≡ false
none_of_pools r [] j p none e = absurd (cc)
none_of_pools r (x ∷ pools) zero p none e =
    let h = or_false (share_one r x.range) (list_any (share_one r) (ranges_in pools)) none in
    subst (λ (y : Pool). share_one r y.range ≡ false) (some_is x p e) h.0
none_of_pools r (x ∷ pools) (suc j) p none e =
    let h = or_false (share_one r x.range) (list_any (share_one r) (ranges_in pools)) none in
    none_of_pools r pools j p h.1 e

-- if no pool of subnets shares an address with a range, then this one does not
none_of_all : (r : Range) (subnets : List Subnet) (i j : ℕ) (s : Subnet) (p : Pool)
    → list_any (share_one r) (pool_ranges subnets) ≡ false → slice_get subnets i ≡ Some s
    → slice_get s.pools j ≡ Some p → share_one r p.range ≡ false
none_of_all r [] i j s p none e f = absurd (cc)
none_of_all r (t ∷ subnets) zero j s p none e f =
    let h = none_of_both r (ranges_in t.pools) (pool_ranges subnets) none in
    none_of_pools r s.pools j p
    (subst (λ (x : Subnet). list_any (share_one r) (ranges_in x.pools) ≡ false) (some_is t s e) h.0) f
none_of_all r (t ∷ subnets) (suc i) j s p none e f =
    none_of_all r subnets i j s p (none_of_both r (ranges_in t.pools) (pool_ranges subnets) none).1 e
    f

-- a pool of a subnet, and one of a later subnet
across : (pools : List Pool) (subnets : List Subnet) (j k l : ℕ) (t : Subnet) (p q : Pool)
    → lie_apart (ranges_in pools ++ pool_ranges subnets) ≡ true → slice_get pools j ≡ Some p
    → slice_get subnets k ≡ Some t → slice_get t.pools l ≡ Some q → share_one p.range q.range ≡ false
across [] subnets j k l t p q apart e f g = absurd (cc)
across (x ∷ pools) subnets zero k l t p q apart e f g =
    let more = ranges_in pools ++ pool_ranges subnets in
    let h = not_and (list_any (share_one x.range) more) (lie_apart more) apart in
    let later = none_of_both x.range (ranges_in pools) (pool_ranges subnets) h.0 in
    subst (λ (y : Pool). share_one y.range q.range ≡ false) (some_is x p e)
    (none_of_all x.range subnets k l t q later.1 f g)
across (x ∷ pools) subnets (suc j) k l t p q apart e f g =
    let more = ranges_in pools ++ pool_ranges subnets in
    across pools subnets j k l t p q
    (not_and (list_any (share_one x.range) more) (lie_apart more) apart).1 e f g

-- the first pool of a subnet, and a later one
first_of_pools : (x : Pool) (pools : List Pool) (more : List Range) (l : ℕ) (p q : Pool)
    → lie_apart (x.range ∷ (ranges_in pools ++ more)) ≡ true → Some x ≡ Some p
    → slice_get pools l ≡ Some q → share_one p.range q.range ≡ false
first_of_pools x pools more l p q apart e f =
    let all = ranges_in pools ++ more in
    let h = not_and (list_any (share_one x.range) all) (lie_apart all) apart in
    subst (λ (y : Pool). share_one y.range q.range ≡ false) (some_is x p e)
    (none_of_pools x.range pools l q (none_of_both x.range (ranges_in pools) more h.0).0 f)

-- two pools of a subnet
within : (pools : List Pool) (more : List Range) (a j l : ℕ) (p q : Pool)
    → lie_apart (ranges_in pools ++ more) ≡ true → slice_get pools j ≡ Some p
    → slice_get pools l ≡ Some q
    → has p.range a ≡ true → has q.range a ≡ true → j ≡ l
within [] more a j l p q apart e f h k = absurd (cc)
within (x ∷ pools) more a zero zero p q apart e f h k = refl
within (x ∷ pools) more a zero (suc l) p q apart e f h k =
    absurd (not_shared p.range q.range a h k (first_of_pools x pools more l p q apart e f))
within (x ∷ pools) more a (suc j) zero p q apart e f h k =
    absurd (not_shared q.range p.range a k h (first_of_pools x pools more j q p apart f e))
within (x ∷ pools) more a (suc j) (suc l) p q apart e f h k =
    let all = ranges_in pools ++ more in
    ap suc (within pools more a j l p q
    (not_and (list_any (share_one x.range) all) (lie_apart all) apart).1 e f h k)

-- ranges after others
apart_behind : (xs ys : List Range) → lie_apart (xs ++ ys) ≡ true → lie_apart ys ≡ true
apart_behind [] ys h = h
apart_behind (x ∷ xs) ys h = apart_behind xs ys
    (not_and (list_any (share_one x) (xs ++ ys)) (lie_apart (xs ++ ys)) h).1

-- two pools of subnets
one_place : (subnets : List Subnet) (a i j k l : ℕ) (s t : Subnet) (p q : Pool)
    → lie_apart (pool_ranges subnets) ≡ true
    → slice_get subnets i ≡ Some s → slice_get s.pools j ≡ Some p → slice_get subnets k ≡ Some t
    → slice_get t.pools l ≡ Some q → has p.range a ≡ true → has q.range a ≡ true → (i ≡ k) × (j ≡ l)
one_place [] a i j k l s t p q apart e f g h u v = absurd (cc)
one_place (x ∷ subnets) a zero j zero l s t p q apart e f g h u v =
    let in_s : slice_get x.pools j ≡ Some p =
    subst (λ (y : Subnet). slice_get y.pools j ≡ Some p) (sym (some_is x s e)) f in
    let in_t : slice_get x.pools l ≡ Some q =
    subst (λ (y : Subnet). slice_get y.pools l ≡ Some q) (sym (some_is x t g)) h in
    (refl, within x.pools (pool_ranges subnets) a j l p q apart in_s in_t u v)
one_place (x ∷ subnets) a zero j (suc k) l s t p q apart e f g h u v =
    let in_s : slice_get x.pools j ≡ Some p =
    subst (λ (y : Subnet). slice_get y.pools j ≡ Some p) (sym (some_is x s e)) f in
    absurd (not_shared p.range q.range a u v (across x.pools subnets j k l t p q apart in_s g h))
one_place (x ∷ subnets) a (suc i) j zero l s t p q apart e f g h u v =
    let in_t : slice_get x.pools l ≡ Some q =
    subst (λ (y : Subnet). slice_get y.pools l ≡ Some q) (sym (some_is x t g)) h in
    absurd (not_shared q.range p.range a v u (across x.pools subnets l i j s q p apart in_t e f))
one_place (x ∷ subnets) a (suc i) j (suc k) l s t p q apart e f g h u v =
    let same = one_place subnets a i j k l s t p q
    (apart_behind (ranges_in x.pools) (pool_ranges subnets) apart) e f g h u v in
    (ap suc same.0, same.1)

apart_from : (subnets : List Subnet) → may_stand subnets ≡ true
    → lie_apart (pool_ranges subnets) ≡ true
unfolding may_stand
apart_from subnets h = (both_passed (lie_apart (pool_ranges subnets)) (all_obey [] subnets) h).0

pub one_pool : AddressHasOnePool
one_pool c a i j k l p q sound this that h g =
    one_place c.subnets a i j k l this.subnet that.subnet p q
    (apart_from c.subnets sound.subnets.together)
    this.subnet_at this.pool_at that.subnet_at that.pool_at h g
