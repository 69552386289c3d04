-- The subnet in which a client keeps its lease: the home of the one that has its address.
use Rattle.std.proofs.Common.{◌≡◌, ℕ, zero, suc, ◌+◌, ◌-◌, ◌<◌, ◌≤◌, Bool, true, false, not, ◌&&◌, ◌||◌, ◌==◌, List, [], ◌∷◌, Option, None, Some, is_some, map, option_map, slice_get, refl, sym, ap, subst, ◌∙◌, arith, if◌then◌else◌, ⊎_elim}
use Rattle.std.specs.List.{find, flat_map, list_any, range_with_len}
use Rattle.std.specs.Option.{option_or}
use Rattle.std.proofs.lemmas.Bool.{and_from, and_parts, eq-eqb, eqb-true, false≢true, or_cases, or_left, or_right}
use Rattle.std.proofs.lemmas.List.Folds.{list_any-append}
use Rattle.std.proofs.lemmas.Option.{none-some, same_Some, slice_get-map}
use Rattle.std.proofs.Math.Nat.{le-max_left, le-max_right}
use Rattle.kd_config.specs.Address.{has_address}
use Rattle.kd_config.specs.Apart.{has}
use Rattle.kd_config.specs.Configuration.{Configuration}
use Rattle.kd_config.specs.Networks.{covers, home_of, is_part, network_at, network_count, network_of, networks_in, pool_for, pools_within, value_or}
use Rattle.kd_config.specs.declared.pool.Pool.{Pool}
use Rattle.kd_config.specs.declared.subnet.Subnet.{Subnet}
use Rattle.kd_options.specs.Message.{Seen}
use Rattle.kd_rows.specs.declared.row.Row.{Row}
use Rattle.kd_lease.specs.Choice.{Asking, contained, fitting_for, reserved_anywhere, reserved_in}
use Rattle.kd_lease.specs.Keeper.{keeper_in}
use Rattle.kd_lease.specs.Keeping.{is_record_here, keeper, keeps_it, keeps_pooled}
use Rattle.kd_lease.specs.Kept.{has_to_keep, kept_in, passes, renews_lease, unseen_reservation}
use Rattle.kd_lease.specs.Rules.{client_has, kept_subnet, known_in, lasting_for, may_last, passes_in, serving_subnet}
use Rattle.kd_lease.specs.SubnetOf.{subnet_serving}
use Rattle.kd_lease.proofs.Records.{known_there}

-- ---- what is found in a list

module _ {X : Type 0} where
  -- if an element passes a test, one is found
  pub found : (test : X → Bool) (xs : List X) → list_any test xs ≡ true → (x : X) × (find test xs ≡ Some x)
  found test [] h = absurd (false≢true h)
  found test (x ∷ xs) h = by (test x) h (found test xs) where
    by : (b : Bool) → (b || list_any test xs) ≡ true → (list_any test xs ≡ true → (y : X) × (find test xs ≡ Some y)) → (y : X) × ((if b then Some x else find test xs) ≡ Some y)
    by true h rest = (x, refl)
    by false h rest = rest h

  -- it passes the test
  pub found_passes : (test : X → Bool) (xs : List X) (x : X) → find test xs ≡ Some x → test x ≡ true
  found_passes test [] x h = absurd (none-some x h)
  found_passes test (y ∷ ys) x h = by (test y) refl h (found_passes test ys x) where
    by : (b : Bool) → test y ≡ b → (if b then Some y else find test ys) ≡ Some x → (find test ys ≡ Some x → test x ≡ true) → test x ≡ true
    by true e h rest = subst (λ (z : X). test z ≡ true) (same_Some y x h) e
    by false e h rest = rest h

  -- so an element passes each test that it passes
  pub passes_among : (test other : X → Bool) (xs : List X) (x : X) → find test xs ≡ Some x → other x ≡ true → list_any other xs ≡ true
  passes_among test other [] x h k = absurd (none-some x h)
  passes_among test other (y ∷ ys) x h k = by (test y) h (passes_among test other ys x) where
    by : (b : Bool) → (if b then Some y else find test ys) ≡ Some x → (find test ys ≡ Some x → other x ≡ true → list_any other ys ≡ true) → (other y || list_any other ys) ≡ true
    by true h rest = or_left (other y) (list_any other ys) (subst (λ (z : X). other z ≡ true) (sym (same_Some y x h)) k)
    by false h rest = or_right (other y) (list_any other ys) (rest h k)

  -- if each element that passes a test passes another, one that passes the first passes the other
  pub weaker : (test other : X → Bool) → ((x : X) → test x ≡ true → other x ≡ true) → (xs : List X) → list_any test xs ≡ true → list_any other xs ≡ true
  weaker test other each [] h = h
  weaker test other each (x ∷ xs) h =
      ⊎_elim (λ here. or_left (other x) (list_any other xs) (each x here)) (λ there. or_right (other x) (list_any other xs) (weaker test other each xs there)) (or_cases (test x) (list_any test xs) h)

  -- if no element passes a test, none that is found does
  pub none_among : (test other : X → Bool) (xs : List X) (x : X) → find test xs ≡ Some x → list_any other xs ≡ false → other x ≡ false
  none_among test other xs x h none = by (other x) refl where
    by : (b : Bool) → other x ≡ b → other x ≡ false
    by true e = absurd (false≢true (sym none ∙ passes_among test other xs x h e))
    by false e = e

-- ---- the subnet, or its network

range_get : (a n k : ℕ) → k < n → slice_get (range_with_len a n) k ≡ Some (a + k)
range_get a zero k less = absurd (omega (arith, less))
range_get a (suc n) zero less = ap Some (omega arith)
range_get a (suc n) (suc k) less = range_get (a + 1) n k (omega (arith, less)) ∙ ap Some (omega arith)

-- a network of one of these subnets is counted
counted : (test : Subnet → Bool) (subnets : List Subnet) (s : Subnet) → find test subnets ≡ Some s → s.network ≤ network_count subnets
counted test [] s h = absurd (none-some s h)
counted test (t ∷ subnets) s h = by (test t) h (counted test subnets s) where
  left : t.network ≤ network_count (t ∷ subnets)
  left = le-max_left t.network (network_count subnets)

  right : network_count subnets ≤ network_count (t ∷ subnets)
  right = le-max_right t.network (network_count subnets)

  by : (b : Bool) → (if b then Some t else find test subnets) ≡ Some s → (find test subnets ≡ Some s → s.network ≤ network_count subnets) → s.network ≤ network_count (t ∷ subnets)
  by true h rest = subst (λ (x : Subnet). x.network ≤ network_count (t ∷ subnets)) (same_Some t s h) left
  by false h rest = let here = rest h in omega (arith, here, right)

-- what a network's pools contain
mapped : (classes : List (List ℕ)) (pools : List Pool) (a : ℕ) → list_any (λ p. has p.range a) (map (pool_for classes) pools) ≡ list_any (λ p. has p.range a) pools
mapped classes [] a = refl
mapped classes (pool ∷ pools) a = ap (λ b. has pool.range a || b) (mapped classes pools a)

within : (n a : ℕ) (subnets : List Subnet) → list_any (λ s. s.network == n && contained s a) subnets ≡ true → list_any (λ p. has p.range a) (flat_map (pools_within n) subnets) ≡ true
within n a [] h = h
within n a (s ∷ subnets) h =
    list_any-append (λ p. has p.range a) (pools_within n s) (flat_map (pools_within n) subnets)
    ∙ ⊎_elim (λ here. or_left (list_any (λ p. has p.range a) (pools_within n s)) rest (own here)) (λ there. or_right (list_any (λ p. has p.range a) (pools_within n s)) rest (within n a subnets there)) (or_cases (s.network == n && contained s a) (list_any (λ t. t.network == n && contained t a) subnets) h) where
      rest : Bool
      rest = list_any (λ p. has p.range a) (flat_map (pools_within n) subnets)

      own : (s.network == n && contained s a) ≡ true → list_any (λ p. has p.range a) (pools_within n s) ≡ true
      own here =
          let parts = and_parts (s.network == n) (contained s a) here in
          ap (λ (b : Bool). list_any (λ p. has p.range a) (if b then map (pool_for s.classes) s.pools else [])) parts.0 ∙ (mapped s.classes s.pools a ∙ parts.1)

-- the home of a subnet has its addresses
module _ (subnets : List Subnet) (test : Subnet → Bool) (s : Subnet) (a : ℕ) (there : find test subnets ≡ Some s) where
  lookup_of : (n : ℕ) → n ≤ network_count subnets → (n == 0) ≡ false → network_at subnets n ≡ Some (network_of subnets n)
  lookup_of n less none =
      let some : 0 < n = positive n none in
      let within : n - 1 < network_count subnets = omega (arith, less, some) in
      let same : 0 + (n - 1) + 1 ≡ n = omega (arith, some) in
      ap (λ (b : Bool). if b then None else slice_get (networks_in subnets) (n - 1)) none
      ∙ slice_get-map (λ i. network_of subnets (i + 1)) (range_with_len 0 (network_count subnets)) (n - 1)
      ∙ ap (option_map (λ i. network_of subnets (i + 1))) (range_get 0 (network_count subnets) (n - 1) within)
      ∙ ap (λ (k : ℕ). Some (network_of subnets k)) same where
        positive : (n : ℕ) → (n == 0) ≡ false → 0 < n
        positive zero e = absurd (false≢true (sym e))
        positive (suc n) e = omega arith

  itself : (n : ℕ) → (n == n) ≡ true
  itself n = eq-eqb n n refl

  -- what holds of a subnet in no network, and of its network, holds of its home
  at_home : (P : Subnet → Type 0) → ((s.network == 0) ≡ true → P s) → ((s.network == 0) ≡ false → P (network_of subnets s.network)) → P (home_of subnets s)
  at_home P alone shared = by (s.network == 0) refl where
    by : (b : Bool) → (s.network == 0) ≡ b → P (home_of subnets s)
    by true e = subst P (sym (ap (λ (b : Bool). value_or (if b then None else slice_get (networks_in subnets) (s.network - 1)) s) e)) (alone e)
    by false e = subst P (sym (ap (λ (o : Option Subnet). value_or o s) (lookup_of s.network (counted test subnets s there) e))) (shared e)

  pub home_covers : has_address s.prefix a ≡ true → covers subnets (home_of subnets s) a ≡ true
  unfolding network_of
  home_covers inside = at_home (λ h. covers subnets h a ≡ true) alone shared where
    alone : (s.network == 0) ≡ true → covers subnets s a ≡ true
    alone none = ap (λ (b : Bool). if b then has_address s.prefix a else list_any (is_part s.network a) subnets) none ∙ inside

    shared : (s.network == 0) ≡ false → covers subnets (network_of subnets s.network) a ≡ true
    shared some =
        ap (λ (b : Bool). if b then has_address (network_of subnets s.network).prefix a else list_any (is_part s.network a) subnets) some
        ∙ passes_among test (is_part s.network a) subnets s there (and_from (s.network == s.network) (has_address s.prefix a) (itself s.network) inside)

  -- and what its pools contain
  pub home_contains : contained s a ≡ true → contained (home_of subnets s) a ≡ true
  unfolding network_of
  home_contains pooled = at_home (λ h. contained h a ≡ true) (λ none. pooled) shared where
    shared : (s.network == 0) ≡ false → contained (network_of subnets s.network) a ≡ true
    shared some = within s.network a subnets (passes_among test (λ t. t.network == s.network && contained t a) subnets s there (and_from (s.network == s.network) (contained s a) (itself s.network) pooled))

-- ---- the lease that is kept

-- the subnet in which it is kept is the home of the one that has its address
pub kept_home : (config : Configuration) (rows : List Row) (m : Seen) (now : ℕ) (client : List ℕ) → option_map (home_of config.subnets) (keeper_in config rows m now client) ≡ kept_in config rows m now client
kept_home config rows m now client = by (config.extensions.keeps_leases && renews_lease rows m now client) where
  by : (b : Bool) → option_map (home_of config.subnets) (if b then find (has_to_keep m.header.ciaddr) config.subnets else None) ≡ (if b then option_map (home_of config.subnets) (find (has_to_keep m.header.ciaddr) config.subnets) else None)
  by true = refl
  by false = refl

kept_at_home : (q : Asking) → option_map (home_of q.config.subnets) (keeper q) ≡ kept_subnet q
kept_at_home q = kept_home q.config q.rows q.message q.now q.client

-- it is found among the subnets
found_keeper : (q : Asking) (s : Subnet) → keeper q ≡ Some s → find (has_to_keep q.message.header.ciaddr) q.config.subnets ≡ Some s
found_keeper q s is = by (q.config.extensions.keeps_leases && renews_lease q.rows q.message q.now q.client) is where
  by : (b : Bool) → (if b then find (has_to_keep q.message.header.ciaddr) q.config.subnets else None) ≡ Some s → find (has_to_keep q.message.header.ciaddr) q.config.subnets ≡ Some s
  by true h = h
  by false h = absurd (none-some s h)

-- and its home serves the message
serves_home : (q : Asking) (s : Subnet) → keeper q ≡ Some s → serving_subnet q ≡ Some (home_of q.config.subnets s)
serves_home q s is = ap (λ (o : Option Subnet). option_or o (subnet_serving q.config q.names q.message)) (sym (kept_at_home q) ∙ ap (option_map (home_of q.config.subnets)) is)

-- so that has the address in its prefix
pub kept_covers : (q : Asking) (a : ℕ) → keeps_it q a ≡ true → passes_in (covers q.config.subnets) (serving_subnet q) (Some a) ≡ true
kept_covers q a h =
    let parts = and_parts (is_some (keeper q)) (q.message.header.ciaddr == a) h in
    by (keeper q) refl parts.0 (eqb-true q.message.header.ciaddr a parts.1) where
      by : (o : Option Subnet) → keeper q ≡ o → is_some o ≡ true → q.message.header.ciaddr ≡ a → passes_in (covers q.config.subnets) (serving_subnet q) (Some a) ≡ true
      by None e some same = absurd (false≢true some)
      by (Some s) e some same =
          let there = found_keeper q s e in
          let keeps = found_passes (has_to_keep q.message.header.ciaddr) q.config.subnets s there in
          let inside = (and_parts (has_address s.prefix q.message.header.ciaddr) (contained s q.message.header.ciaddr || reserved_in q.message.header.ciaddr s) keeps).0 in
          let covered = home_covers q.config.subnets (has_to_keep q.message.header.ciaddr) s q.message.header.ciaddr there inside in
          ap (λ (o : Option Subnet). passes_in (covers q.config.subnets) o (Some a)) (serves_home q s e)
          ∙ subst (λ (b : ℕ). covers q.config.subnets (home_of q.config.subnets s) b ≡ true) same covered

-- and the address may be renewed there, if a pool has it and it is not reserved
pub kept_lasts : (q : Asking) (a : ℕ) → keeps_pooled q (keeper q) a ≡ true → passes_in (lasting_for q) (serving_subnet q) (Some a) ≡ true
kept_lasts q a h = by (keeper q) refl h where
  by : (o : Option Subnet) → keeper q ≡ o → keeps_pooled q o a ≡ true → passes_in (lasting_for q) (serving_subnet q) (Some a) ≡ true
  by None e h = absurd (false≢true h)
  by (Some s) e h =
      let parts = and_parts (q.message.header.ciaddr == a) (contained s a && not (reserved_anywhere q.config a)) h in
      let rest = and_parts (contained s a) (not (reserved_anywhere q.config a)) parts.1 in
      let home : Subnet = home_of q.config.subnets s in
      let pooled : contained home a ≡ true = home_contains q.config.subnets (has_to_keep q.message.header.ciaddr) s a (found_keeper q s e) rest.0 in
      let kept : is_some (kept_subnet q) ≡ true = ap is_some (sym (kept_at_home q) ∙ ap (option_map (home_of q.config.subnets)) e) in
      let lasts : lasting_for q home a ≡ true =
      or_right (fitting_for q home a) (is_some (kept_subnet q) && may_last q.config q.message home a)
      (and_from (is_some (kept_subnet q)) (may_last q.config q.message home a) kept
      (or_left (contained home a && not (reserved_anywhere q.config a)) (is_some (unseen_reservation q.message home a))
      (and_from (contained home a) (not (reserved_anywhere q.config a)) pooled rest.1))) in
      ap (λ (o : Option Subnet). passes_in (lasting_for q) o (Some a)) (serves_home q s e) ∙ lasts

-- a client that has a row there is known
pub known_here : (q : Asking) (about : Option ℕ) → passes (is_record_here q) about ≡ true → true ≡ known_in q (serving_subnet q)
known_here q None h = absurd (false≢true h)
known_here q (Some a) h = by (serving_subnet q) h where
  by : (o : Option Subnet) → passes (λ b. passes (λ c. client_has q c) (Some b) && passes_in (covers q.config.subnets) o (Some b)) (Some a) ≡ true → true ≡ known_in q o
  by None h = absurd (false≢true (sym (and_false (client_has q a)) ∙ h)) where
    and_false : (b : Bool) → (b && false) ≡ false
    and_false true = refl
    and_false false = refl
  by (Some s) h = known_there q s (Some a) h
