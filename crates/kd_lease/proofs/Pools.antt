-- The first open address in pool order: ranges are searched one after another.
use Rattle.std.proofs.Common.{◌≡◌, ℕ, zero, suc, ◌+◌, ◌<◌, ◌≤◌, Bool, true, false, ◌&&◌, ◌||◌, ◌==◌, nat_lt, List, [], ◌∷◌, length, get_or, Some, None, refl, sym, ◌∙◌, subst, arith, ⊎_elim, if◌then◌else◌}
use Rattle.std.specs.List.{list_any}
use Rattle.std.proofs.lemmas.Bool.{cases_lt, false≢true}
use Rattle.std.proofs.lemmas.Bool.Decides.{nat_tests}
use Rattle.kd_config.specs.Apart.{has}
use Rattle.kd_config.specs.declared.pool.Pool.{Pool}
use Rattle.kd_config.specs.declared.subnet.Subnet.{Subnet}
use Rattle.kd_lease.specs.Choice.{Asking, IsFirstOf, has_rank, pooled, is_before, is_earlier, pool_gives, pool_place}
use Rattle.kd_lease.specs.Ranks.{IsRanked}
use Rattle.kd_lease.specs.Seeking.{IsLeastGiven, is_open, pool_rank}
use Rattle.kd_config.specs.Classed.{classes_admit}

left : (t u : Bool) → (t && u) ≡ true → t ≡ true
left true u h = refl
left false u h = h

both : (t u : Bool) → t ≡ true → u ≡ true → (t && u) ≡ true
both true u e h = h
both false u e h = e

right : (t u : Bool) → (t && u) ≡ true → u ≡ true
right true u h = h
right false u h = absurd (false≢true h)

-- the first pool that has an address for the client
pool_at : (names : List (List ℕ)) (pools : List Pool) (a : ℕ) (d : Pool) → pool_place names pools a < length pools → pool_gives names (get_or pools (pool_place names pools a) d) a ≡ true
pool_at names [] a d less = absurd (omega arith)
pool_at names (pool ∷ pools) a d less = by (pool_gives names pool a) refl less (pool_at names pools a d) where
  by : (b : Bool) → pool_gives names pool a ≡ b → (if b then 0 else pool_place names pools a + 1) < length (pool ∷ pools) → (pool_place names pools a < length pools → pool_gives names (get_or pools (pool_place names pools a) d) a ≡ true) → pool_gives names (get_or (pool ∷ pools) (if b then 0 else pool_place names pools a + 1) d) a ≡ true
  by true e less rest = e
  by false e less rest = let next : pool_place names pools a + 1 ≡ suc (pool_place names pools a) = omega arith in rw next (rest (omega arith))

pool_least : (names : List (List ℕ)) (pools : List Pool) (i a : ℕ) (d : Pool) → i < length pools → pool_gives names (get_or pools i d) a ≡ true → pool_place names pools a ≤ i
pool_least names [] i a d less h = absurd (omega arith)
pool_least names (pool ∷ pools) zero a d less h = rw h (omega arith)
pool_least names (pool ∷ pools) (suc i) a d less h = by (pool_gives names pool a) (pool_least names pools i a d (omega arith) h) where
  by : (b : Bool) → pool_place names pools a ≤ i → (if b then 0 else pool_place names pools a + 1) ≤ suc i
  by true g = omega arith
  by false g = omega arith

pool_within : (names : List (List ℕ)) (pools : List Pool) (a : ℕ) → list_any (λ pool. pool_gives names pool a) pools ≡ true → pool_place names pools a < length pools
pool_within names [] a h = absurd (false≢true h)
pool_within names (pool ∷ pools) a h = by (pool_gives names pool a) h (pool_within names pools a) where
  by : (b : Bool) → (b || list_any (λ pool. pool_gives names pool a) pools) ≡ true → (list_any (λ pool. pool_gives names pool a) pools ≡ true → pool_place names pools a < length pools) → (if b then 0 else pool_place names pools a + 1) < length (pool ∷ pools)
  by true h g = omega arith
  by false h g = let less = g h in omega arith

pool_any : (names : List (List ℕ)) (pools : List Pool) (i a : ℕ) (d : Pool) → i < length pools → pool_gives names (get_or pools i d) a ≡ true → list_any (λ pool. pool_gives names pool a) pools ≡ true
pool_any names [] i a d less h = absurd (omega arith)
pool_any names (pool ∷ pools) zero a d less h = rw h refl
pool_any names (pool ∷ pools) (suc i) a d less h = by (pool_gives names pool a) (pool_any names pools i a d (omega arith) h) where
  by : (b : Bool) → list_any (λ pool. pool_gives names pool a) pools ≡ true → (b || list_any (λ pool. pool_gives names pool a) pools) ≡ true
  by true g = refl
  by false g = g

-- a pool that has an address for a client contains it
inside : (names : List (List ℕ)) (pool : Pool) (a : ℕ) → pool_gives names pool a ≡ true → (pool.range.first ≤ a) × (a ≤ pool.range.last)
inside names pool a h = within (right (classes_admit pool.classes names) (has pool.range a) h) where
  within : has pool.range a ≡ true → (pool.range.first ≤ a) × (a ≤ pool.range.last)
  within is = (low, high) where
    low : pool.range.first ≤ a
    low = grind (arith, nat_tests)

    high : a ≤ pool.range.last
    high = grind (arith, nat_tests)

-- an address that a pool has for the client is not open if it does not pass both tests
not_both : (t u : Bool) → t ≡ true → (t && u) ≡ false → u ≡ false
not_both true u e h = h
not_both false u e h = absurd (false≢true e)

-- no address of the first n pools is open
abbrev pub NoneIn : Asking → Subnet → Bool → ℕ → Type 0
NoneIn q s new n = (a : ℕ) → pool_place q.names s.pools a < n → is_open q s new a ≡ false

pub next_pool : (q : Asking) (s : Subnet) (new : Bool) (n : ℕ) (pool : Pool) → n < length s.pools → pool ≡ get_or s.pools n pool → NoneIn q s new n
    → IsLeastGiven q s new pool None → NoneIn q s new (n + 1)
next_pool q s new n pool less is h none a before = ⊎_elim (λ l. h a l) (λ m. here (omega arith)) (cases_lt (pool_place q.names s.pools a) n) where
  here : pool_place q.names s.pools a ≡ n → is_open q s new a ≡ false
  here e =
      let at : pool_gives q.names (get_or s.pools n pool) a ≡ true = subst (λ (k : ℕ). pool_gives q.names (get_or s.pools k pool) a ≡ true) e (pool_at q.names s.pools a pool (omega arith)) in
      let given : pool_gives q.names pool a ≡ true = subst (λ (p : Pool). pool_gives q.names p a ≡ true) (sym is) at in
      let bounds = inside q.names pool a given in
      not_both (pool_gives q.names pool a) (is_open q s new a) given (none a bounds.0 bounds.1)

ranked : (q : Asking) (s : Subnet) (new : Bool) (a : ℕ) → has_rank q s (pool_rank new) a ≡ (pooled q.names s a && is_open q s new a)
ranked q s true a = refl
ranked q s false a = refl

earlier : (q : Asking) (s : Subnet) (new : Bool) (a b : ℕ) → is_before q s (pool_rank new) a b ≡ is_earlier q.names s.pools a b
earlier q s true a b = refl
earlier q s false a b = refl

pub first_open : (q : Asking) (s : Subnet) (new : Bool) (n : ℕ) (pool : Pool) (found : ℕ) → n < length s.pools → pool ≡ get_or s.pools n pool → NoneIn q s new n
    → IsLeastGiven q s new pool (Some found) → IsFirstOf q s (pool_rank new) found
first_open q s new n pool found less is h least = record {
  ranked = ranked q s new found ∙ both (pooled q.names s found) (is_open q s new found) (pool_any q.names s.pools n found pool less at) (right (pool_gives q.names pool found) (is_open q s new found) least.2);
  first = λ b has_it. earlier q s new b found ∙ by b (left (pooled q.names s b) (is_open q s new b) (sym (ranked q s new b) ∙ has_it)) (right (pooled q.names s b) (is_open q s new b) (sym (ranked q s new b) ∙ has_it));
} where
  at : pool_gives q.names (get_or s.pools n pool) found ≡ true
  at = subst (λ (p : Pool). pool_gives q.names p found ≡ true) is (left (pool_gives q.names pool found) (is_open q s new found) least.2)

  place : n ≤ pool_place q.names s.pools found
  place = ⊎_elim (λ l. absurd (false≢true (sym (h found l) ∙ right (pool_gives q.names pool found) (is_open q s new found) least.2))) (λ m. m) (cases_lt (pool_place q.names s.pools found) n)

  no_earlier : (m n b found : ℕ) → n ≤ m → (m ≡ n → b < found → ⊥) → (nat_lt m n || (m == n && nat_lt b found)) ≡ false
  no_earlier m n b found le other = grind (arith, nat_tests)

  by : (b : ℕ) → pooled q.names s b ≡ true → is_open q s new b ≡ true → is_earlier q.names s.pools b found ≡ false
  by b within opened =
      let most : pool_place q.names s.pools found ≤ n = pool_least q.names s.pools n found pool less at in
      let same : pool_place q.names s.pools found ≡ n = omega (arith, place) in
      no_earlier (pool_place q.names s.pools b) (pool_place q.names s.pools found) b found
      (⊎_elim (λ l. absurd (false≢true (sym (h b l) ∙ opened))) (λ m. let k : pool_place q.names s.pools found ≤ pool_place q.names s.pools b = omega arith in k) (cases_lt (pool_place q.names s.pools b) n))
      (λ e lower.
      let there : pool_place q.names s.pools b ≡ n = e ∙ same in
      let here : pool_gives q.names (get_or s.pools n pool) b ≡ true = subst (λ (k : ℕ). pool_gives q.names (get_or s.pools k pool) b ≡ true) there (pool_at q.names s.pools b pool (pool_within q.names s.pools b within)) in
      let given : pool_gives q.names pool b ≡ true = subst (λ (p : Pool). pool_gives q.names p b ≡ true) (sym is) here in
      let bounds = inside q.names pool b given in
      false≢true (sym (not_both (pool_gives q.names pool b) (is_open q s new b) given (least.3 b bounds.0 lower)) ∙ opened))

pub no_open : (q : Asking) (s : Subnet) (new : Bool) (n : ℕ) → length s.pools ≤ n → NoneIn q s new n → IsRanked q s (pool_rank new) None
no_open q s new n all h b = ranked q s new b ∙ by (pooled q.names s b) refl where
  by : (t : Bool) → pooled q.names s b ≡ t → (t && is_open q s new b) ≡ false
  by true e = h b (let l : pool_place q.names s.pools b < length s.pools = pool_within q.names s.pools b e in omega arith)
  by false e = refl
