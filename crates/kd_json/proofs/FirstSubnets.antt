-- The first subnet that breaks a rule, and the value that breaks it.
use Rattle.std.proofs.Common.{◌≡◌, ℕ, zero, suc, ◌+◌, ◌-◌, ◌<◌, ◌≤◌, Bool, true, false, not, ◌&&◌, ◌==◌, if◌then◌else◌, nat_le, List, [], ◌∷◌, ◌++◌, length, get_or, take, drop, codes, slice_get, Some, None, ap, sym, refl, subst, ◌∙◌, arith, append-nil, append_assoc, inl, inr}
use Rattle.std.proofs.lemmas.Bool.{false≢true, le-leb, leb-true, leb-false}
use Rattle.std.proofs.lemmas.Grind.{flat_map-append}
use Rattle.std.proofs.lemmas.List.{length-append, map-append, take-append-drop, take-append-le, take-take, take_all, take_at, take_more}
use Rattle.std.proofs.lemmas.List.Folds.{list_any-append}
use Rattle.std.proofs.lemmas.Option.{slice_get_read}
use Rattle.std.specs.Fmt.{decimal}
use Rattle.std.specs.List.{list_all, list_any}
use Rattle.kd_config.proofs.Tests.{both_passed, not_and, or_false, some_is}
use Rattle.kd_json.proofs.FirstFaults.{cut_at_place, one_more_at}
use Rattle.kd_json.proofs.Shared.{must_failed, must_passed, one_more}
use Rattle.kd_config.specs.Apart.{lie_apart, share_one}
use Rattle.kd_json.specs.FirstFault.{PoolFails, ReservationFails, SubnetFails, SubnetsFail, all_reserved, in_network, subnet_path, subnets_path, with_pools, with_reservations}
use Rattle.kd_fields.specs.Place.{path_below}
use Rattle.kd_json.specs.Parts.{lie_and_fit, obey_within, obeys_within}
use Rattle.kd_config.specs.Rules.{all_obey, lies_within, may_all_reserve, may_stand, obeys, pool_ranges, ranges_in, reserved}
use Rattle.kd_fields.specs.Steps.{must}
use Rattle.kd_json.specs.declared.fault.ConfigFault.{ConfigFault}
use Rattle.kd_config.specs.declared.pool.Pool.{Pool}
use Rattle.kd_config.specs.declared.prefix.Prefix.{Prefix}
use Rattle.kd_config.specs.declared.range.Range.{Range}
use Rattle.kd_config.specs.declared.reservation.Reservation.{Reservation}
use Rattle.kd_config.specs.declared.subnet.Subnet.{Subnet}

-- the first value that fails a test also fails any other test that agrees with it on the prefixes
pools_as : (f g : List Pool → Bool) (path : List ℕ) (prefix : Prefix) (pools : List Pool)
    (fault : ConfigFault) → ((n : ℕ) → f (take n pools) ≡ g (take n pools))
    → PoolFails f path prefix pools fault → PoolFails g path prefix pools fault
pools_as f g path prefix pools fault same h = record {
  place = h.place;
  pool = h.pool;
  first = record {
    value_at = h.first.value_at;
    before = sym (same h.place) ∙ h.first.before;
    with_it = sym (same (h.place + 1)) ∙ h.first.with_it;
  };
  number = h.number;
  named = h.named;
}

reservations_as : (f g : List Reservation → Bool) (path earlier : List ℕ) (prefix : Prefix)
    (rs : List Reservation) (fault : ConfigFault) → ((n : ℕ) → f (take n rs) ≡ g (take n rs))
    → ReservationFails f path earlier prefix rs fault
    → ReservationFails g path earlier prefix rs fault
reservations_as f g path earlier prefix rs fault same h = record {
  place = h.place;
  reservation = h.reservation;
  first = record {
    value_at = h.first.value_at;
    before = sym (same h.place) ∙ h.first.before;
    with_it = sym (same (h.place + 1)) ∙ h.first.with_it;
  };
  number = h.number;
  named = h.named;
}

subnet_as : (f g : Subnet → Bool) (path earlier : List ℕ) (s : Subnet) (fault : ConfigFault)
    → ((n : ℕ) → f (with_pools s (take n s.pools)) ≡ g (with_pools s (take n s.pools)))
    → ((n : ℕ) → f (with_reservations s (take n s.reservations))
    ≡ g (with_reservations s (take n s.reservations)))
    → SubnetFails f path earlier s fault → SubnetFails g path earlier s fault
subnet_as f g path earlier s fault pools rs (inl h) =
    inl (pools_as (λ x. f (with_pools s x)) (λ x. g (with_pools s x))
    (path_below path (codes "pools")) s.prefix s.pools fault pools h)
subnet_as f g path earlier s fault pools rs (inr h) =
    inr (reservations_as (λ x. f (with_reservations s x)) (λ x. g (with_reservations s x))
    (path_below path (codes "reservations")) earlier s.prefix s.reservations fault rs h)

and_one : (b : Bool) → (b && true) ≡ b
and_one true = refl
and_one false = refl

-- a subnet fails by its pools
pub by_pools : (apart : ℕ) (path earlier : List ℕ) (s : Subnet) (pools : List Pool)
    (fault : ConfigFault) → pools ≡ s.pools
    → PoolFails (lie_and_fit s.prefix apart) (path_below path (codes "pools")) s.prefix pools fault
    → SubnetFails (obeys_within apart earlier) path earlier s fault
unfolding obeys
by_pools apart path earlier s pools fault is failed =
    let at = path_below path (codes "pools") in
    let h = subst (λ (x : List Pool). PoolFails (lie_and_fit s.prefix apart) at s.prefix x fault) is
    failed in
    inl (pools_as (lie_and_fit s.prefix apart) (λ x. obeys_within apart earlier (with_pools s x)) at
    s.prefix s.pools fault
    (λ n. ap (λ (b : Bool). nat_le (length (take n s.pools)) apart && b)
    (sym (and_one (list_all (lies_within s.prefix) (take n s.pools))))) h)

-- a subnet fails by its reservations
pub by_reservations : (apart : ℕ) (path earlier : List ℕ) (s : Subnet) (pools : List Pool)
    (list : List Reservation) (fault : ConfigFault) → pools ≡ s.pools → list ≡ s.reservations
    → must (lie_and_fit s.prefix apart pools) ≡ Some tt
    → ReservationFails (may_all_reserve s.prefix earlier []) (path_below path (codes "reservations"))
    earlier s.prefix list fault
    → SubnetFails (obeys_within apart earlier) path earlier s fault
unfolding obeys
by_reservations apart path earlier s pools list fault pools_are list_is fits failed =
    let fit = ap (λ (x : List Pool). must (lie_and_fit s.prefix apart x)) (sym pools_are) ∙ fits in
    let at = path_below path (codes "reservations") in
    let h = subst (λ (x : List Reservation). ReservationFails (may_all_reserve s.prefix earlier [])
    at earlier s.prefix x fault) list_is failed in
    let inside = list_all (lies_within s.prefix) s.pools in
    let both = both_passed (nat_le (length s.pools) apart) inside
    (must_passed (lie_and_fit s.prefix apart s.pools) fit) in
    inr (reservations_as (may_all_reserve s.prefix earlier [])
    (λ x. obeys_within apart earlier (with_reservations s x)) at earlier s.prefix s.reservations fault
    (λ n. let free = may_all_reserve s.prefix earlier [] (take n s.reservations) in
    sym (ap (λ (b : Bool). b && (inside && free)) both.0 ∙ ap (λ (b : Bool). b && free) both.1)) h)

-- the first subnets have obeyed; those after them decide
abbrev pub AllDecide : ℕ → List Subnet → ℕ → List ℕ → Type 0
AllDecide apart front left earlier =
    (more : List Subnet) → obey_within apart [] (front ++ more) ≡ obey_within left earlier more

-- if a subnet passed, the rest decides
pub subnet_passed : (apart left i : ℕ) (earlier : List ℕ) (subnets : List Subnet) (s : Subnet)
    → i < length subnets → s ≡ get_or subnets i s → AllDecide apart (take i subnets) left earlier
    → must (obeys_within left earlier s) ≡ Some tt
    → AllDecide apart (take (i + 1) subnets) (left - length s.pools)
    (earlier ++ reserved s.reservations)
subnet_passed apart left i earlier subnets s below is decide e more =
    ap (obey_within apart []) (one_more_at subnets i s more below is)
    ∙ (decide (s ∷ more)
    ∙ (one_more left earlier s more
    ∙ ap (λ (b : Bool). b && obey_within (left - length s.pools) (earlier ++ reserved s.reservations)
    more) (must_passed (obeys_within left earlier s) e)))

-- if a subnet failed, not all obey
pub not_all_obey : (apart left i : ℕ) (earlier : List ℕ) (subnets : List Subnet) (s : Subnet)
    → i < length subnets → s ≡ get_or subnets i s → AllDecide apart (take i subnets) left earlier
    → must (obeys_within left earlier s) ≡ None → must (obey_within apart [] subnets) ≡ None
not_all_obey apart left i earlier subnets s below is decide e =
    let rest = drop (i + 1) subnets in
    ap must (ap (obey_within apart []) (sym (cut_at_place subnets i s below is))
    ∙ (decide (s ∷ rest)
    ∙ (one_more left earlier s rest
    ∙ ap (λ (b : Bool). b && obey_within (left - length s.pools) (earlier ++ reserved s.reservations)
    rest) (must_failed (obeys_within left earlier s) e))))

-- all obey
pub all_obeyed : (apart left i : ℕ) (earlier : List ℕ) (subnets : List Subnet)
    → length subnets ≤ i → AllDecide apart (take i subnets) left earlier
    → must (obey_within apart [] subnets) ≡ Some tt
all_obeyed apart left i earlier subnets all decide =
    ap must (ap (obey_within apart []) (sym (take_all i subnets all)
    ∙ sym (append-nil (take i subnets)))
    ∙ (decide [] ∙ ap (λ (b : Bool). b && true) (le-leb 0 left (omega arith))))

-- the reserved addresses with one subnet more
pub more_joined : (i : ℕ) (earlier : List ℕ) (subnets : List Subnet) (s : Subnet)
    → i < length subnets → s ≡ get_or subnets i s → earlier ≡ all_reserved (take i subnets)
    → earlier ++ reserved s.reservations ≡ all_reserved (take (i + 1) subnets)
more_joined i earlier subnets s below is joined =
    let front = take i subnets in
    let whole : take (i + 1) subnets ≡ front ++ s ∷ []
    = take_more subnets i s below ∙ ap (λ (x : Subnet). front ++ x ∷ []) (sym is) in
    ap (λ (e : List ℕ). e ++ reserved s.reservations) joined
    ∙ (ap (λ (e : List ℕ). all_reserved front ++ e) (sym (append-nil (reserved s.reservations)))
    ∙ (sym (flat_map-append (λ (x : Subnet). reserved x.reservations) front (s ∷ []))
    ∙ ap all_reserved (sym whole)))

-- one subnet after the first ones
one_last : (apart left : ℕ) (earlier : List ℕ) (front : List Subnet) (s : Subnet)
    → AllDecide apart front left earlier
    → obeys_within left earlier s ≡ obey_within apart [] (front ++ s ∷ [])
one_last apart left earlier front s decide =
    let n = left - length s.pools in
    sym (decide (s ∷ [])
    ∙ (one_more left earlier s []
    ∙ (ap (λ (b : Bool). obeys_within left earlier s && (b && true)) (le-leb 0 n (omega arith))
    ∙ and_one (obeys_within left earlier s))))

-- the path of the object that has the subnets of a network
abbrev pub owner_path : ℕ → List ℕ
owner_path number =
    if number == 0 then codes "/Dhcp4"
    else path_below (codes "/Dhcp4/shared-networks") (decimal (number - 1))

-- the path of a subnet below the object that has it
pub path_of_subnet : (earlier : List Subnet) (s : Subnet) (owner : List ℕ) (before : ℕ)
    → owner ≡ owner_path s.network → before ≡ in_network s.network earlier
    → path_below (path_below owner (codes "subnet4")) (decimal before) ≡ subnet_path earlier s
path_of_subnet earlier s owner before owned counted =
    ap (λ (n : ℕ). path_below (path_below owner (codes "subnet4")) (decimal n)) counted
    ∙ (ap (λ (path : List ℕ). path_below (path_below path (codes "subnet4"))
    (decimal (in_network s.network earlier))) owned
    ∙ ap (λ (path : List ℕ). path_below path (decimal (in_network s.network earlier)))
    (by (s.network == 0) refl)) where
      by : (b : Bool) → (s.network == 0) ≡ b
          → path_below (owner_path s.network) (codes "subnet4") ≡ subnets_path s.network
      by true e = rw e refl
      by false e = rw e refl

-- the subnet that failed is the first
pub subnet_failed : (apart left i : ℕ) (at earlier : List ℕ) (subnets : List Subnet)
    (s : Subnet) (fault : ConfigFault) → i < length subnets → s ≡ get_or subnets i s
    → AllDecide apart (take i subnets) left earlier → earlier ≡ all_reserved (take i subnets)
    → at ≡ subnet_path (take i subnets) s
    → SubnetFails (obeys_within left earlier) at earlier s fault
    → SubnetsFail (obey_within apart []) subnets fault
subnet_failed apart left i at earlier subnets s fault below is decide joined placed h =
    let last = λ (x : Subnet). one_last apart left earlier (take i subnets) x decide in
    record {
      place = i;
      subnet = s;
      subnet_at = slice_get_read subnets (length subnets) i s refl below is;
      value = subst
          (λ (path : List ℕ). SubnetFails (λ x. obey_within apart [] (take i subnets ++ x ∷ []))
          path (all_reserved (take i subnets)) s fault) placed
          (subst
          (λ (e : List ℕ). SubnetFails (λ x. obey_within apart [] (take i subnets ++ x ∷ [])) at e s
          fault) joined
          (subnet_as (obeys_within left earlier)
          (λ x. obey_within apart [] (take i subnets ++ x ∷ [])) at earlier s fault
          (λ n. last (with_pools s (take n s.pools)))
          (λ n. last (with_reservations s (take n s.reservations))) h));
    }

-- a prefix of ranges that are apart is apart
front_apart : (xs ys : List Range) → lie_apart (xs ++ ys) ≡ true → lie_apart xs ≡ true
front_apart [] ys e = refl
front_apart (x ∷ xs) ys e =
    let h = not_and (list_any (share_one x) (xs ++ ys)) (lie_apart (xs ++ ys)) e in
    let none = or_false (list_any (share_one x) xs) (list_any (share_one x) ys)
    (sym (list_any-append (share_one x) xs ys) ∙ h.0) in
    ap (λ (b : Bool). not b && lie_apart xs) none.0 ∙ front_apart xs ys h.1

taken_apart : (n : ℕ) (rs : List Range) → lie_apart rs ≡ true → lie_apart (take n rs) ≡ true
taken_apart n rs e =
    front_apart (take n rs) (drop n rs) (ap lie_apart (take-append-drop n rs) ∙ e)

-- how many ranges are apart: the length of the longest such prefix
pub record AreApart (apart : ℕ) (ranges : List Range) : Type 0 where
  pub front : lie_apart (take apart ranges) ≡ true
  pub more : apart < length ranges → lie_apart (take (apart + 1) ranges) ≡ false

-- a prefix is apart if and only if it is no longer than that
as_many_apart : (apart : ℕ) (xs ys : List Range) → AreApart apart (xs ++ ys)
    → nat_le (length xs) apart ≡ lie_apart xs
as_many_apart apart xs ys h = by (nat_le (length xs) apart) refl where
  by : (b : Bool) → nat_le (length xs) apart ≡ b → b ≡ lie_apart xs
  by true e =
      let few : length xs ≤ apart = leb-true (length xs) apart e in
      sym (ap lie_apart (sym (take-take (length xs) apart (xs ++ ys) few
      ∙ take_at xs ys (length xs) refl))
      ∙ taken_apart (length xs) (take apart (xs ++ ys)) h.front)
  by false e =
      let many : apart < length xs = leb-false (length xs) apart e in
      shared (lie_apart xs) refl (ap lie_apart (sym (take-append-le (apart + 1) xs ys (omega arith)))
      ∙ h.more (omega (arith, many, length-append xs ys))) where
        shared : (b : Bool) → lie_apart xs ≡ b → lie_apart (take (apart + 1) xs) ≡ false → false ≡ b
        shared false k f = refl
        shared true k f = absurd (false≢true (sym f ∙ taken_apart (apart + 1) xs k))

pool_ranges_append : (xs ys : List Subnet)
    → pool_ranges (xs ++ ys) ≡ pool_ranges xs ++ pool_ranges ys
pool_ranges_append [] ys = refl
pool_ranges_append (x ∷ xs) ys =
    ap (λ (rs : List Range). ranges_in x.pools ++ rs) (pool_ranges_append xs ys)
    ∙ sym (append_assoc (ranges_in x.pools) (pool_ranges xs) (pool_ranges ys))

regrouped : (a b c d : List Range) → (a ++ (b ++ [])) ++ (c ++ d) ≡ a ++ ((b ++ c) ++ d)
regrouped a b c d =
    ap (λ (x : List Range). (a ++ x) ++ (c ++ d)) (append-nil b)
    ∙ (append_assoc a b (c ++ d) ∙ ap (λ (x : List Range). a ++ x) (sym (append_assoc b c d)))

-- the values before a place, the one at it, and those after it
split_by : {A : Type 0} (xs : List A) (i : ℕ) (x : A) → slice_get xs i ≡ Some x
    → (rest : List A) × (take i xs ++ x ∷ rest ≡ xs)
split_by [] i x e = absurd (cc)
split_by {A} (y ∷ xs) zero x e = (xs, ap (λ (z : A). z ∷ xs) (sym (some_is y x e)))
split_by {A} (y ∷ xs) (suc i) x e =
    let more = split_by xs i x e in (more.0, ap (λ (zs : List A). y ∷ zs) more.1)

-- the first subnets and a last one, with pools of the next subnet, are accepted together if and
-- only if they obey the rules
stands_as : (apart i : ℕ) (subnets : List Subnet) (s t : Subnet) (rest : List Range)
    → AreApart apart (pool_ranges subnets) → slice_get subnets i ≡ Some s
    → ranges_in t.pools ++ rest ≡ ranges_in s.pools
    → obey_within apart [] (take i subnets ++ t ∷ []) ≡ may_stand (take i subnets ++ t ∷ [])
unfolding may_stand
stands_as apart i subnets s t rest h at parts =
    let front = take i subnets in
    let split = split_by subnets i s at in
    let some = pool_ranges (front ++ t ∷ []) in
    let others = rest ++ pool_ranges split.0 in
    let whole : some ++ others ≡ pool_ranges subnets
    = ap (λ (x : List Range). x ++ others) (pool_ranges_append front (t ∷ []))
    ∙ (regrouped (pool_ranges front) (ranges_in t.pools) rest (pool_ranges split.0)
    ∙ (ap (λ (x : List Range). pool_ranges front ++ (x ++ pool_ranges split.0)) parts
    ∙ (sym (pool_ranges_append front (s ∷ split.0)) ∙ ap pool_ranges split.1))) in
    ap (λ (b : Bool). b && all_obey [] (front ++ t ∷ []))
    (as_many_apart apart some others (subst (AreApart apart) (sym whole) h))

-- the first subnet that does not obey the rules is the first that is not accepted
pub may_not_stand : (apart : ℕ) (subnets : List Subnet) (fault : ConfigFault)
    → AreApart apart (pool_ranges subnets) → SubnetsFail (obey_within apart []) subnets fault
    → SubnetsFail may_stand subnets fault
may_not_stand apart subnets fault apart_is h =
    let s = h.subnet in
    let front = take h.place subnets in
    record {
      place = h.place;
      subnet = s;
      subnet_at = h.subnet_at;
      value = subnet_as (λ x. obey_within apart [] (front ++ x ∷ []))
          (λ x. may_stand (front ++ x ∷ [])) (subnet_path front s)
          (all_reserved front) s fault
          (λ n. stands_as apart h.place subnets s (with_pools s (take n s.pools))
          (ranges_in (drop n s.pools)) apart_is h.subnet_at
          (sym (map-append (λ (p : Pool). p.range) (take n s.pools) (drop n s.pools))
          ∙ ap ranges_in (take-append-drop n s.pools)))
          (λ n. stands_as apart h.place subnets s
          (with_reservations s (take n s.reservations)) [] apart_is h.subnet_at
          (append-nil (ranges_in s.pools))) h.value;
    }
