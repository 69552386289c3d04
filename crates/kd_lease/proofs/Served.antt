-- What holds of each subnet of a configuration, and so of each shared network, holds of the one in which
-- a message is served, and of the part of it that has an address.
use Rattle.std.proofs.Common.{ℕ, zero, suc, ◌+◌, ◌-◌, Bool, true, false, ◌&&◌, ◌==◌, List, [], ◌∷◌, ◌++◌, Option, None, Some, if◌then◌else◌, map, slice_get}
use Rattle.std.specs.Prelude.{IfSome, option_map}
use Rattle.std.specs.Option.{option_or}
use Rattle.std.specs.List.{AllByRecursion, find, flat_map, range_with_len}
use Rattle.kd_config.specs.Configuration.{Configuration}
use Rattle.kd_config.specs.Networks.{home_of, is_part, network_at, network_count, network_of, networks_in, part_holding, value_or}
use Rattle.kd_config.specs.declared.subnet.Subnet.{Subnet}
use Rattle.kd_options.specs.Message.{Seen}
use Rattle.kd_lease.specs.Choice.{Asking}
use Rattle.kd_lease.specs.Kept.{has_to_keep, renews_lease, subnet_keeping}
use Rattle.kd_lease.specs.Rules.{kept_subnet, serving_subnet}
use Rattle.kd_lease.specs.SubnetOf.{first_serving, is_by_relay, message_place, served_by, subnet_serving}

-- ---- lists

-- what holds of all elements of two lists holds of all of both together
pub each-append : {A : Type 0} (P : A → Type 0) (xs ys : List A) → AllByRecursion P xs → AllByRecursion P ys → AllByRecursion P (xs ++ ys)
each-append P [] ys first last = last
each-append P (x ∷ xs) ys first last = (first.0, each-append P xs ys first.1 last)

-- what holds of all elements holds of the one that is found, if there is one
pub find-each : {A : Type 0} (P : A → Type 0) (test : A → Bool) (xs : List A) → AllByRecursion P xs → IfSome (find test xs) P
find-each P test [] each = tt
find-each P test (x ∷ xs) each = by (test x) (find-each P test xs each.1) where
  by : (b : Bool) → IfSome (find test xs) P → IfSome (if b then Some x else find test xs) P
  by true rest = each.0
  by false rest = rest

-- and of the one at an index
get-each : {A : Type 0} (P : A → Type 0) (xs : List A) (i : ℕ) → AllByRecursion P xs → IfSome (slice_get xs i) P
get-each P [] i each = tt
get-each P (x ∷ xs) zero each = each.0
get-each P (x ∷ xs) (suc i) each = get-each P xs i each.1

-- and of all that they are mapped to, if it does for each
pub map-each : {A B : Type 0} (P : A → Type 0) (Q : B → Type 0) (f : A → B) → ((x : A) → P x → Q (f x)) → (xs : List A) → AllByRecursion P xs → AllByRecursion Q (map f xs)
map-each P Q f step [] each = tt
map-each P Q f step (x ∷ xs) each = (step x each.0, map-each P Q f step xs each.1)

range-each : {B : Type 0} (Q : B → Type 0) (f : ℕ → B) → ((n : ℕ) → Q (f n)) → (a n : ℕ) → AllByRecursion Q (map f (range_with_len a n))
range-each Q f step a zero = tt
range-each Q f step a (suc n) = (step a, range-each Q f step (a + 1) n)

pub flat-each : {A B : Type 0} (P : A → Type 0) (Q : B → Type 0) (f : A → List B) → ((x : A) → P x → AllByRecursion Q (f x)) → (xs : List A) → AllByRecursion P xs → AllByRecursion Q (flat_map f xs)
flat-each P Q f step [] each = tt
flat-each P Q f step (x ∷ xs) each = each-append Q (f x) (flat_map f xs) (step x each.0) (flat-each P Q f step xs each.1)

-- ---- what holds of each subnet, and so of each network, holds of those in which messages are served

module _ (P : Subnet → Type 0) (joins : (subnets : List Subnet) → AllByRecursion P subnets → (n : ℕ) → P (network_of subnets n)) where
  at_network : (subnets : List Subnet) → AllByRecursion P subnets → (n : ℕ) → IfSome (network_at subnets n) P
  at_network subnets each n = by (n == 0) where
    by : (b : Bool) → IfSome (if b then None else slice_get (networks_in subnets) (n - 1)) P
    by true = tt
    by false = get-each P (networks_in subnets) (n - 1) (range-each P (λ i. network_of subnets (i + 1)) (λ i. joins subnets each (i + 1)) 0 (network_count subnets))

  or_else : (found : Option Subnet) (s : Subnet) → IfSome found P → P s → P (value_or found s)
  or_else None s there is = is
  or_else (Some t) s there is = there

  -- the subnet in which a client of one of them is served
  at_home : (subnets : List Subnet) → AllByRecursion P subnets → (s : Subnet) → P s → P (home_of subnets s)
  at_home subnets each s is = or_else (network_at subnets s.network) s (at_network subnets each s.network) is

  -- the part of it that has an address
  pub at_part : (subnets : List Subnet) → AllByRecursion P subnets → (s : Subnet) (a : ℕ) → P s → P (part_holding subnets s a)
  at_part subnets each s a is = by (s.network == 0) where
    by : (b : Bool) → P (if b then s else value_or (find (is_part s.network a) subnets) s)
    by true = is
    by false = or_else (find (is_part s.network a) subnets) s (find-each P (is_part s.network a) subnets each) is

  at_homes : (subnets : List Subnet) → AllByRecursion P subnets → (found : Option Subnet) → IfSome found P → IfSome (option_map (home_of subnets) found) P
  at_homes subnets each None there = tt
  at_homes subnets each (Some s) there = at_home subnets each s there

  -- the subnet in which a message is served by its place
  at_place : (config : Configuration) (names : List (List ℕ)) (m : Seen) → AllByRecursion P config.subnets → IfSome (subnet_serving config names m) P
  unfolding subnet_serving
  at_place config names m each =
      at_homes config.subnets each (first_serving config names m)
      (find-each P (served_by (is_by_relay config names m) (message_place config m) names) config.subnets each)

  -- the subnet in which its client keeps a lease
  at_kept : (q : Asking) → AllByRecursion P q.config.subnets → IfSome (kept_subnet q) P
  at_kept q each = by (q.config.extensions.keeps_leases && renews_lease q.rows q.message q.now q.client) where
    a : ℕ
    a = q.message.header.ciaddr

    by : (b : Bool) → IfSome (if b then subnet_keeping q.config.subnets a else None) P
    by true = at_homes q.config.subnets each (find (has_to_keep a) q.config.subnets) (find-each P (has_to_keep a) q.config.subnets each)
    by false = tt

  at_either : (kept other : Option Subnet) → IfSome kept P → IfSome other P → IfSome (option_or kept other) P
  at_either None other here there = there
  at_either (Some s) other here there = here

  -- the subnet in which a message is served
  pub at_serving : (q : Asking) → AllByRecursion P q.config.subnets → IfSome (serving_subnet q) P
  at_serving q each = at_either (kept_subnet q) (subnet_serving q.config q.names q.message) (at_kept q each) (at_place q.config q.names q.message each)
