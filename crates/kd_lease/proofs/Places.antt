-- Where no subnet names a relay, prefixes count alone.
use Rattle.std.proofs.Common.{◌≡◌, ℕ, Bool, true, false, not, ◌&&◌, ◌||◌, ◌==◌, List, [], ◌∷◌, ◌-◌, Option, None, Some, is_none, is_some, option_map, if◌then◌else◌, slice_get, refl, ap, ◌∙◌}
use Rattle.std.specs.Option.{option_or}
use Rattle.std.specs.List.{AllByRecursion, find, list_any}
use Rattle.std.proofs.lemmas.Bool.{eq-eqb}
use Rattle.kd_config.specs.Address.{has_address}
use Rattle.kd_config.specs.Configuration.{Configuration}
use Rattle.kd_config.specs.Networks.{covers, home_of, is_part, networks_in, part_holding, value_or}
use Rattle.kd_config.specs.declared.subnet.Subnet.{Subnet}
use Rattle.kd_options.specs.Message.{Seen}
use Rattle.kd_lease.specs.Choice.{Asking, fitting_for}
use Rattle.kd_lease.specs.Client.{selected_link}
use Rattle.kd_lease.specs.Kept.{renews_lease, subnet_keeping}
use Rattle.kd_lease.specs.Rules.{kept_subnet, lasting_for, may_last, serving_subnet}
use Rattle.kd_config.specs.Classed.{classes_admit}
use Rattle.kd_lease.specs.Client.{address_or}
use Rattle.kd_lease.specs.SubnetOf.{first_serving, has_relay, header_place, is_by_relay, link_of, message_place, served_by, subnet_serving}

-- no subnet has a relay
none_has : (subnets : List Subnet) (a : ℕ) (names : List (List ℕ)) → AllByRecursion (λ s. s.relays ≡ []) subnets
    → list_any (served_by true a names) subnets ≡ false
none_has [] a names none = refl
none_has (s ∷ subnets) a names none =
    let here : has_relay a s ≡ false = ap (list_any (λ relay. relay == a)) none.0 in
    rw here (none_has subnets a names none.1)

off : (t u : Bool) → u ≡ false → (t && u) ≡ false
off true u e = e
off false u e = refl

pub served_by_prefix : (config : Configuration) (names : List (List ℕ)) (m : Seen) → AllByRecursion (λ s. s.relays ≡ []) config.subnets
    → subnet_serving config names m
    ≡ option_map (home_of config.subnets) (find (λ s. has_address s.prefix (message_place config m) && classes_admit s.classes names) config.subnets)
unfolding subnet_serving
served_by_prefix config names m none =
    let by_prefix : is_by_relay config names m ≡ false =
    off (is_none (link_of config m)) (not (m.header.giaddr == 0) && list_any (served_by true m.header.giaddr names) config.subnets)
    (off (not (m.header.giaddr == 0)) (list_any (served_by true m.header.giaddr names) config.subnets) (none_has config.subnets m.header.giaddr names none)) in
    ap (λ b. option_map (home_of config.subnets) (find (served_by b (message_place config m) names) config.subnets)) by_prefix

-- ---- where no subnet is in a shared network

at_home : (subnets : List Subnet) (s : Subnet) → s.network ≡ 0 → home_of subnets s ≡ s
at_home subnets s none =
    ap (λ (b : Bool). value_or (if b then None else slice_get (networks_in subnets) (s.network - 1)) s)
    (eq-eqb s.network 0 none)

all_at_home : (subnets : List Subnet) (test : Subnet → Bool) (xs : List Subnet) → AllByRecursion (λ s. s.network ≡ 0) xs
    → option_map (home_of subnets) (find test xs) ≡ find test xs
all_at_home subnets test [] none = refl
all_at_home subnets test (x ∷ xs) none = by (test x) (all_at_home subnets test xs none.1) where
  by : (b : Bool) → option_map (home_of subnets) (find test xs) ≡ find test xs
      → option_map (home_of subnets) (if b then Some x else find test xs) ≡ (if b then Some x else find test xs)
  by true rest = ap Some (at_home subnets x none.0)
  by false rest = rest

pub served_alone : (config : Configuration) (names : List (List ℕ)) (m : Seen) → AllByRecursion (λ s. s.network ≡ 0) config.subnets
    → subnet_serving config names m ≡ first_serving config names m
unfolding subnet_serving
served_alone config names m none =
    all_at_home config.subnets (served_by (is_by_relay config names m) (message_place config m) names) config.subnets none

pub standing_alone : (subnets : List Subnet) (s : Subnet) (a : ℕ) → s.network ≡ 0
    → (covers subnets s a ≡ has_address s.prefix a) × (part_holding subnets s a ≡ s)
standing_alone subnets s a none =
    let here = eq-eqb s.network 0 none in (
      ap (λ (b : Bool). if b then has_address s.prefix a else list_any (is_part s.network a) subnets) here,
      ap (λ (b : Bool). if b then s else value_or (find (is_part s.network a) subnets) s) here,
    )

-- ---- where relays select no links, and clients keep no leases

pub placed_by_header : (config : Configuration) (m : Seen) → (config.extensions.selects_links && not (m.header.giaddr == 0)) ≡ false
    → (link_of config m ≡ None) × (message_place config m ≡ header_place config.server m.header)
placed_by_header config m none =
    let here : link_of config m ≡ None = ap (λ (b : Bool). if b then selected_link m else None) none in
    (here, ap (λ (o : Option ℕ). address_or o (header_place config.server m.header)) here)

pub renewed_by_class : (q : Asking) → q.config.extensions.keeps_leases ≡ false
    → (serving_subnet q ≡ subnet_serving q.config q.names q.message) × ((s : Subnet) (a : ℕ) → lasting_for q s a ≡ fitting_for q s a)
renewed_by_class q none =
    let kept : kept_subnet q ≡ None =
    ap (λ (b : Bool). if b && renews_lease q.rows q.message q.now q.client then subnet_keeping q.config.subnets q.message.header.ciaddr else None) none in (
      ap (λ (o : Option Subnet). option_or o (subnet_serving q.config q.names q.message)) kept,
      λ s a. ap (λ (o : Option Subnet). fitting_for q s a || (is_some o && may_last q.config q.message s a)) kept ∙ or_false (fitting_for q s a),
    ) where
      or_false : (b : Bool) → (b || false) ≡ b
      or_false true = refl
      or_false false = refl
