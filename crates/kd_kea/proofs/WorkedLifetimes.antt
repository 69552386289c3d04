-- Worked examples: how long leases last by class and place, and which times a server sends, as a Kea
-- 2.2.0 answered.
use Rattle.std.proofs.Common.{◌≡◌, ℕ, Bool, true, false, List, codes, Option, Some, None, refl}
use Rattle.std.specs.Prelude.{is_some, option_map}
use Rattle.std.specs.Float.{round_with}
use Rattle.std.specs.Float.Ieee.{lt, mul, of_bits, of_int, to_unsigned}
use Rattle.std.specs.Fmt.{digits}
use Rattle.std.specs.Str.{chars, is_utf8}
use Rattle.serde_json.proofs.OnLiterals.{serde_json_on_literals}
use Rattle.serde_json.specs.Data.{Data}
use Rattle.kd_classes.specs.Boot.{no_boot}
use Rattle.kd_classes.specs.declared.lifetime.Lifetime.{Lifetime}
use Rattle.kd_config.specs.Term.{rebind_sent, renew_sent}
use Rattle.kd_fields.specs.Text.{value_spelled}
use Rattle.kd_fields.specs.Values.{number_within}
use Rattle.kd_keys.specs.HostKinds.{kinds_given}
use Rattle.kd_kea.specs.Lifetimes.{own_lifetime, has_class_lifetime, kea_keys, keys_given, lifetime_of, term_of, term_unless_alike, usual_keys}
use Rattle.kd_kea.specs.Times.{kea_times}
use Rattle.kd_kea.specs.declared.objects.lifetimes.TermKeys.{TermKeys}
use Rattle.kd_wire.specs.Steps.{◌>>=◌}

-- ---- classes

abbrev of_class : List ℕ → Option (Option Lifetime)
of_class text = value_spelled text >>= own_lifetime

abbrev lasting : ℕ → ℕ → ℕ → Lifetime
lasting least usual most = record { least = least; usual = usual; most = most }

class_without : of_class (codes "{\"name\": \"a\"}") ≡ Some None
unfolding serde_json_on_literals chars digits is_utf8 value_spelled number_within own_lifetime
class_without = refl

class_usual : of_class (codes "{\"valid-lifetime\": 600}") ≡ Some (Some (lasting 600 600 600))
unfolding serde_json_on_literals chars digits is_utf8 value_spelled number_within own_lifetime
class_usual = refl

class_least : of_class (codes "{\"min-valid-lifetime\": 300}") ≡ Some (Some (lasting 300 300 300))
unfolding serde_json_on_literals chars digits is_utf8 value_spelled number_within own_lifetime
class_least = refl

class_most : of_class (codes "{\"max-valid-lifetime\": 3600}") ≡ Some (Some (lasting 3600 3600 3600))
unfolding serde_json_on_literals chars digits is_utf8 value_spelled number_within own_lifetime
class_most = refl

class_bounds : of_class (codes "{\"min-valid-lifetime\": 300, \"max-valid-lifetime\": 900}") ≡ None
unfolding serde_json_on_literals chars digits is_utf8 value_spelled number_within own_lifetime
class_bounds = refl

class_from : of_class (codes "{\"valid-lifetime\": 600, \"min-valid-lifetime\": 300}") ≡ Some (Some (lasting 300 600 600))
unfolding serde_json_on_literals chars digits is_utf8 value_spelled number_within own_lifetime
class_from = refl

class_to : of_class (codes "{\"valid-lifetime\": 600, \"max-valid-lifetime\": 900}") ≡ Some (Some (lasting 600 600 900))
unfolding serde_json_on_literals chars digits is_utf8 value_spelled number_within own_lifetime
class_to = refl

class_below : of_class (codes "{\"valid-lifetime\": 600, \"min-valid-lifetime\": 700}") ≡ None
unfolding serde_json_on_literals chars digits is_utf8 value_spelled number_within own_lifetime
class_below = refl

-- ---- lifetimes by place

-- what the keys say in a subnet, by the texts of the whole server, of its network and of itself
abbrev keys_in_subnet : List ℕ → List ℕ → List ℕ → Option TermKeys
keys_in_subnet server network subnet = do
  above ← value_spelled server >>= kea_keys usual_keys
  within ← value_spelled network >>= kea_keys above
  value_spelled subnet >>= kea_keys within

abbrev lasts : List ℕ → List ℕ → List ℕ → Option Lifetime
lasts server network subnet = option_map lifetime_of (keys_in_subnet server network subnet)

nothing_given : lasts (codes "{}") (codes "{}") (codes "{}") ≡ Some (lasting 7200 7200 7200)
unfolding serde_json_on_literals chars digits is_utf8 value_spelled number_within keys_given kea_keys
nothing_given = refl

server_least : lasts (codes "{\"min-valid-lifetime\": 300}") (codes "{}") (codes "{}") ≡ Some (lasting 300 7200 7200)
unfolding serde_json_on_literals chars digits is_utf8 value_spelled number_within keys_given kea_keys
server_least = refl

server_most : lasts (codes "{\"max-valid-lifetime\": 3600}") (codes "{}") (codes "{\"valid-lifetime\": 600}") ≡ None
unfolding serde_json_on_literals chars digits is_utf8 value_spelled number_within keys_given kea_keys
server_most = refl

-- each key is inherited by itself
subnet_usual : lasts (codes "{\"valid-lifetime\": 4000, \"min-valid-lifetime\": 1000, \"max-valid-lifetime\": 8000}") (codes "{}") (codes "{\"valid-lifetime\": 2000}") ≡ Some (lasting 1000 2000 8000)
unfolding serde_json_on_literals chars digits is_utf8 value_spelled number_within keys_given kea_keys
subnet_usual = refl

subnet_below : lasts (codes "{\"valid-lifetime\": 4000, \"min-valid-lifetime\": 1000, \"max-valid-lifetime\": 8000}") (codes "{}") (codes "{\"valid-lifetime\": 600}") ≡ None
unfolding serde_json_on_literals chars digits is_utf8 value_spelled number_within keys_given kea_keys
subnet_below = refl

subnet_least : lasts (codes "{\"valid-lifetime\": 4000, \"min-valid-lifetime\": 1000, \"max-valid-lifetime\": 8000}") (codes "{}") (codes "{\"min-valid-lifetime\": 2000}") ≡ Some (lasting 2000 4000 8000)
unfolding serde_json_on_literals chars digits is_utf8 value_spelled number_within keys_given kea_keys
subnet_least = refl

subnet_least_above : lasts (codes "{\"valid-lifetime\": 4000, \"min-valid-lifetime\": 1000, \"max-valid-lifetime\": 8000}") (codes "{}") (codes "{\"min-valid-lifetime\": 5000}") ≡ None
unfolding serde_json_on_literals chars digits is_utf8 value_spelled number_within keys_given kea_keys
subnet_least_above = refl

network_and_subnet : lasts (codes "{\"valid-lifetime\": 4000}") (codes "{\"valid-lifetime\": 5000}") (codes "{\"min-valid-lifetime\": 2000}") ≡ Some (lasting 2000 5000 5000)
unfolding serde_json_on_literals chars digits is_utf8 value_spelled number_within keys_given kea_keys
network_and_subnet = refl

network_most : lasts (codes "{\"valid-lifetime\": 4000}") (codes "{\"min-valid-lifetime\": 500, \"max-valid-lifetime\": 9000}") (codes "{\"max-valid-lifetime\": 7000}") ≡ Some (lasting 500 4000 7000)
unfolding serde_json_on_literals chars digits is_utf8 value_spelled number_within keys_given kea_keys
network_most = refl

-- a network is right by itself, even if its subnet hides what it says
network_wrong : lasts (codes "{\"valid-lifetime\": 4000}") (codes "{\"min-valid-lifetime\": 5000}") (codes "{\"min-valid-lifetime\": 2000}") ≡ None
unfolding serde_json_on_literals chars digits is_utf8 value_spelled number_within keys_given kea_keys
network_wrong = refl

-- ---- T1 and T2 by place, of the usual lifetime

-- T1 and T2 if they are sent
abbrev sent_with : TermKeys → Option ℕ × Option ℕ
sent_with keys = (renew_sent (term_of keys) keys.usual, rebind_sent (term_of keys) keys.usual)

abbrev sent : List ℕ → List ℕ → List ℕ → Option (Option ℕ × Option ℕ)
sent server network subnet = option_map sent_with (keys_in_subnet server network subnet)

shorter_subnet : sent (codes "{\"valid-lifetime\": 1000, \"renew-timer\": 300, \"rebind-timer\": 600}") (codes "{}") (codes "{\"valid-lifetime\": 500}") ≡ Some (Some 300, None)
unfolding serde_json_on_literals chars digits is_utf8 value_spelled number_within keys_given kea_keys
shorter_subnet = refl

-- a timer of 0 hides the one above it
hidden_timer : sent (codes "{\"valid-lifetime\": 1000, \"renew-timer\": 300, \"rebind-timer\": 800}") (codes "{}") (codes "{\"renew-timer\": 0}") ≡ Some (None, Some 800)
unfolding serde_json_on_literals chars digits is_utf8 value_spelled number_within keys_given kea_keys
hidden_timer = refl

late_renewal : sent (codes "{\"valid-lifetime\": 1000, \"rebind-timer\": 500}") (codes "{}") (codes "{\"renew-timer\": 800}") ≡ None
unfolding serde_json_on_literals chars digits is_utf8 value_spelled number_within keys_given kea_keys
late_renewal = refl

same_timers : sent (codes "{\"valid-lifetime\": 1000}") (codes "{\"renew-timer\": 500}") (codes "{\"rebind-timer\": 500}") ≡ Some (None, Some 500)
unfolding serde_json_on_literals chars digits is_utf8 value_spelled number_within keys_given kea_keys
same_timers = refl

calculated_in_subnet : sent (codes "{\"valid-lifetime\": 1000, \"renew-timer\": 300}") (codes "{}") (codes "{\"calculate-tee-times\": true}") ≡ Some (Some 300, Some 875)
unfolding serde_json_on_literals chars digits is_utf8 value_spelled number_within keys_given kea_keys lt of_bits mul of_int round_with to_unsigned
calculated_in_subnet = refl

not_calculated_in_subnet : sent (codes "{\"valid-lifetime\": 1000, \"calculate-tee-times\": true}") (codes "{}") (codes "{\"calculate-tee-times\": false}") ≡ Some (None, None)
unfolding serde_json_on_literals chars digits is_utf8 value_spelled number_within keys_given kea_keys lt of_bits mul of_int round_with to_unsigned
not_calculated_in_subnet = refl

shares_by_place : sent (codes "{\"valid-lifetime\": 1000, \"calculate-tee-times\": true}") (codes "{\"t1-percent\": 0.3}") (codes "{\"t2-percent\": 0.6}") ≡ Some (Some 300, Some 600)
unfolding serde_json_on_literals chars digits is_utf8 value_spelled number_within keys_given kea_keys lt of_bits mul of_int round_with to_unsigned
shares_by_place = refl

-- the share of T1 is less than that of T2, wherever they are given; where they are not used, they may
-- be any
wrong_share : sent (codes "{\"calculate-tee-times\": true}") (codes "{}") (codes "{\"t1-percent\": 0.9}") ≡ None
unfolding serde_json_on_literals chars digits is_utf8 value_spelled number_within keys_given kea_keys lt of_bits mul of_int round_with to_unsigned
wrong_share = refl

unused_share_of_server : sent (codes "{\"valid-lifetime\": 1000, \"t1-percent\": 0.9}") (codes "{}") (codes "{}") ≡ Some (None, None)
unfolding serde_json_on_literals chars digits is_utf8 value_spelled number_within keys_given kea_keys lt of_bits mul of_int round_with to_unsigned
unused_share_of_server = refl

used_share_of_server : sent (codes "{\"valid-lifetime\": 1000, \"t1-percent\": 0.9}") (codes "{}") (codes "{\"calculate-tee-times\": true}") ≡ None
unfolding serde_json_on_literals chars digits is_utf8 value_spelled number_within keys_given kea_keys lt of_bits mul of_int round_with to_unsigned
used_share_of_server = refl

-- ---- terms of subnets that differ from the times of the whole server

-- whether a subnet has a term, by the values of the whole server and of itself
abbrev has_own_term : Data → Data → Option Bool
has_own_term server subnet = do
  keys ← kea_keys usual_keys server
  times ← kea_times keys server
  within ← kea_keys keys subnet
  Some (is_some (term_unless_alike (record { server = 1; times = times; keys = within; by_class = has_class_lifetime server; outside = false; kinds = kinds_given None; bare = true; policy = record { is_authoritative = false; matches_client_ids = true }; boot = no_boot })))

abbrev differs : List ℕ → List ℕ → Option Bool
differs server subnet = do
  first ← value_spelled server
  second ← value_spelled subnet
  has_own_term first second

alike : differs (codes "{\"valid-lifetime\": 4000, \"renew-timer\": 1000}") (codes "{}") ≡ Some false
unfolding serde_json_on_literals chars digits is_utf8 value_spelled number_within keys_given kea_keys kea_times
alike = refl

-- the keys of the whole server, written out
repeated : differs (codes "{\"valid-lifetime\": 4000, \"renew-timer\": 1000}") (codes "{\"valid-lifetime\": 4000, \"min-valid-lifetime\": 4000, \"max-valid-lifetime\": 4000, \"renew-timer\": 1000, \"t1-percent\": 0.5}") ≡ Some false
unfolding serde_json_on_literals chars digits is_utf8 value_spelled number_within keys_given kea_keys kea_times
repeated = refl

calculated_alike : differs (codes "{\"valid-lifetime\": 3601, \"calculate-tee-times\": true}") (codes "{}") ≡ Some false
unfolding serde_json_on_literals chars digits is_utf8 value_spelled number_within keys_given kea_keys kea_times lt of_bits mul of_int round_with to_unsigned
calculated_alike = refl

lifetime_differs : differs (codes "{\"valid-lifetime\": 4000}") (codes "{\"valid-lifetime\": 5000}") ≡ Some true
unfolding serde_json_on_literals chars digits is_utf8 value_spelled number_within keys_given kea_keys kea_times
lifetime_differs = refl

timer_differs : differs (codes "{\"valid-lifetime\": 4000}") (codes "{\"rebind-timer\": 3000}") ≡ Some true
unfolding serde_json_on_literals chars digits is_utf8 value_spelled number_within keys_given kea_keys kea_times
timer_differs = refl

-- a client may ask for more
most_of_server : differs (codes "{\"valid-lifetime\": 4000, \"max-valid-lifetime\": 8000}") (codes "{}") ≡ Some true
unfolding serde_json_on_literals chars digits is_utf8 value_spelled number_within keys_given kea_keys kea_times
most_of_server = refl

-- the timers of the whole server hold for leases that last as long as a class says
by_some_class : differs (codes "{\"renew-timer\": 1000, \"client-classes\": [{\"name\": \"a\"}, {\"name\": \"b\", \"max-valid-lifetime\": 60}]}") (codes "{}") ≡ Some true
unfolding serde_json_on_literals chars digits is_utf8 value_spelled number_within keys_given kea_keys kea_times
by_some_class = refl

by_no_class : differs (codes "{\"renew-timer\": 1000, \"client-classes\": [{\"name\": \"a\"}]}") (codes "{}") ≡ Some false
unfolding serde_json_on_literals chars digits is_utf8 value_spelled number_within keys_given kea_keys kea_times
by_no_class = refl
