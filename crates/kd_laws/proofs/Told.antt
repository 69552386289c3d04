-- The options of a reply are in order, and what they say of the type, the server, the client and
-- the lifetime.
use Rattle.std.proofs.Common.{◌≡◌, ℕ, zero, suc, ◌+◌, ◌≤◌, inl, inr, Bool, true, false, ◌||◌, List, [], ◌∷◌, ◌++◌, Option, None, Some, refl, ap, subst, ◌∙◌, arith, append_assoc, eqb-true}
use Rattle.std.specs.Prelude.{◌==◌, IfSome, filter, if◌then◌else◌}
use Rattle.std.specs.List.{AllByRecursion, find, flat_map, range_with_len}
use Rattle.std.proofs.lemmas.Bool.{both_ways}
use Rattle.byteorder.specs.Endian.{big_bytes}
use Rattle.kd_classes.specs.declared.definition.ClassDef.{ClassDef}
use Rattle.kd_classes.specs.declared.option_list.OptionData.{OptionData}
use Rattle.kd_config.specs.Apart.{has}
use Rattle.kd_config.specs.Configuration.{Configuration}
use Rattle.kd_config.specs.Networks.{part_holding}
use Rattle.kd_config.specs.Sound.{AreOptions, IsClass, IsOption, IsSound}
use Rattle.kd_config.specs.declared.pool.Pool.{Pool}
use Rattle.kd_config.specs.declared.reservation.Reservation.{Reservation}
use Rattle.kd_config.specs.declared.subnet.Subnet.{Subnet}
use Rattle.kd_config.specs.declared.times.Times.{Times}
use Rattle.kd_lease.specs.Kept.{reservation_at}
use Rattle.kd_lease.specs.Choice.{Asking}
use Rattle.kd_lease.specs.Client.{wants_option}
use Rattle.kd_lease.specs.Given.{always_has, class_options, configured, configured_at, configured_options, given, mask_option, options_in, options_of_pool, options_reserved, reserved_options, value_in}
use Rattle.kd_lease.specs.Plan.{ReplyOption}
use Rattle.kd_lease.specs.ReplyOf.{obligatory, returned}
use Rattle.kd_lease.specs.ReplyOptions.{configured_for, configured_in, plan_type, reply_options, times_in}
use Rattle.kd_lease.specs.Rules.{granted_times, serving_subnet}
use Rattle.kd_lease.specs.Server.{server_identifier}
use Rattle.kd_lease.specs.declared.plan.PlanKind.{PlanKind}
use Rattle.kd_lease.specs.declared.plan.PlanKind.TheVariants as kinds
use Rattle.kd_machine.specs.Parts.{is_held}
use Rattle.kd_options.proofs.ItemOptions.{each_gives}
use Rattle.kd_options.specs.Joined.{value_of}
use Rattle.kd_options.specs.Message.{Seen}
use Rattle.kd_laws.proofs.Ordered.{AreOrdered, is_own, lacks, ordered-append, place, place-free, told, told-none, told-past, wider}
use Rattle.kd_laws.proofs.Homes.{Serves, ServesClient, ServesPool, all_serve, part_serves, serving_serves}
use Rattle.kd_lease.proofs.Served.{each-append, find-each}
use Rattle.kd_laws.proofs.Hosts.{counting_each}
use Rattle.kd_laws.specs.Replies.{lifetime_told}

-- an option that may be configured has none of the server's own codes
abbrev IsFree : OptionData → Type 0
IsFree o = is_own o.code ≡ false

-- the options of one list of a configuration
options_free : (options : List OptionData) → AreOptions options → AllByRecursion IsFree options
options_free options are = each_gives IsOption IsFree (λ o is. is.free) options are.each

-- those of a reservation, if there is one
reservation_free : (reservation : Option Reservation) → IfSome reservation ServesClient → AllByRecursion IsFree (options_reserved reservation)
reservation_free None is = tt
reservation_free (Some reservation) is = options_free reservation.options is.options

-- those of a pool, if there is one
pool_free : (pool : Option Pool) → IfSome pool ServesPool → AllByRecursion IsFree (options_in pool)
pool_free None is = tt
pool_free (Some pool) is = options_free pool.options is.options

-- the options of one more class, if it is held
one_class : (held : Bool) (class : ClassDef) (classes : List ClassDef) → AreOptions class.options → AllByRecursion IsFree (flat_map (λ c. c.options) classes)
    → AllByRecursion IsFree (flat_map (λ c. c.options) (if held then class ∷ classes else classes))
one_class true class classes are rest =
    each-append IsFree class.options (flat_map (λ c. c.options) classes) (options_free class.options are) rest
one_class false class classes are rest = rest

-- those of all classes that are held
classes_free : (classes : List ClassDef) (names : List (List ℕ)) → AllByRecursion IsClass classes → AllByRecursion IsFree (class_options classes names)
classes_free [] names each = tt
classes_free (class ∷ classes) names each =
    one_class (is_held class.name names) class (filter (λ c. is_held c.name names) classes) each.0.options (classes_free classes names each.1)

-- all options that are given at an address of a subnet
given_free : (config : Configuration) (s : Subnet) (names : List (List ℕ)) (m : Seen) (address : ℕ) → IsSound config → Serves s → AllByRecursion IsFree (given config s names m address)
unfolding given
given_free config s names m address sound is =
    let own = reserved_options config names m s address in
    let pool = options_of_pool s.pools address in
    let part = part_holding config.subnets s address in
    let is_there = part_serves config.subnets (all_serve config.subnets sound.subnets.together sound.subnets.each) s address is in
    let classes = class_options config.classes names in
    let has_it : Pool → Bool = λ p. has p.range address in
    let reserved = reservation_free (reservation_at config names m s address) (counting_each ServesClient names m s is.reservations config address) in
    let pooled = pool_free (find has_it s.pools) (find-each ServesPool has_it s.pools is.pools) in
    each-append IsFree (own ++ pool ++ part.options ++ part.shared ++ classes ++ config.options) (mask_option part.prefix ∷ [])
    (each-append IsFree (own ++ pool ++ part.options ++ part.shared ++ classes) config.options
    (each-append IsFree (own ++ pool ++ part.options ++ part.shared) classes
    (each-append IsFree (own ++ pool ++ part.options) part.shared
    (each-append IsFree (own ++ pool) part.options (each-append IsFree own pool reserved pooled) (options_free part.options is_there.options))
    (options_free part.shared is_there.shared))
    (classes_free config.classes names sound.classes.each))
    (options_free config.options sound.options))
    (refl, tt)

-- a code that has a value among such options is none of the server's own
free_code : (code : ℕ) (options : List OptionData) → AllByRecursion IsFree options → IfSome (value_in code options) (λ value. is_own code ≡ false)
free_code code [] each = tt
free_code code (o ∷ options) each = by (o.code == code) refl (free_code code options each.1) where
  by : (b : Bool) → (o.code == code) ≡ b → IfSome (value_in code options) (λ value. is_own code ≡ false) → IfSome (value_in code (o ∷ options)) (λ value. is_own code ≡ false)
  by true e rest = rw e (subst (λ (c : ℕ). is_own c ≡ false) (eqb-true o.code code e) each.0)
  by false e rest = rw e rest

-- the configured option of one code
at_code : (m : Seen) (options : List OptionData) (code : ℕ) → AllByRecursion IsFree options → AreOrdered (code + 6) (code + 7) (configured_at m options code)
at_code m options code each = by (value_in code options) (free_code code options each) (wants_option code m || always_has code options) where
  by : (v : Option (List ℕ)) → IfSome v (λ value. is_own code ≡ false) → (sent : Bool) → AreOrdered (code + 6) (code + 7) (configured sent code v)
  by None free sent = omega arith
  by (Some value) free true =
      (omega (arith, place-free code free), (λ own. absurd (both_ways (is_own code) free own)), omega (arith, place-free code free))
  by (Some value) free false = omega arith

-- the options of consecutive codes
all_codes : (f : ℕ → List ReplyOption) → ((code : ℕ) → AreOrdered (code + 6) (code + 7) (f code)) → (k n : ℕ) → AreOrdered (k + 6) (k + n + 6) (flat_map f (range_with_len k n))
all_codes f each k zero = omega arith
all_codes f each k (suc n) =
    let rest = flat_map f (range_with_len (k + 1) n) in
    ordered-append (k + 6) (k + 7) (k + suc n + 6) (f k) rest (each k)
    (wider (k + 7) (k + 1 + 6) (k + 1 + n + 6) (k + suc n + 6) rest (omega arith) (omega arith) (all_codes f each (k + 1) n))

-- all configured options
configured_ordered : (m : Seen) (options : List OptionData) → AllByRecursion IsFree options → AreOrdered 6 261 (configured_options m options)
unfolding configured_options
configured_ordered m options each =
    wider 6 7 261 261 (configured_options m options) (omega arith) (omega arith) (all_codes (configured_at m options) (λ code. at_code m options code each) 1 254)

-- one option that is always written
one_ordered : (low high code : ℕ) (value : List ℕ) → low ≤ place code → place code + 1 ≤ high → AreOrdered low high (obligatory code value)
one_ordered low high code value first last = (first, (λ own. refl), last)

-- an option that is returned as it came, if it is present
returned_ordered : (low high code : ℕ) (value : Option (List ℕ)) → low ≤ place code → place code + 1 ≤ high → AreOrdered low high (returned code value)
returned_ordered low high code None first last = omega (arith, first, last)
returned_ordered low high code (Some value) first last = one_ordered low high code value first last

-- the times of a lease, if the reply has them
times_ordered : (kind : PlanKind) (times : Times) → AreOrdered 2 5 (times_in kind times)
unfolding place
times_ordered kinds.Offer times = (omega arith, (λ own. refl), (omega arith, (λ own. refl), (omega arith, (λ own. refl), omega arith)))
times_ordered kinds.Ack times = (omega arith, (λ own. refl), (omega arith, (λ own. refl), (omega arith, (λ own. refl), omega arith)))
times_ordered kinds.InformAck times = omega arith
times_ordered kinds.Nak times = omega arith

-- lists one after another, taken from the beginning
from_front : (a b c d e f : List ReplyOption) → a ++ b ++ c ++ d ++ e ++ f ≡ a ++ (b ++ (c ++ (d ++ (e ++ f))))
from_front a b c d e f = simp append_assoc

module _ (q : Asking) (sound : IsSound q.config) where
  -- the subnet that serves the message obeys the rules
  serving_sound : IfSome (serving_subnet q) Serves
  serving_sound = serving_serves q sound

  -- the configured options in a subnet, if there is one
  in_subnet_ordered : (s : Option Subnet) (address : ℕ) → IfSome s Serves → AreOrdered 6 261 (configured_in q s address)
  in_subnet_ordered None address is = omega arith
  in_subnet_ordered (Some s) address is = configured_ordered q.message (given q.config s q.names q.message address) (given_free q.config s q.names q.message address sound is)

  -- the configured options of a reply of each kind
  for_kind_ordered : (kind : PlanKind) (yiaddr : ℕ) → AreOrdered 6 261 (configured_for q kind yiaddr)
  for_kind_ordered kinds.Offer yiaddr = in_subnet_ordered (serving_subnet q) yiaddr serving_sound
  for_kind_ordered kinds.Ack yiaddr = in_subnet_ordered (serving_subnet q) yiaddr serving_sound
  for_kind_ordered kinds.InformAck yiaddr = in_subnet_ordered (serving_subnet q) q.message.header.ciaddr serving_sound
  for_kind_ordered kinds.Nak yiaddr = omega arith

  module _ (kind : PlanKind) (yiaddr : ℕ) where
    -- the options after the client identifier, and those from it on
    abbrev behind_client : List ReplyOption
    behind_client = configured_for q kind yiaddr ++ returned 82 (value_of 82 q.message.options)

    abbrev from_client : List ReplyOption
    from_client = returned 61 (value_of 61 q.message.options) ++ behind_client

    -- they are in order
    behind_ordered : AreOrdered 6 262 behind_client
    unfolding place
    behind_ordered =
        let relay = value_of 82 q.message.options in
        ordered-append 6 261 262 (configured_for q kind yiaddr) (returned 82 relay) (for_kind_ordered kind yiaddr) (returned_ordered 261 262 82 relay (omega arith) (omega arith))

    client_ordered : AreOrdered 5 262 from_client
    unfolding place
    client_ordered =
        let client = value_of 61 q.message.options in
        ordered-append 5 6 262 (returned 61 client) behind_client (returned_ordered 5 6 61 client (omega arith) (omega arith)) behind_ordered

    -- the options of a reply in parts
    parts : reply_options q kind yiaddr ≡ obligatory 53 (plan_type kind ∷ []) ++ (obligatory 54 (big_bytes 4 (server_identifier q.config q.message)) ++ (times_in kind (granted_times q yiaddr) ++ from_client))
    unfolding reply_options
    parts =
        from_front (obligatory 53 (plan_type kind ∷ [])) (obligatory 54 (big_bytes 4 (server_identifier q.config q.message))) (times_in kind (granted_times q yiaddr))
        (returned 61 (value_of 61 q.message.options)) (configured_for q kind yiaddr) (returned 82 (value_of 82 q.message.options))

    -- the options of a reply are in order
    pub reply_ordered : AreOrdered 0 262 (reply_options q kind yiaddr)
    unfolding place
    reply_ordered =
        let times = times_in kind (granted_times q yiaddr) in
        let rest = ordered-append 2 5 262 times from_client (times_ordered kind (granted_times q yiaddr)) client_ordered in
        rw parts (omega arith, (λ own. refl), (omega arith, (λ own. refl), rest))

    -- what the options say of the type and the server
    pub told_type : told 53 (reply_options q kind yiaddr) ≡ Some (plan_type kind ∷ [])
    told_type = ap (told 53) parts

    pub told_server : told 54 (reply_options q kind yiaddr) ≡ Some (big_bytes 4 (server_identifier q.config q.message))
    told_server = ap (told 54) parts

    -- what they say of the lifetime
    pub told_lifetime : told 51 (reply_options q kind yiaddr) ≡ lifetime_told kind (granted_times q yiaddr)
    unfolding place
    told_lifetime = ap (told 51) parts ∙ by kind from_client client_ordered where
      by : (k : PlanKind) (rest : List ReplyOption) → AreOrdered 5 262 rest → told 51 (times_in k (granted_times q yiaddr) ++ rest) ≡ lifetime_told k (granted_times q yiaddr)
      by kinds.Offer rest is = refl
      by kinds.Ack rest is = refl
      by kinds.InformAck rest is = told-none 51 rest (lacks 51 5 262 rest (inl (omega arith)) is)
      by kinds.Nak rest is = told-none 51 rest (lacks 51 5 262 rest (inl (omega arith)) is)

    -- what they say of the client
    pub told_client : told 61 (reply_options q kind yiaddr) ≡ value_of 61 q.message.options
    unfolding place
    told_client =
        let times = times_in kind (granted_times q yiaddr) in
        let before = lacks 61 2 5 times (inr (omega arith)) (times_ordered kind (granted_times q yiaddr)) in
        ap (told 61) parts ∙ told-past 61 times from_client before ∙ by (value_of 61 q.message.options) behind_client behind_ordered
      where
        by : (value : Option (List ℕ)) (rest : List ReplyOption) → AreOrdered 6 262 rest → told 61 (returned 61 value ++ rest) ≡ value
        by None rest is = told-none 61 rest (lacks 61 6 262 rest (inl (omega arith)) is)
        by (Some value) rest is = refl

    -- they say nothing of options 50 and 52
    pub told_no_requested : told 50 (reply_options q kind yiaddr) ≡ None
    unfolding place
    told_no_requested = told-none 50 (reply_options q kind yiaddr) (lacks 50 0 262 (reply_options q kind yiaddr) (inr (omega arith)) reply_ordered)

    pub told_no_overload : told 52 (reply_options q kind yiaddr) ≡ None
    unfolding place
    told_no_overload = told-none 52 (reply_options q kind yiaddr) (lacks 52 0 262 (reply_options q kind yiaddr) (inr (omega arith)) reply_ordered)
