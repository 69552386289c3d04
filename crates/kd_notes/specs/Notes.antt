-- The notes on a configuration of Kea's (our own format): the keys that are skipped because no client
-- notices them, the keys that are refused, and the values that are wrong, each with its path
-- (RFC 6901). The keys of an object come first, in order, then those of its keys that are served with
-- some values only, then its own values, and then what is in it. A value is wrong if it describes
-- nothing although nothing in it is refused.
use Rattle.std.specs.Prelude.{if◌then◌else◌, ℕ, ◌+◌, Bool, true, false, ◌||◌, nat_le, List, [], ◌∷◌, ◌++◌, codes, decimal, option_map, string_bytes, Option, Some, None, is_some}
use Rattle.std.specs.List.{flat_map, list_any}
use Rattle.serde_json.specs.Data.{Data, Items, no_items, item, Members, no_members, member}
use Rattle.serde_json.specs.Find.{as_array, as_object, as_str, get}
use Rattle.kd_classes.specs.Boot.{boot_or}
use Rattle.kd_classes.specs.declared.boot.Boot.{Boot}
use Rattle.kd_config.specs.Address.{has_address}
use Rattle.kd_config.specs.Sound.{longest_lease}
use Rattle.kd_config.specs.declared.prefix.Prefix.{Prefix}
use Rattle.kd_config.specs.declared.times.Times.{Times}
use Rattle.kd_fields.specs.Text.{value_spelled}
use Rattle.kd_fields.specs.Place.{path_below}
use Rattle.kd_fields.specs.Lists.{items_or_none, list_of}
use Rattle.kd_json.specs.Subnet.{subnet_prefix}
use Rattle.kd_fields.specs.Values.{number_if_given, text_if_given}
use Rattle.kd_keys.specs.Alone.{right_definitions, usable_definitions}
use Rattle.kd_keys.specs.Boot.{field_given, kea_boot, next_server_given}
use Rattle.kd_kea.specs.Class.{kea_class, own_class_name}
use Rattle.kd_keys.specs.Definitions.{kea_definition, kea_definitions, kea_known}
use Rattle.kd_keys.specs.HostKinds.{finds_reservations, is_found_if_given, kinds_given, kinds_in_order, kind_key}
use Rattle.kd_keys.specs.HostName.{has_bare_names, host_name, may_be_named, server_has_bare_names}
use Rattle.kd_keys.specs.Hooks.{hooks_are_quiet}
use Rattle.kd_keys.specs.Keys.{KeyUse, Plain, flag, fraction, is_plain, key_use, allows_value, no_list, skipped}
use Rattle.kd_kea.specs.Lifetimes.{bound_key, own_lifetime, has_class_lifetime, is_key_below, kea_keys, keys_given, lifetime_of, timer_key, timers_rise, usual_keys}
use Rattle.kd_kea.specs.Network.{is_interface_of, kea_network}
use Rattle.kd_keys.specs.Options.{is_served_if_given, kea_entry, kea_options, server_address}
use Rattle.kd_plain.specs.Plain.{plain}
use Rattle.kd_keys.specs.Parts.{parts_of_all}
use Rattle.kd_keys.specs.Policy.{kea_policy}
use Rattle.kd_kea.specs.Pool.{kea_pool, kea_range}
use Rattle.kd_keys.specs.Relay.{kea_relay}
use Rattle.kd_kea.specs.Reservation.{kea_reservation}
use Rattle.kd_kea.specs.Settings.{kea_dhcp4, kea_root, turns_nothing_on}
use Rattle.kd_kea.specs.Subnet.{is_at_server, kea_subnet, stand_beside}
use Rattle.kd_keys.specs.ClassNames.{classes_given}
use Rattle.kd_keys.specs.Tables.{class_keys, data_keys, definition_keys, host_keys, network_keys, pool_keys, relay_keys, root_keys, server_keys, subnet_keys}
use Rattle.kd_kea.specs.Times.{has_usual_shares, kea_times, share_key, times_key}
use Rattle.kd_keys.specs.Values.{flag_given, flag_or, is_plain_if_given}
use Rattle.kd_notes.specs.declared.notes.Note.{Note}
use Rattle.kd_notes.specs.declared.notes.NoteKind.{NoteKind}
use Rattle.kd_notes.specs.declared.notes.NoteKind.TheVariants.{Skipped, Unknown, Wrong}
use Rattle.kd_notes.specs.declared.around.Around.{Around}
use Rattle.kd_keys.specs.declared.definition.DefinedOption.{DefinedOption}
use Rattle.kd_keys.specs.declared.host_kinds.HostKinds.{HostKinds}
use Rattle.kd_kea.specs.declared.objects.lifetimes.TermKeys.{TermKeys}
use Rattle.kd_config.specs.declared.extensions.Policy.{Policy}
use Rattle.kd_kea.specs.declared.objects.subnet.Above.{Above}
use Rattle.kd_kea.specs.declared.objects.times.TheConstants.{HALF, SEVEN_EIGHTHS}
use Rattle.kd_names.specs.Values.{sign_text}
use Rattle.kd_wire.specs.Steps.{◌>>=◌}

-- a note: a path, and what is done with the key there
abbrev pub KeyNote : Type 0
KeyNote = List ℕ × NoteKind

-- a note without where it lies in memory
abbrev pub note_of : Note → KeyNote
note_of note = (string_bytes note.path, note.kind)

-- ---- the keys of an object

-- what is noted of a key with this use and value, if anything is: that it is skipped, or that it may
-- not have the value
abbrev pub kind_of_note : Option KeyUse → Option Data → Option NoteKind
kind_of_note (Some skipped) value = Some Skipped
kind_of_note usage value = if allows_value usage value then None else Some Unknown

-- the note on a key of the object at a path, if there is one: the key as a terminal may show it
abbrev pub note_below : List ℕ → List ℕ → Option NoteKind → List KeyNote
note_below path key None = []
note_below path key (Some kind) = (path_below path (flat_map sign_text key), kind) ∷ []

-- the keys of members, in order
abbrev pub member_keys : Members → List (List ℕ)
member_keys no_members = []
member_keys (member key d ms) = key ∷ member_keys ms

-- the keys of a value; none if it is no object
abbrev pub keys_in : Option Members → List (List ℕ)
keys_in None = []
keys_in (Some members) = member_keys members

-- the notes on these keys of a value at a path, by the table of its kind
abbrev pub key_notes : List (List ℕ × KeyUse) → List ℕ → Data → List (List ℕ) → List KeyNote
key_notes table path d keys =
    flat_map (λ key. note_below path key (kind_of_note (key_use table key) (get key d))) keys

-- the notes on all keys of a value at a path, by the table of its kind
unfoldable pub own_notes : List (List ℕ × KeyUse) → List ℕ → Data → List KeyNote
own_notes table path d = key_notes table path d (keys_in (as_object d))

-- ---- the objects in an object

-- what is noted of the values of a kind: the notes of a value at a path
abbrev pub ObjectNotes : Type 0
ObjectNotes = List ℕ → Data → List KeyNote

-- the notes of the value at a path, if there is one
abbrev pub value_notes : ObjectNotes → List ℕ → Option Data → List KeyNote
value_notes notes path None = []
value_notes notes path (Some d) = notes path d

-- the notes of the items of the list at a path, the first of which has this index
abbrev pub item_notes : ObjectNotes → List ℕ → ℕ → Items → List KeyNote
item_notes notes path index no_items = []
item_notes notes path index (item d ds) =
    notes (path_below path (decimal index)) d ++ item_notes notes path (index + 1) ds

-- the notes of the items of the list at a path, if there is one
abbrev pub list_notes : ObjectNotes → List ℕ → Option Items → List KeyNote
list_notes notes path None = []
list_notes notes path (Some items) = item_notes notes path 0 items

-- the notes of the value at a key of the object at a path
abbrev pub notes_at : ObjectNotes → List ℕ → List ℕ → Data → List KeyNote
notes_at notes path key d = value_notes notes (path_below path key) (get key d)

-- the notes of each item of the list at a key of the object at a path; none of another value
abbrev pub notes_of_each : ObjectNotes → List ℕ → List ℕ → Data → List KeyNote
notes_of_each notes path key d = list_notes notes (path_below path key) (get key d >>= as_array)

-- ---- what is refused

-- a note refuses something: a key, or a value
abbrev pub is_refusal : NoteKind → Bool
is_refusal Skipped = false
is_refusal Unknown = true
is_refusal Wrong = true

-- one of the notes refuses something
abbrev pub have_refused : List KeyNote → Bool
have_refused notes = list_any (λ note. is_refusal note.1) notes

-- the notes on what is in the value at a path; and that it is wrong itself, if it describes nothing
-- although none of them refuses anything
abbrev pub or_wrong : Bool → List ℕ → List KeyNote → List KeyNote
or_wrong described path notes =
    if have_refused notes || described then notes else notes ++ (path, Wrong) ∷ []

-- the same of a value that is to be an object
abbrev pub object_notes : Bool → List ℕ → Data → List KeyNote → List KeyNote
object_notes described path d notes =
    if is_some (as_object d) then or_wrong described path notes else (path, Wrong) ∷ []

-- ---- keys that are served with some values only

-- the note of a kind on a key of the object at a path, unless a test holds
abbrev pub note_unless : Bool → NoteKind → List ℕ → List ℕ → List KeyNote
note_unless true kind path key = []
note_unless false kind path key = (path_below path key, kind) ∷ []

-- the note that a key of the object at a path is refused, unless it is absent or has this value
abbrev pub usual_note : Plain → List ℕ → List ℕ → Data → List KeyNote
usual_note plain path key d = note_unless (is_plain_if_given plain (get key d)) Unknown path key

-- the note on a value that turns nothing on, which is skipped, or else on what is refused of it: its
-- key, or the value itself, which is wrong if it is no object
abbrev pub off_note : Bool → Bool → List ℕ → List ℕ → List KeyNote
off_note true is_object path key = (path, Skipped) ∷ []
off_note false true path key = (path_below path key, Unknown) ∷ []
off_note false false path key = (path, Wrong) ∷ []

-- the note on a value whose key is to be absent or to have this value
abbrev pub off_notes : List ℕ → Plain → ObjectNotes
off_notes key plain path d =
    off_note (turns_nothing_on key plain (Some d)) (is_some (as_object d)) path key

-- what is noted of hooks: they are skipped if they change nothing for clients
abbrev pub hook_kind : Bool → NoteKind
hook_kind true = Skipped
hook_kind false = Unknown

-- the note on the list of hooks
abbrev pub hook_notes : ObjectNotes
hook_notes path d = (path, hook_kind (hooks_are_quiet (Some d))) ∷ []

-- the note on a share of T1 or T2 that is not used: it is skipped, unless it is the usual one
abbrev pub unused_share : Plain → ObjectNotes
unused_share plain path d = if is_plain plain d then [] else (path, Skipped) ∷ []

-- the notes on shares of T1 and T2 that are not used, because the times are not calculated
abbrev pub unused_shares : ObjectNotes
unused_shares path d =
    notes_at (unused_share (fraction HALF)) path (codes "t1-percent") d
    ++ notes_at (unused_share (fraction SEVEN_EIGHTHS)) path (codes "t2-percent") d

-- a subnet of one of these networks says whether times are calculated
abbrev pub is_said_by_members : Items → Bool
is_said_by_members no_items = false
is_said_by_members (item d ds) =
    is_key_below (codes "subnet4") (codes "calculate-tee-times") d || is_said_by_members ds

-- a subnet of one of the networks of a list, if there is one, says so
abbrev pub is_said_in_networks : Option Items → Bool
is_said_in_networks None = false
is_said_in_networks (Some networks) = is_said_by_members networks

-- a subnet or a network in a value says whether times are calculated
abbrev pub is_said_below : Data → Bool
is_said_below d =
    is_key_below (codes "subnet4") (codes "calculate-tee-times") d
    || is_key_below (codes "shared-networks") (codes "calculate-tee-times") d
    || is_said_in_networks (get (codes "shared-networks") d >>= as_array)

-- the notes on the shares of T1 and T2 where the keys say this, if they are not used: times are not
-- calculated
abbrev pub share_notes : Option TermKeys → ObjectNotes
share_notes None path d = []
share_notes (Some keys) path d =
    if keys.calculated || is_said_below d then [] else unused_shares path d

-- the notes on what other services and hooks do, and on where the configuration is kept
unfoldable pub service_notes : ObjectNotes
service_notes path d =
    notes_at (off_notes (codes "enable-updates") (flag false)) path (codes "dhcp-ddns") d
    ++ notes_at (off_notes (codes "config-databases") no_list) path (codes "config-control") d
    ++ note_unless (finds_reservations (get (codes "host-reservation-identifiers") d)) Unknown
    path (codes "host-reservation-identifiers")
    ++ notes_at hook_notes path (codes "hooks-libraries") d

-- ---- such keys of a subnet, by what holds for the whole server

-- the server's address, by the value of `Dhcp4` and an address that is given beside it
unfoldable pub kea_address : Option ℕ → Data → Option ℕ
kea_address server d = do
  known ← kea_known (get (codes "option-def") d)
  options ← kea_options true known (get (codes "option-data") d)
  server_address options server

-- the lease and offer times in the value of `Dhcp4`
unfoldable pub all_times : Data → Option Times
all_times d = do
  keys ← kea_keys usual_keys d
  kea_times keys d

-- what holds for the whole server by the value of `Dhcp4`, each part if it is right by itself
unfoldable pub around_of : Option ℕ → Data → Around
around_of server d =
    record { address = kea_address server d; times = all_times d; keys = kea_keys usual_keys d; by_class = has_class_lifetime d; outside = flag_given (get (codes "reservations-out-of-pool") d); kinds = kinds_given (get (codes "host-reservation-identifiers") d); bare = server_has_bare_names d; policy = kea_policy d; boot = kea_boot d }

-- what holds for the whole server, if all of it is right
unfoldable pub above_by : Around → Option Above
above_by around = do
  server ← around.address
  times ← around.times
  keys ← around.keys
  outside ← around.outside
  policy ← around.policy
  boot ← around.boot
  Some (record { server = server; times = times; keys = keys; by_class = around.by_class; outside = outside; kinds = around.kinds; bare = around.bare; policy = policy; boot = boot })

-- the notes on the policy of a subnet or a network, which may only be that of the whole server, if
-- that is known
abbrev pub policy_notes : Option Policy → ObjectNotes
policy_notes None path d = []
policy_notes (Some policy) path d =
    usual_note (flag policy.is_authoritative) path (codes "authoritative") d
    ++ usual_note (flag policy.matches_client_ids) path (codes "match-client-id") d

-- the note on the interface of a subnet, which may only be the one with the server's address, if that
-- and the subnet's prefix are known
abbrev pub interface_notes : Option ℕ → Option Prefix → ObjectNotes
interface_notes None prefix path d = []
interface_notes (Some server) None path d = []
interface_notes (Some server) (Some prefix) path d =
    note_unless (is_at_server server prefix (get (codes "interface") d)) Unknown path
    (codes "interface")

-- the notes on such keys of a subnet
unfoldable pub subnet_values : Around → ObjectNotes
subnet_values around path d =
    policy_notes around.policy path d
    ++ interface_notes around.address (get (codes "subnet") d >>= subnet_prefix) path d

-- ---- values that are wrong by themselves

-- the note that the number at a key is wrong, unless it is absent or in a range
abbrev pub number_note : ℕ → ℕ → List ℕ → ObjectNotes
number_note least most key path d =
    note_unless (is_some (number_if_given least most least (get key d))) Wrong path key

-- the note that the truth value at a key is wrong, unless it is absent or one
abbrev pub flag_note : List ℕ → ObjectNotes
flag_note key path d = note_unless (is_some (flag_given (get key d))) Wrong path key

-- the notes on the keys for the boot fields that are wrong, each by itself
unfoldable pub boot_notes : ObjectNotes
boot_notes path d =
    note_unless (is_some (next_server_given (get (codes "next-server") d))) Wrong path
    (codes "next-server")
    ++ note_unless (is_some (field_given 64 (get (codes "server-hostname") d))) Wrong path
    (codes "server-hostname")
    ++ note_unless (is_some (field_given 128 (get (codes "boot-file-name") d))) Wrong path
    (codes "boot-file-name")

-- the note that the text at a key is wrong, unless it is absent or one
abbrev pub text_note : List ℕ → ObjectNotes
text_note key path d = note_unless (is_some (text_if_given (get key d))) Wrong path key

-- the notes of a list at a key, which has at most `most` items, and of its items
abbrev pub listed_notes : ℕ → ObjectNotes → List ℕ → ObjectNotes
listed_notes most notes key path d =
    note_unless (is_some (items_or_none most (get key d))) Wrong path key
    ++ notes_of_each notes path key d

-- the notes on the keys of a lifetime, each by itself
unfoldable pub lifetime_notes : ObjectNotes
lifetime_notes path d =
    number_note 1 longest_lease (codes "valid-lifetime") path d
    ++ number_note 1 longest_lease (codes "min-valid-lifetime") path d
    ++ number_note 1 longest_lease (codes "max-valid-lifetime") path d

-- the notes on the keys of T1 and T2, each by itself: a time has at least so many seconds
unfoldable pub timer_notes : ℕ → ObjectNotes
timer_notes least path d =
    number_note least longest_lease (codes "renew-timer") path d
    ++ number_note least longest_lease (codes "rebind-timer") path d
    ++ flag_note (codes "calculate-tee-times") path d

-- what the keys of a value say, if it is known what they say above it
unfoldable pub keys_below : Option TermKeys → Data → Option TermKeys
keys_below given d = do
  above ← given
  keys_given above d

-- what the keys say passes a test, or it is not known
abbrev pub pass_if_known : (TermKeys → Bool) → Option TermKeys → Bool
pass_if_known test None = true
pass_if_known test (Some keys) = test keys

-- the least lifetime is at most the usual one
abbrev pub is_above_least : TermKeys → Bool
is_above_least keys = nat_le (lifetime_of keys).least keys.usual

-- the usual lifetime is at most the greatest one
abbrev pub is_below_most : TermKeys → Bool
is_below_most keys = nat_le keys.usual (lifetime_of keys).most

-- the notes on keys that say this, and do not go together
unfoldable pub order_notes : Option TermKeys → ObjectNotes
order_notes given path d =
    note_unless (pass_if_known is_above_least given) Wrong path
    (bound_key (codes "min-valid-lifetime") d)
    ++ note_unless (pass_if_known is_below_most given) Wrong path
    (bound_key (codes "max-valid-lifetime") d)
    ++ note_unless (pass_if_known (λ keys. timers_rise keys.renew keys.rebind) given) Wrong path
    (timer_key d)
    ++ note_unless (pass_if_known (λ keys. has_usual_shares keys.calculated keys.shares) given)
    Wrong path (share_key d)

-- the notes on the keys for the times of leases, where they say this above the value: each by itself,
-- and then those that do not go together, and shares that are not used
unfoldable pub term_notes : ℕ → Option TermKeys → ObjectNotes
term_notes least above path d =
    lifetime_notes path d
    ++ timer_notes least path d
    ++ order_notes (keys_below above d) path d
    ++ share_notes (keys_below above d) path d

-- the notes on the lifetime of a class: its keys by themselves, and then one of them if they do not go
-- together
unfoldable pub class_lifetime_notes : ObjectNotes
class_lifetime_notes path d =
    or_wrong (is_some (own_lifetime d)) (path_below path (codes "valid-lifetime"))
    (lifetime_notes path d)

-- the notes on the lease and offer times in the value of `Dhcp4`: each by itself, and then one
-- of them if they are not in order
unfoldable pub server_times : ObjectNotes
server_times path d =
    or_wrong (is_some (all_times d)) (path_below path (times_key d))
    (term_notes 1 (Some usual_keys) path d
    ++ number_note 0 86400 (codes "offer-lifetime") path d
    ++ number_note 1 31536000 (codes "decline-probation-period") path d)

-- ---- the kinds of objects

-- the notes of an option at a path, by these definitions
unfoldable pub data_notes : Bool → List DefinedOption → ObjectNotes
data_notes for_all known path d =
    object_notes (is_some (kea_entry for_all known d)) path d
    (own_notes data_keys path d
    ++ note_unless (is_served_if_given (get (codes "space") d >>= as_str)) Unknown path
    (codes "space"))

-- the notes of the options of the object at a path: of each, and then of the list
unfoldable pub option_notes : Bool → List DefinedOption → ObjectNotes
option_notes for_all known path d =
    or_wrong (is_some (kea_options for_all known (get (codes "option-data") d)))
    (path_below path (codes "option-data"))
    (notes_of_each (data_notes for_all known) path (codes "option-data") d)

-- the notes of a definition of an option at a path
unfoldable pub definition_note : Bool → ObjectNotes
definition_note in_class path d =
    object_notes (is_some (kea_definition in_class d)) path d (own_notes definition_keys path d)

-- the notes of the definitions of options of the object at a path: of each, and then of the list
unfoldable pub definition_notes : Bool → ObjectNotes
definition_notes in_class path d =
    or_wrong (is_some (kea_definitions in_class (get (codes "option-def") d)))
    (path_below path (codes "option-def"))
    (notes_of_each (definition_note in_class) path (codes "option-def") d)

-- the notes of a pool at a path
unfoldable pub pool_notes : List DefinedOption → ObjectNotes
pool_notes known path d =
    object_notes (is_some (kea_pool known d)) path d
    (own_notes pool_keys path d
    ++ note_unless (is_some (get (codes "pool") d >>= kea_range)) Wrong path (codes "pool")
    ++ text_note (codes "client-class") path d
    ++ option_notes false known path d)

-- the note on a host name, if there is one: it is wrong, or it would have a suffix
abbrev pub note_on_name : Bool → Option (Option (List ℕ)) → List ℕ → List KeyNote
note_on_name bare None path = (path_below path (codes "hostname"), Wrong) ∷ []
note_on_name bare (Some name) path =
    note_unless (may_be_named bare name) Unknown path (codes "hostname")

-- the note on the host name of a reservation at a path
abbrev pub name_notes : Bool → ObjectNotes
name_notes bare path d = note_on_name bare (host_name (get (codes "hostname") d)) path

-- the notes on the keys for the client of a reservation, by which reservations are not looked for
abbrev pub kind_notes : HostKinds → ObjectNotes
kind_notes kinds path d =
    flat_map (λ kind. note_unless (is_found_if_given kinds d kind) Unknown path (kind_key kind))
    kinds_in_order

-- the note on the classes that a reservation gives, if they are wrong
unfoldable pub joined_note : ObjectNotes
joined_note path d =
    note_unless (is_some (classes_given d)) Wrong path (codes "client-classes")

-- the notes on such keys, on the host name, and on the classes
unfoldable pub host_values : HostKinds → Bool → ObjectNotes
host_values kinds bare path d =
    kind_notes kinds path d ++ name_notes bare path d ++ joined_note path d

-- the notes of a reservation at a path, where reservations are looked for by these kinds of
-- identity, and host names have no suffix or have one
unfoldable pub host_notes : List DefinedOption → HostKinds → Bool → ObjectNotes
host_notes known kinds bare path d =
    object_notes (is_some (kea_reservation known kinds bare d)) path d
    (own_notes host_keys path d
    ++ host_values kinds bare path d
    ++ boot_notes path d
    ++ option_notes false known path d)

-- the notes of a class at a path; its own definitions come before those of the whole server
unfoldable pub class_notes : List DefinedOption → ObjectNotes
class_notes known path d =
    object_notes (is_some (kea_class known d)) path d
    (own_notes class_keys path d
    ++ note_unless (is_some (get (codes "name") d >>= own_class_name)) Wrong path (codes "name")
    ++ text_note (codes "test") path d
    ++ boot_notes path d
    ++ class_lifetime_notes path d
    ++ definition_notes true path d
    ++ option_notes false (right_definitions true d ++ known) path d)

-- whether reservations may stand beside the pools of a subnet, if all that says so is right
unfoldable pub kea_beside : Option Bool → HostKinds → Bool → List DefinedOption → Data → Option Bool
kea_beside given kinds bare known d = do
  other ← given
  outside ← flag_or other (get (codes "reservations-out-of-pool") d)
  pools ← list_of 64 (kea_pool known) (get (codes "pools") d) >>= parts_of_all
  reservations ← list_of 4096 (kea_reservation known kinds (has_bare_names bare d)) (get (codes "reservations") d)
  Some (stand_beside outside pools reservations)

-- a test was passed, or not made
abbrev pub is_not_failed : Option Bool → Bool
is_not_failed None = true
is_not_failed (Some passed) = passed

-- the note that reservations of a subnet are not looked for outside pools alone, if a pool has one
abbrev pub beside_note : Option Bool → HostKinds → Bool → List DefinedOption → ObjectNotes
beside_note given kinds bare known path d =
    note_unless (is_not_failed (kea_beside given kinds bare known d)) Unknown path
    (codes "reservations-out-of-pool")

-- the notes of the relay of a subnet at a path
unfoldable pub relay_notes : ObjectNotes
relay_notes path d = object_notes (is_some (kea_relay d)) path d (own_notes relay_keys path d)

-- a subnet is described, if it is known what holds above it
abbrev pub kea_below : Option Above → List DefinedOption → Data → Option (Unit {0})
kea_below None known d = Some tt
kea_below (Some above) known d = do
  _ ← kea_subnet above known d
  Some tt

-- the notes on the values of a subnet that are wrong by themselves
unfoldable pub subnet_own : ObjectNotes
subnet_own path d =
    number_note 1 4294967294 (codes "id") path d
    ++ note_unless (is_some (get (codes "subnet") d >>= subnet_prefix)) Wrong path (codes "subnet")
    ++ text_note (codes "client-class") path d
    ++ flag_note (codes "reservations-out-of-pool") path d
    ++ boot_notes path d

-- the notes on the lists and the relay of a subnet, by these definitions; reservations are looked
-- for by these kinds of identity, and `bare` says that host names have no suffix above the subnet
unfoldable pub subnet_lists : List DefinedOption → HostKinds → Bool → ObjectNotes
subnet_lists known kinds bare path d =
    option_notes false known path d
    ++ listed_notes 64 (pool_notes known) (codes "pools") path d
    ++ listed_notes 4096 (host_notes known kinds (has_bare_names bare d)) (codes "reservations") path d
    ++ notes_at relay_notes path (codes "relay") d

-- the notes of a subnet at a path, by what holds for the whole server and these definitions
unfoldable pub subnet_notes : Around → List DefinedOption → ObjectNotes
subnet_notes around known path d =
    object_notes (is_some (kea_below (above_by around) known d)) path d
    (own_notes subnet_keys path d
    ++ subnet_values around path d
    ++ term_notes 0 around.keys path d
    ++ subnet_own path d
    ++ beside_note around.outside around.kinds around.bare known path d
    ++ subnet_lists known around.kinds around.bare path d)

-- ---- networks

-- the prefix of the subnet that a value describes
abbrev pub prefix_given : Data → Option Prefix
prefix_given d = get (codes "subnet") d >>= subnet_prefix

-- whether the interface of a network is the one with this address of the server's, if the prefixes of
-- its members are known
unfoldable pub kea_inside : ℕ → Data → Option Bool
kea_inside server d = do
  prefixes ← list_of 64 prefix_given (get (codes "subnet4") d)
  Some (is_interface_of (list_any (λ prefix. has_address prefix server) prefixes) (get (codes "interface") d))

-- the note on the interface of a network, which may only be the one with the server's address, if that
-- is known
abbrev pub inside_notes : Option ℕ → ObjectNotes
inside_notes None path d = []
inside_notes (Some server) path d =
    note_unless (is_not_failed (kea_inside server d)) Unknown path (codes "interface")

-- the notes on the keys of a network that are served with some values only, by what holds for the
-- whole server
unfoldable pub network_values : Around → ObjectNotes
network_values around path d =
    policy_notes around.policy path d
    ++ inside_notes around.address path d

-- the notes on the values of a network that are wrong by themselves
unfoldable pub network_own : ObjectNotes
network_own path d =
    note_unless (is_some (get (codes "name") d >>= as_str)) Wrong path (codes "name")
    ++ text_note (codes "client-class") path d
    ++ flag_note (codes "reservations-out-of-pool") path d
    ++ boot_notes path d

-- whether reservations of a network are looked for outside pools alone, if all that says so is right
unfoldable pub outside_in : Option Bool → Data → Option Bool
outside_in given d = do
  other ← given
  flag_or other (get (codes "reservations-out-of-pool") d)

-- what is given to the boot fields above the members of a network, if all that says so is right
unfoldable pub boot_in : Option Boot → Data → Option Boot
boot_in given d = do
  above ← given
  boot ← kea_boot d
  Some (boot_or boot above)

-- what the keys for the times of leases say above the members of a network, if all that says so is
-- right
unfoldable pub keys_in_network : Option TermKeys → Data → Option TermKeys
keys_in_network given d = do
  above ← given
  kea_keys above d

-- what holds above the members of a network, each part if it is right by itself
unfoldable pub around_members : Around → Data → Around
around_members around d =
    record { address = around.address; times = around.times; keys = keys_in_network around.keys d; by_class = around.by_class; outside = outside_in around.outside d; kinds = around.kinds; bare = has_bare_names around.bare d; policy = around.policy; boot = boot_in around.boot d }

-- the notes on the options, the members and the relay of a network, by what holds for the whole server
-- and these definitions
unfoldable pub network_lists : Around → List DefinedOption → ObjectNotes
network_lists around known path d =
    option_notes false known path d
    ++ listed_notes 64 (subnet_notes (around_members around d) known) (codes "subnet4") path d
    ++ notes_at relay_notes path (codes "relay") d

-- a network is described, if it is known what holds above it
abbrev pub network_below : Option Above → List DefinedOption → Data → Option (Unit {0})
network_below None known d = Some tt
network_below (Some above) known d = do
  _ ← kea_network above known d
  Some tt

-- the notes of a network at a path, by what holds for the whole server and these definitions
unfoldable pub network_notes : Around → List DefinedOption → ObjectNotes
network_notes around known path d =
    object_notes (is_some (network_below (above_by around) known d)) path d
    (own_notes network_keys path d
    ++ network_values around path d
    ++ term_notes 0 around.keys path d
    ++ network_own path d
    ++ network_lists around known path d)

-- ---- the whole server

-- the notes on the truth values and the boot fields in the value of `Dhcp4` that are wrong
unfoldable pub server_flags : ObjectNotes
server_flags path d =
    flag_note (codes "reservations-out-of-pool") path d
    ++ flag_note (codes "authoritative") path d
    ++ flag_note (codes "match-client-id") path d
    ++ boot_notes path d

-- the notes on the networks and the subnets of the whole server
unfoldable pub all_subnet_notes : Around → List DefinedOption → ObjectNotes
all_subnet_notes around known path d =
    listed_notes 256 (network_notes around known) (codes "shared-networks") path d
    ++ listed_notes 256 (subnet_notes around known) (codes "subnet4") path d

-- the notes on the lists in the value of `Dhcp4`, by what holds for the whole server and these
-- definitions
unfoldable pub lists_by : Around → List DefinedOption → ObjectNotes
lists_by around known path d =
    definition_notes false path d
    ++ option_notes true known path d
    ++ listed_notes 256 (class_notes known) (codes "client-classes") path d
    ++ all_subnet_notes around known path d

-- the notes on these lists, for a server with this address if no option has another
unfoldable pub server_lists : Option ℕ → ObjectNotes
server_lists server path d = lists_by (around_of server d) (usable_definitions d) path d

-- the notes of the value of `Dhcp4`, which is at a path, for such a server
unfoldable pub server_notes : Option ℕ → ObjectNotes
server_notes server path d =
    object_notes (is_some (kea_dhcp4 server d)) path d
    (own_notes server_keys path d
    ++ service_notes path d
    ++ server_times path d
    ++ server_flags path d
    ++ server_lists server path d)

-- the notes of the value of a whole text
unfoldable pub root_notes : Option ℕ → Data → List KeyNote
root_notes server d =
    object_notes (is_some (kea_root server d)) [] d
    (own_notes root_keys [] d ++ notes_at (server_notes server) [] (codes "Dhcp4") d)

-- the value that a text of Kea's spells
unfoldable pub kea_value : List ℕ → Option Data
kea_value text = plain text >>= value_spelled

-- the notes of a text, for a server with this address if no option has another; nothing if it is not
-- JSON
abbrev pub kea_notes : List ℕ → Option ℕ → Option (List KeyNote)
kea_notes text server = option_map (root_notes server) (kea_value text)
