-- A text that describes settings has no key that is refused.
use Rattle.std.proofs.Common.{◌≡◌, ℕ, ◌+◌, Bool, true, false, List, [], ◌∷◌, ◌++◌, map, codes, Option, Some, None, refl, sym, ap, ◌∙◌, subst, true≢false}
use Rattle.std.specs.List.{flat_map, list_all, list_any}
use Rattle.std.specs.Prelude.{◌||◌, if◌then◌else◌, decimal, is_some, option_map}
use Rattle.std.proofs.lemmas.List.Folds.{list_any-append}
use Rattle.serde_json.specs.Data.{Data, Items, no_items, item}
use Rattle.serde_json.specs.Find.{as_array, as_object, as_str, get}
use Rattle.kd_config.proofs.Tests.{both_passed, some_is}
use Rattle.kd_config.specs.declared.reservation.IdentityKind.{IdentityKind}
use Rattle.kd_config.specs.Address.{has_address}
use Rattle.kd_config.specs.declared.prefix.Prefix.{Prefix}
use Rattle.kd_config.specs.Classed.{class_list}
use Rattle.kd_config.specs.declared.subnet.Subnet.{Subnet}
use Rattle.kd_classes.specs.Boot.{boot_or}
use Rattle.kd_classes.specs.declared.boot.Boot.{Boot}
use Rattle.kd_classes.specs.declared.option_list.OptionData.{OptionData}
use Rattle.kd_json.proofs.Came.{came_from, passed, passed_only, seen_from}
use Rattle.kd_fields.specs.Place.{path_below}
use Rattle.kd_fields.specs.Lists.{all_of, items_or_none, list_of}
use Rattle.kd_json.specs.Subnet.{subnet_prefix}
use Rattle.kd_fields.specs.Values.{number_if_given, text_if_given}
use Rattle.kd_json.specs.declared.objects.settings.Settings.{Settings}
use Rattle.kd_keys.specs.Boot.{kea_boot, own_boot}
use Rattle.kd_kea.specs.Class.{kea_class_options, kea_class, own_class_name}
use Rattle.kd_keys.specs.Definitions.{are_apart, kea_definition, kea_definitions, kea_known, standard_records, usual_vendor}
use Rattle.kd_kea.specs.Kea.{kea_settings}
use Rattle.kd_keys.specs.HostClient.{kea_client}
use Rattle.kd_keys.specs.HostKinds.{are_all_found, is_found_if_given, kind_key, kinds_given, kinds_in_order}
use Rattle.kd_keys.specs.HostName.{has_bare_names, host_name, host_options, may_be_named, server_has_bare_names}
use Rattle.kd_keys.specs.Keys.{keys_are_read}
use Rattle.kd_kea.specs.Lifetimes.{own_lifetime, has_class_lifetime, kea_keys, usual_keys}
use Rattle.kd_keys.specs.Alone.{each_described, items_of, right_definitions, usable_definitions, with_first}
use Rattle.kd_keys.specs.Options.{is_served_if_given}
use Rattle.kd_notes.specs.Notes.{KeyNote, ObjectNotes, above_by, all_subnet_notes, around_members, around_of, beside_note, boot_in, boot_notes, class_lifetime_notes, keys_in_network, policy_notes, service_notes, term_notes, inside_notes, kea_inside, network_below, network_lists, network_notes, network_own, network_values, outside_in, prefix_given, class_notes, data_notes, definition_note, definition_notes, flag_note, have_refused, host_notes, host_values, is_not_failed, kind_notes, item_notes, kea_below, kea_beside, kea_notes, kea_value, list_notes, listed_notes, lists_by, name_notes, note_on_name, note_unless, notes_at, notes_of_each, number_note, object_notes, option_notes, or_wrong, own_notes, pool_notes, relay_notes, root_notes, server_lists, server_flags, server_notes, server_times, subnet_lists, subnet_notes, subnet_own, subnet_values, text_note, all_times, value_notes, joined_note}
use Rattle.kd_kea.specs.Network.{as_member, has_network_form, is_in_one_of, is_interface_of, kea_common, kea_member, kea_network, kea_subnets}
use Rattle.kd_keys.specs.Options.{is_served_space, kea_entry, kea_options, server_address}
use Rattle.kd_keys.specs.Parts.{parts_of_all}
use Rattle.kd_kea.specs.Pool.{kea_pool, kea_range}
use Rattle.kd_keys.specs.Policy.{kea_policy, repeats_policy}
use Rattle.kd_kea.specs.Reservation.{address_if_given, kea_reservation}
use Rattle.kd_kea.specs.Settings.{has_server_form, kea_dhcp4, kea_root, kea_settings_with}
use Rattle.kd_keys.specs.Relay.{kea_relay, relays_of}
use Rattle.kd_kea.specs.Subnet.{above_within, has_subnet_form, is_at_server, kea_subnet, kea_subnet_with, stand_beside}
use Rattle.kd_keys.specs.ClassNames.{classes_given}
use Rattle.kd_keys.specs.Tables.{class_keys, data_keys, definition_keys, host_keys, network_keys, pool_keys, relay_keys, root_keys, server_keys, subnet_keys}
use Rattle.kd_kea.specs.Times.{kea_times}
use Rattle.kd_keys.specs.Values.{flag_given, flag_or, text_otherwise, unless_empty}
use Rattle.kd_notes.specs.declared.notes.NoteKind.TheVariants.{Unknown, Wrong}
use Rattle.kd_notes.specs.declared.around.Around.{Around}
use Rattle.kd_keys.specs.declared.definition.DefinedOption.{DefinedOption}
use Rattle.kd_keys.specs.declared.host_kinds.HostKinds.{HostKinds}
use Rattle.kd_kea.specs.declared.objects.lifetimes.TermKeys.{TermKeys}
use Rattle.kd_kea.specs.declared.objects.network.Common.{Common}
use Rattle.kd_config.specs.declared.extensions.Policy.{Policy}
use Rattle.kd_kea.specs.declared.objects.subnet.Above.{Above}
use Rattle.kd_wire.specs.Steps.{◌>>=◌}
use Rattle.kd_notes.proofs.NoneWrong.{none_in_both, own_boot_pass, boot_pass, own_pass, unless_none, right, flag_right, wrong_none, object_none, is_object, form_of, services_pass, bind_is, server_times_pass, Fits, subnet_values_pass, address_known, around_fits, above_known, below_known, class_lifetime_pass, must_hold, policy_pass, term_pass}

-- ---- definitions, each by itself

each_all : {A : Type 0} (means : Data → Option A) (items : Items) (xs : List A) → all_of means items ≡ Some xs → each_described means items ≡ xs
each_all means no_items xs e = some_is [] xs e
each_all {A} means (item d ds) xs e =
    let first = came_from (means d) _ xs e in
    let rest = came_from (all_of means ds) _ xs first.gives in
    subst (λ (o : Option A). with_first o (each_described means ds) ≡ xs) (sym first.is)
    (ap (λ (ys : List A). first.first ∷ ys) (each_all means ds rest.first rest.is) ∙ some_is (first.first ∷ rest.first) xs rest.gives)

each_listed : {A : Type 0} (most : ℕ) (means : Data → Option A) (value : Option Data) (xs : List A) → list_of most means value ≡ Some xs → each_described means (items_of (value >>= as_array)) ≡ xs
unfolding list_of
each_listed most means None xs e = some_is [] xs e
each_listed most means (Some d) xs e =
    let read = came_from (items_or_none most (Some d)) (all_of means) xs e in
    let items = came_from (as_array d) _ read.first read.is in
    let few = passed_only _ items.first read.first items.gives in
    rw items.is (each_all means items.first xs (subst (λ (ds : Items). all_of means ds ≡ Some xs) (sym few.1) read.gives))

right_all : (in_class : Bool) (d : Data) (its : List DefinedOption) → kea_definitions in_class (get (codes "option-def") d) ≡ Some its → right_definitions in_class d ≡ its
unfolding kea_definitions right_definitions
right_all in_class d its e =
    let read = came_from (list_of 256 (kea_definition in_class) (get (codes "option-def") d)) _ its e in
    let apart = passed_only (are_apart read.first) read.first its read.gives in
    each_listed 256 (kea_definition in_class) (get (codes "option-def") d) read.first read.is ∙ apart.1

known_same : (d : Data) (known : List DefinedOption) → kea_known (get (codes "option-def") d) ≡ Some known → usable_definitions d ≡ known
unfolding kea_known usable_definitions
known_same d known e =
    let own = came_from (kea_definitions false (get (codes "option-def") d)) _ known e in
    ap (λ (its : List DefinedOption). its ++ usual_vendor ∷ standard_records) (right_all false d own.first own.is) ∙ some_is (own.first ++ usual_vendor ∷ standard_records) known own.gives

-- ---- the objects in an object

-- what describes a value has no key that is refused, at any path
abbrev NoneRefused : {A : Type 0} → (Data → Option A) → (ObjectNotes) → Type 0
NoneRefused {A} means notes = (d : Data) (a : A) (path : List ℕ) → means d ≡ Some a → have_refused (notes path d) ≡ false

items_pass : {A : Type 0} (means : Data → Option A) (notes : ObjectNotes) → NoneRefused means notes → (path : List ℕ) (index : ℕ) (items : Items) (xs : List A) → all_of means items ≡ Some xs → have_refused (item_notes notes path index items) ≡ false
items_pass means notes each path index no_items xs e = refl
items_pass means notes each path index (item d ds) xs e =
    let first = came_from (means d) _ xs e in
    let rest = came_from (all_of means ds) _ xs first.gives in
    none_in_both (notes (path_below path (decimal index)) d) (item_notes notes path (index + 1) ds)
    (each d first.first (path_below path (decimal index)) first.is) (items_pass means notes each path (index + 1) ds rest.first rest.is)

list_at_pass : {A : Type 0} (most : ℕ) (means : Data → Option A) (notes : ObjectNotes) → NoneRefused means notes → (path : List ℕ) (value : Option Data) (xs : List A) → list_of most means value ≡ Some xs → have_refused (list_notes notes path (value >>= as_array)) ≡ false
unfolding list_of
list_at_pass most means notes each path None xs e = refl
list_at_pass most means notes each path (Some d) xs e =
    let read = came_from (items_or_none most (Some d)) (all_of means) xs e in
    let items = came_from (as_array d) _ read.first read.is in
    let few = passed_only _ items.first read.first items.gives in
    rw items.is (items_pass means notes each path 0 items.first xs (subst (λ (ds : Items). all_of means ds ≡ Some xs) (sym few.1) read.gives))

listed_pass : {A : Type 0} (most : ℕ) (means : Data → Option A) (notes : ObjectNotes) → NoneRefused means notes → (key path : List ℕ) (d : Data) (xs : List A) → list_of most means (get key d) ≡ Some xs → have_refused (listed_notes most notes key path d) ≡ false
unfolding list_of
listed_pass most means notes each key path d xs e =
    let read = came_from (items_or_none most (get key d)) (all_of means) xs e in
    none_in_both (note_unless (is_some (items_or_none most (get key d))) Wrong path key) (notes_of_each notes path key d)
    (right (items_or_none most (get key d)) read.first path key read.is)
    (list_at_pass most means notes each (path_below path key) (get key d) xs e)

-- ---- the kinds of objects

space_pass : (value : Option Data) (space : List ℕ) → text_otherwise (codes "dhcp4") value ≡ Some space → is_served_space space ≡ true → is_served_if_given (value >>= as_str) ≡ true
space_pass None space e f = refl
space_pass (Some d) space e f = subst (λ (o : Option (List ℕ)). is_served_if_given o ≡ true) (sym e) f

entry_pass : (for_all : Bool) (known : List DefinedOption) → NoneRefused (kea_entry for_all known) (data_notes for_all known)
unfolding kea_entry data_notes
entry_pass for_all known d entry path e =
    let keys = passed (keys_are_read data_keys d) _ entry e in
    let space = came_from (text_otherwise (codes "dhcp4") (get (codes "space") d)) _ entry keys.1 in
    let served = passed (is_served_space space.first) _ entry space.gives in
    let of_space = note_unless (is_served_if_given (get (codes "space") d >>= as_str)) Unknown path (codes "space") in
    object_none (kea_entry for_all known d) entry path d (own_notes data_keys path d ++ of_space) e (is_object data_keys d keys.0)
    (none_in_both (own_notes data_keys path d) of_space (own_pass data_keys path d keys.0)
    (unless_none (is_served_if_given (get (codes "space") d >>= as_str)) Unknown path (codes "space") (space_pass (get (codes "space") d) space.first space.is served.0)))

options_pass : (for_all : Bool) (known : List DefinedOption) (d : Data) (options : List OptionData) (path : List ℕ) → kea_options for_all known (get (codes "option-data") d) ≡ Some options → have_refused (option_notes for_all known path d) ≡ false
unfolding kea_options option_notes
options_pass for_all known d options path e =
    let read = came_from (list_of 64 (kea_entry for_all known) (get (codes "option-data") d)) _ options e in
    wrong_none (is_some (kea_options for_all known (get (codes "option-data") d))) (path_below path (codes "option-data")) (notes_of_each (data_notes for_all known) path (codes "option-data") d) (ap is_some e)
    (list_at_pass 64 (kea_entry for_all known) (data_notes for_all known) (entry_pass for_all known) (path_below path (codes "option-data")) (get (codes "option-data") d) read.first read.is)

definition_pass : (in_class : Bool) → NoneRefused (kea_definition in_class) (definition_note in_class)
unfolding kea_definition definition_note
definition_pass in_class d it path e =
    let keys = passed (keys_are_read definition_keys d) _ it e in
    object_none (kea_definition in_class d) it path d (own_notes definition_keys path d) e (is_object definition_keys d keys.0) (own_pass definition_keys path d keys.0)

definitions_pass : (in_class : Bool) (d : Data) (its : List DefinedOption) (path : List ℕ) → kea_definitions in_class (get (codes "option-def") d) ≡ Some its → have_refused (definition_notes in_class path d) ≡ false
unfolding kea_definitions definition_notes
definitions_pass in_class d its path e =
    let read = came_from (list_of 256 (kea_definition in_class) (get (codes "option-def") d)) _ its e in
    wrong_none (is_some (kea_definitions in_class (get (codes "option-def") d))) (path_below path (codes "option-def")) (notes_of_each (definition_note in_class) path (codes "option-def") d) (ap is_some e)
    (list_at_pass 256 (kea_definition in_class) (definition_note in_class) (definition_pass in_class) (path_below path (codes "option-def")) (get (codes "option-def") d) read.first read.is)

pool_pass : (known : List DefinedOption) → NoneRefused (kea_pool known) (pool_notes known)
unfolding kea_pool pool_notes
pool_pass known d pool path e =
    let keys = passed (keys_are_read pool_keys d) _ pool e in
    let range = came_from (get (codes "pool") d >>= kea_range) _ pool keys.1 in
    let class = came_from (text_if_given (get (codes "client-class") d)) _ pool range.gives in
    let options = came_from (kea_options false known (get (codes "option-data") d)) _ pool class.gives in
    let keyed = own_notes pool_keys path d in
    let of_range = note_unless (is_some (get (codes "pool") d >>= kea_range)) Wrong path (codes "pool") in
    let of_class = text_note (codes "client-class") path d in
    object_none (kea_pool known d) pool path d (keyed ++ of_range ++ of_class ++ option_notes false known path d) e (is_object pool_keys d keys.0)
    (none_in_both (keyed ++ of_range ++ of_class) (option_notes false known path d)
    (none_in_both (keyed ++ of_range) of_class
    (none_in_both keyed of_range (own_pass pool_keys path d keys.0) (right (get (codes "pool") d >>= kea_range) range.first path (codes "pool") range.is))
    (right (text_if_given (get (codes "client-class") d)) class.first path (codes "client-class") class.is))
    (options_pass false known d options.first path options.is))

-- the options of a reservation
record HostPass (known : List DefinedOption) (bare : Bool) (path : List ℕ) (d : Data) : Type 0 where
  name : have_refused (name_notes bare path d) ≡ false
  options : have_refused (option_notes false known path d) ≡ false

host_options_pass : (known : List DefinedOption) (bare : Bool) (path : List ℕ) (d : Data) (options : List OptionData) → host_options known bare d ≡ Some options → HostPass known bare path d
unfolding host_options
host_options_pass known bare path d options e =
    let name = came_from (host_name (get (codes "hostname") d)) _ options e in
    let may = passed (may_be_named bare name.first) _ options name.gives in
    let own = came_from (kea_options false known (get (codes "option-data") d)) _ options may.1 in
    record {
      name = subst (λ o. have_refused (note_on_name bare o path) ≡ false) (sym name.is) (unless_none (may_be_named bare name.first) Unknown path (codes "hostname") may.0);
      options = options_pass false known d own.first path own.is;
    }

-- the kinds of identity of a reservation
kinds_pass_by : (found : HostKinds) (path : List ℕ) (d : Data) (kinds : List IdentityKind) → list_all (is_found_if_given found d) kinds ≡ true
    → have_refused (flat_map (λ kind. note_unless (is_found_if_given found d kind) Unknown path (kind_key kind)) kinds) ≡ false
kinds_pass_by found path d [] e = refl
kinds_pass_by found path d (kind ∷ kinds) e =
    let both = both_passed (is_found_if_given found d kind) (list_all (is_found_if_given found d) kinds) e in
    none_in_both (note_unless (is_found_if_given found d kind) Unknown path (kind_key kind))
    (flat_map (λ kind. note_unless (is_found_if_given found d kind) Unknown path (kind_key kind)) kinds)
    (unless_none (is_found_if_given found d kind) Unknown path (kind_key kind) both.0)
    (kinds_pass_by found path d kinds both.1)

kinds_pass : (found : HostKinds) (path : List ℕ) (d : Data) → are_all_found found d ≡ true → have_refused (kind_notes found path d) ≡ false
kinds_pass found path d e = kinds_pass_by found path d kinds_in_order e

host_pass : (known : List DefinedOption) (kinds : HostKinds) (bare : Bool) → NoneRefused (kea_reservation known kinds bare) (host_notes known kinds bare)
unfolding kea_reservation host_notes host_values joined_note
host_pass known kinds bare d r path e =
    let keys = passed (keys_are_read host_keys d) _ r e in
    let found = passed (are_all_found kinds d) _ r keys.1 in
    let client = came_from (kea_client d) _ r found.1 in
    let address = came_from (address_if_given (get (codes "ip-address") d)) _ r client.gives in
    let options = came_from (host_options known bare d) _ r address.gives in
    let boot = came_from (own_boot d) _ r options.gives in
    let joins = came_from (classes_given d) _ r boot.gives in
    let given = host_options_pass known bare path d options.first options.is in
    let keyed = own_notes host_keys path d in
    let values = host_values kinds bare path d in
    let of_boot = boot_notes path d in
    object_none (kea_reservation known kinds bare d) r path d (keyed ++ values ++ of_boot ++ option_notes false known path d) e (is_object host_keys d keys.0)
    (none_in_both (keyed ++ values ++ of_boot) (option_notes false known path d)
    (none_in_both (keyed ++ values) of_boot
    (none_in_both keyed values (own_pass host_keys path d keys.0)
    (none_in_both (kind_notes kinds path d ++ name_notes bare path d) (joined_note path d)
    (none_in_both (kind_notes kinds path d) (name_notes bare path d) (kinds_pass kinds path d found.0) given.name)
    (right (classes_given d) joins.first path (codes "client-classes") joins.is)))
    (own_boot_pass path d boot.first boot.is)) given.options)

class_pass : (known : List DefinedOption) → NoneRefused (kea_class known) (class_notes known)
unfolding kea_class kea_class_options class_notes
class_pass known d class path e =
    let keys = passed (keys_are_read class_keys d) _ class e in
    let name = came_from (get (codes "name") d >>= own_class_name) _ class keys.1 in
    let text = came_from (text_if_given (get (codes "test") d)) _ class name.gives in
    let options = came_from (kea_class_options known d) _ class text.gives in
    let boot = came_from (own_boot d) _ class options.gives in
    let lifetime = came_from (own_lifetime d) _ class boot.gives in
    let own = came_from (kea_definitions true (get (codes "option-def") d)) _ options.first options.is in
    let keyed = own_notes class_keys path d in
    let of_name = note_unless (is_some (get (codes "name") d >>= own_class_name)) Wrong path (codes "name") in
    let of_test = text_note (codes "test") path d in
    let of_boot = boot_notes path d in
    let of_lifetime = class_lifetime_notes path d in
    let definitions = definition_notes true path d in
    let given = option_notes false (right_definitions true d ++ known) path d in
    object_none (kea_class known d) class path d (keyed ++ of_name ++ of_test ++ of_boot ++ of_lifetime ++ definitions ++ given) e (is_object class_keys d keys.0)
    (none_in_both (keyed ++ of_name ++ of_test ++ of_boot ++ of_lifetime ++ definitions) given
    (none_in_both (keyed ++ of_name ++ of_test ++ of_boot ++ of_lifetime) definitions
    (none_in_both (keyed ++ of_name ++ of_test ++ of_boot) of_lifetime
    (none_in_both (keyed ++ of_name ++ of_test) of_boot
    (none_in_both (keyed ++ of_name) of_test
    (none_in_both keyed of_name (own_pass class_keys path d keys.0) (right (get (codes "name") d >>= own_class_name) name.first path (codes "name") name.is))
    (right (text_if_given (get (codes "test") d)) text.first path (codes "test") text.is))
    (own_boot_pass path d boot.first boot.is))
    (class_lifetime_pass path d lifetime.first lifetime.is))
    (definitions_pass true d own.first path own.is))
    (subst (λ (its : List DefinedOption). have_refused (option_notes false (its ++ known) path d) ≡ false) (sym (right_all true d own.first own.is)) (options_pass false (own.first ++ known) d options.first path own.gives)))

relay_pass : (path : List ℕ) (value : Option Data) (relays : List ℕ) → relays_of value ≡ Some relays → have_refused (value_notes relay_notes path value) ≡ false
unfolding relay_notes kea_relay
relay_pass path None relays e = refl
relay_pass path (Some d) relays e =
    let keys = passed (keys_are_read relay_keys d) _ relays e in
    object_none (kea_relay d) relays path d (own_notes relay_keys path d) e (is_object relay_keys d keys.0) (own_pass relay_keys path d keys.0)

-- what a value with the form of a subnet has
record HasSubnetForm (above : Above) (d : Data) : Type 0 where
  keys : keys_are_read subnet_keys d ≡ true
  policy : repeats_policy above.policy d ≡ true
  id : is_some (number_if_given 1 4294967294 1 (get (codes "id") d)) ≡ true

subnet_form : (above : Above) (d : Data) → has_subnet_form above d ≡ Some tt → HasSubnetForm above d
unfolding has_subnet_form
subnet_form above d e =
    let keys = passed (keys_are_read subnet_keys d) _ tt e in
    let policy = passed (repeats_policy above.policy d) _ tt keys.1 in
    let id = came_from (number_if_given 1 4294967294 1 (get (codes "id") d)) _ tt policy.1 in
    record { keys = keys.0; policy = policy.0; id = ap is_some id.is }

-- what holds in a value is what its keys say, and else what holds above it
record Within (above within : Above) (d : Data) : Type 0 where
  server : within.server ≡ above.server
  times : within.times ≡ above.times
  keys : kea_keys above.keys d ≡ Some within.keys
  by_class : within.by_class ≡ above.by_class
  outside : flag_or above.outside (get (codes "reservations-out-of-pool") d) ≡ Some within.outside
  kinds : within.kinds ≡ above.kinds
  bare : within.bare ≡ has_bare_names above.bare d
  policy : within.policy ≡ above.policy
  boot : boot_in (Some above.boot) d ≡ Some within.boot
  noted : (path : List ℕ) → have_refused (boot_notes path d) ≡ false

within_of : (above within : Above) (d : Data) → above_within above d ≡ Some within → Within above within d
unfolding above_within boot_in
within_of above within d e =
    let keys = came_from (kea_keys above.keys d) _ within e in
    let outside = came_from (flag_or above.outside (get (codes "reservations-out-of-pool") d)) _ within keys.gives in
    let boot = came_from (kea_boot d) _ within outside.gives in
    subst (λ (w : Above). Within above w d) (some_is _ within boot.gives) (record {
      server = refl;
      times = refl;
      keys = keys.is;
      by_class = refl;
      outside = outside.is;
      kinds = refl;
      bare = refl;
      policy = refl;
      boot = bind_is (kea_boot d) boot.first _ (boot_or boot.first above.boot) boot.is refl;
      noted = λ path. boot_pass path d boot.first boot.is;
    })

-- the lists and the relay of a subnet
record ListsPass (known : List DefinedOption) (kinds : HostKinds) (bare : Bool) (path : List ℕ) (d : Data) : Type 0 where
  options : have_refused (option_notes false known path d) ≡ false
  relay : have_refused (notes_at relay_notes path (codes "relay") d) ≡ false
  pools : have_refused (listed_notes 64 (pool_notes known) (codes "pools") path d) ≡ false
  hosts : have_refused (listed_notes 4096 (host_notes known kinds bare) (codes "reservations") path d) ≡ false

subnet_lists_pass : (known : List DefinedOption) (within : Above) (prefix : Prefix) (classes : List (List ℕ)) (path : List ℕ) (d : Data) (subnet : Subnet) → kea_subnet_with known within prefix classes d ≡ Some subnet → ListsPass known within.kinds within.bare path d
unfolding kea_subnet_with
subnet_lists_pass known within prefix classes path d subnet e =
    let relays = came_from (relays_of (get (codes "relay") d)) _ subnet e in
    let parts = came_from (list_of 64 (kea_pool known) (get (codes "pools") d) >>= parts_of_all) _ subnet relays.gives in
    let pools = came_from (list_of 64 (kea_pool known) (get (codes "pools") d)) parts_of_all parts.first parts.is in
    let hosts = came_from (list_of 4096 (kea_reservation known within.kinds within.bare) (get (codes "reservations") d)) _ subnet parts.gives in
    let beside = passed (stand_beside within.outside parts.first hosts.first) _ subnet hosts.gives in
    let options = came_from (kea_options false known (get (codes "option-data") d)) _ subnet beside.1 in
    record {
      options = options_pass false known d options.first path options.is;
      relay = relay_pass (path_below path (codes "relay")) (get (codes "relay") d) relays.first relays.is;
      pools = listed_pass 64 (kea_pool known) (pool_notes known) (pool_pass known) (codes "pools") path d pools.first pools.is;
      hosts = listed_pass 4096 (kea_reservation known within.kinds within.bare) (host_notes known within.kinds within.bare) (host_pass known within.kinds within.bare) (codes "reservations") path d hosts.first hosts.is;
    }

beside_pass : (given : Option Bool) (kinds : HostKinds) (other bare : Bool) (known : List DefinedOption) (within : Above) (prefix : Prefix) (classes : List (List ℕ)) (path : List ℕ) (d : Data) (subnet : Subnet) → given ≡ Some other → flag_or other (get (codes "reservations-out-of-pool") d) ≡ Some within.outside → within.kinds ≡ kinds → within.bare ≡ has_bare_names bare d → kea_subnet_with known within prefix classes d ≡ Some subnet
    → have_refused (beside_note given kinds bare known path d) ≡ false
unfolding kea_subnet_with kea_beside
beside_pass given kinds other bare known within prefix classes path d subnet e f same_kinds same_bare g =
    let relays = came_from (relays_of (get (codes "relay") d)) _ subnet g in
    let pools = came_from (list_of 64 (kea_pool known) (get (codes "pools") d) >>= parts_of_all) _ subnet relays.gives in
    let hosts = came_from (list_of 4096 (kea_reservation known within.kinds within.bare) (get (codes "reservations") d)) _ subnet pools.gives in
    let beside = passed (stand_beside within.outside pools.first hosts.first) _ subnet hosts.gives in
    let of_kinds = subst (λ (k : HostKinds). list_of 4096 (kea_reservation known k within.bare) (get (codes "reservations") d) ≡ Some hosts.first) same_kinds hosts.is in
    let of_both = subst (λ (b : Bool). list_of 4096 (kea_reservation known kinds b) (get (codes "reservations") d) ≡ Some hosts.first) same_bare of_kinds in
    let all_right : kea_beside given kinds bare known d ≡ Some true =
    bind_is given other _ true e
    (bind_is (flag_or other (get (codes "reservations-out-of-pool") d)) within.outside _ true f
    (bind_is (list_of 64 (kea_pool known) (get (codes "pools") d) >>= parts_of_all) pools.first _ true pools.is
    (bind_is (list_of 4096 (kea_reservation known kinds (has_bare_names bare d)) (get (codes "reservations") d)) hosts.first _ true of_both
    (ap Some beside.0)))) in
    unless_none (is_not_failed (kea_beside given kinds bare known d)) Unknown path (codes "reservations-out-of-pool") (ap is_not_failed all_right)

subnet_own_pass : (above : Above) (path : List ℕ) (d : Data) (prefix : Prefix) (class : Option (List ℕ)) (outside : Bool) → HasSubnetForm above d → (get (codes "subnet") d >>= subnet_prefix) ≡ Some prefix → text_if_given (get (codes "client-class") d) ≡ Some class → flag_or above.outside (get (codes "reservations-out-of-pool") d) ≡ Some outside → have_refused (boot_notes path d) ≡ false
    → have_refused (subnet_own path d) ≡ false
unfolding subnet_own
subnet_own_pass above path d prefix class outside form e f g boot =
    let of_id = number_note 1 4294967294 (codes "id") path d in
    let of_prefix = note_unless (is_some (get (codes "subnet") d >>= subnet_prefix)) Wrong path (codes "subnet") in
    let of_class = text_note (codes "client-class") path d in
    let of_outside = flag_note (codes "reservations-out-of-pool") path d in
    none_in_both (of_id ++ of_prefix ++ of_class ++ of_outside) (boot_notes path d)
    (none_in_both (of_id ++ of_prefix ++ of_class) of_outside
    (none_in_both (of_id ++ of_prefix) of_class
    (none_in_both of_id of_prefix
    (unless_none (is_some (number_if_given 1 4294967294 1 (get (codes "id") d))) Wrong path (codes "id") form.id)
    (right (get (codes "subnet") d >>= subnet_prefix) prefix path (codes "subnet") e))
    (right (text_if_given (get (codes "client-class") d)) class path (codes "client-class") f))
    (unless_none (is_some (flag_given (get (codes "reservations-out-of-pool") d))) Wrong path (codes "reservations-out-of-pool") (flag_right above.outside (get (codes "reservations-out-of-pool") d) outside g)))
    boot

subnet_pass : (above : Above) (around : Around) → Fits above around → (known : List DefinedOption) → NoneRefused (kea_subnet above known) (subnet_notes around known)
unfolding kea_subnet subnet_notes subnet_lists
subnet_pass above around fits known d subnet path e =
    let given = came_from (has_subnet_form above d) _ subnet e in
    let form = subnet_form above d given.is in
    let prefix = came_from (get (codes "subnet") d >>= subnet_prefix) _ subnet given.gives in
    let link = passed (is_at_server above.server prefix.first (get (codes "interface") d)) _ subnet prefix.gives in
    let class = came_from (text_if_given (get (codes "client-class") d)) _ subnet link.1 in
    let within = came_from (above_within above d) _ subnet class.gives in
    let inside = within_of above within.first d within.is in
    let bare = has_bare_names around.bare d in
    let same_kinds = inside.kinds ∙ sym fits.kinds in
    let same_bare = inside.bare ∙ ap (λ (b : Bool). has_bare_names b d) (sym fits.bare) in
    let listed = subnet_lists_pass known within.first prefix.first (class_list (unless_empty class.first)) path d subnet within.gives in
    let lists = subst (λ (b : Bool). ListsPass known around.kinds b path d) same_bare (subst (λ (k : HostKinds). ListsPass known k within.first.bare path d) same_kinds listed) in
    let keyed = own_notes subnet_keys path d in
    let values = subnet_values around path d in
    let own_times = term_notes 0 around.keys path d in
    let own = subnet_own path d in
    let options = option_notes false known path d in
    let pools = listed_notes 64 (pool_notes known) (codes "pools") path d in
    let hosts = listed_notes 4096 (host_notes known around.kinds bare) (codes "reservations") path d in
    let relay = notes_at relay_notes path (codes "relay") d in
    let beside = beside_note around.outside around.kinds around.bare known path d in
    object_none (kea_below (above_by around) known d) tt path d (keyed ++ values ++ own_times ++ own ++ beside ++ (options ++ pools ++ hosts ++ relay))
    (below_known (above_by around) above known d subnet (above_known above around fits) e) (is_object subnet_keys d form.keys)
    (none_in_both (keyed ++ values ++ own_times ++ own ++ beside) (options ++ pools ++ hosts ++ relay)
    (none_in_both (keyed ++ values ++ own_times ++ own) beside
    (none_in_both (keyed ++ values ++ own_times) own
    (none_in_both (keyed ++ values) own_times
    (none_in_both keyed values (own_pass subnet_keys path d form.keys) (subnet_values_pass above around fits path d prefix.first form.policy prefix.is link.0))
    (term_pass around.keys above.keys within.first.keys path d fits.keys inside.keys))
    (subnet_own_pass above path d prefix.first class.first within.first.outside form prefix.is class.is inside.outside (inside.noted path)))
    (beside_pass around.outside around.kinds above.outside around.bare known within.first prefix.first (class_list (unless_empty class.first)) path d subnet fits.outside inside.outside same_kinds same_bare within.gives))
    (none_in_both (options ++ pools ++ hosts) relay
    (none_in_both (options ++ pools) hosts
    (none_in_both options pools lists.options lists.pools)
    lists.hosts)
    lists.relay))

-- ---- networks

-- what a value with the form of a network has
record HasNetworkForm (above : Above) (d : Data) : Type 0 where
  keys : keys_are_read network_keys d ≡ true
  policy : repeats_policy above.policy d ≡ true
  name : is_some (get (codes "name") d >>= as_str) ≡ true

network_form : (above : Above) (d : Data) → has_network_form above d ≡ Some tt → HasNetworkForm above d
unfolding has_network_form
network_form above d e =
    let keys = passed (keys_are_read network_keys d) _ tt e in
    let policy = passed (repeats_policy above.policy d) _ tt keys.1 in
    record { keys = keys.0; policy = policy.0; name = must_hold (is_some (get (codes "name") d >>= as_str)) policy.1 }

-- the prefix of a member is the one that its value gives
member_prefix : (above : Above) (known : List DefinedOption) (common : Common) (d : Data) (member : Subnet) → kea_member above known common d ≡ Some member → prefix_given d ≡ Some member.prefix
unfolding kea_member as_member kea_subnet kea_subnet_with
member_prefix above known common d member e =
    let subnet = came_from (kea_subnet above known d) _ member e in
    let form = came_from (has_subnet_form above d) _ subnet.first subnet.is in
    let prefix = came_from (prefix_given d) _ subnet.first form.gives in
    let link = passed (is_at_server above.server prefix.first (get (codes "interface") d)) _ subnet.first prefix.gives in
    let class = came_from (text_if_given (get (codes "client-class") d)) _ subnet.first link.1 in
    let within = came_from (above_within above d) _ subnet.first class.gives in
    let relays = came_from (relays_of (get (codes "relay") d)) _ subnet.first within.gives in
    let pools = came_from (list_of 64 (kea_pool known) (get (codes "pools") d) >>= parts_of_all) _ subnet.first relays.gives in
    let hosts = came_from (list_of 4096 (kea_reservation known within.first.kinds within.first.bare) (get (codes "reservations") d)) _ subnet.first pools.gives in
    let beside = passed (stand_beside within.first.outside pools.first hosts.first) _ subnet.first hosts.gives in
    let options = came_from (kea_options false known (get (codes "option-data") d)) _ subnet.first beside.1 in
    prefix.is ∙ (ap (λ (s : Subnet). Some s.prefix) (some_is _ subnet.first options.gives) ∙ ap (λ (s : Subnet). Some s.prefix) (some_is _ member subnet.gives))

member_prefixes : (above : Above) (known : List DefinedOption) (common : Common) (items : Items) (members : List Subnet) → all_of (kea_member above known common) items ≡ Some members → all_of prefix_given items ≡ Some (map (λ (s : Subnet). s.prefix) members)
member_prefixes above known common no_items members e = ap (λ (xs : List Subnet). Some (map (λ (s : Subnet). s.prefix) xs)) (some_is [] members e)
member_prefixes above known common (item d ds) members e =
    let first = came_from (kea_member above known common d) _ members e in
    let rest = came_from (all_of (kea_member above known common) ds) _ members first.gives in
    let prefixes = map (λ (s : Subnet). s.prefix) rest.first in
    bind_is (prefix_given d) first.first.prefix _ _ (member_prefix above known common d first.first first.is)
    (bind_is (all_of prefix_given ds) prefixes _ _ (member_prefixes above known common ds rest.first rest.is)
    (ap (λ (xs : List Subnet). Some (map (λ (s : Subnet). s.prefix) xs)) (some_is (first.first ∷ rest.first) members rest.gives)))

listed_prefixes : (above : Above) (known : List DefinedOption) (common : Common) (value : Option Data) (members : List Subnet) → list_of 64 (kea_member above known common) value ≡ Some members → list_of 64 prefix_given value ≡ Some (map (λ (s : Subnet). s.prefix) members)
unfolding list_of
listed_prefixes above known common value members e =
    let items = came_from (items_or_none 64 value) _ members e in
    bind_is (items_or_none 64 value) items.first _ _ items.is (member_prefixes above known common items.first members items.gives)

-- an address is in one of the members exactly if it is in one of their prefixes
any_prefix : (server : ℕ) (members : List Subnet) → list_any (λ prefix. has_address prefix server) (map (λ (s : Subnet). s.prefix) members) ≡ is_in_one_of members server
any_prefix server [] = refl
any_prefix server (s ∷ members) = ap (λ (b : Bool). has_address s.prefix server || b) (any_prefix server members)

inside_pass_by : (server : ℕ) (path : List ℕ) (d : Data) (prefixes : List Prefix) → list_of 64 prefix_given (get (codes "subnet4") d) ≡ Some prefixes → is_interface_of (list_any (λ prefix. has_address prefix server) prefixes) (get (codes "interface") d) ≡ true
    → have_refused (inside_notes (Some server) path d) ≡ false
unfolding kea_inside
inside_pass_by server path d prefixes e f =
    let here : kea_inside server d ≡ Some true = bind_is (list_of 64 prefix_given (get (codes "subnet4") d)) prefixes _ true e (ap Some f) in
    unless_none (is_not_failed (kea_inside server d)) Unknown path (codes "interface") (ap is_not_failed here)

inside_pass : (given : Option ℕ) (server : ℕ) (inner : Above) (known : List DefinedOption) (common : Common) (path : List ℕ) (d : Data) (members : List Subnet) → given ≡ Some server → list_of 64 (kea_member inner known common) (get (codes "subnet4") d) ≡ Some members → is_interface_of (is_in_one_of members server) (get (codes "interface") d) ≡ true
    → have_refused (inside_notes given path d) ≡ false
inside_pass given server inner known common path d members e f g =
    let prefixes = map (λ (s : Subnet). s.prefix) members in
    let inside = ap (λ (b : Bool). is_interface_of b (get (codes "interface") d)) (any_prefix server members) ∙ g in
    subst (λ (o : Option ℕ). have_refused (inside_notes o path d) ≡ false) (sym e)
    (inside_pass_by server path d prefixes (listed_prefixes inner known common (get (codes "subnet4") d) members f) inside)

network_values_pass : (above : Above) (around : Around) → Fits above around → (path : List ℕ) (d : Data) → repeats_policy above.policy d ≡ true → have_refused (inside_notes around.address path d) ≡ false
    → have_refused (network_values around path d) ≡ false
unfolding network_values
network_values_pass above around fits path d same inside =
    none_in_both (policy_notes around.policy path d) (inside_notes around.address path d) (policy_pass around.policy above.policy path d fits.policy same) inside

network_own_pass : (path : List ℕ) (d : Data) (other outside : Bool) → is_some (get (codes "name") d >>= as_str) ≡ true → is_some (text_if_given (get (codes "client-class") d)) ≡ true → flag_or other (get (codes "reservations-out-of-pool") d) ≡ Some outside → have_refused (boot_notes path d) ≡ false
    → have_refused (network_own path d) ≡ false
unfolding network_own
network_own_pass path d other outside e f g boot =
    let of_name = note_unless (is_some (get (codes "name") d >>= as_str)) Wrong path (codes "name") in
    let of_class = text_note (codes "client-class") path d in
    let of_outside = flag_note (codes "reservations-out-of-pool") path d in
    none_in_both (of_name ++ of_class ++ of_outside) (boot_notes path d)
    (none_in_both (of_name ++ of_class) of_outside
    (none_in_both of_name of_class
    (unless_none (is_some (get (codes "name") d >>= as_str)) Wrong path (codes "name") e)
    (unless_none (is_some (text_if_given (get (codes "client-class") d))) Wrong path (codes "client-class") f))
    (unless_none (is_some (flag_given (get (codes "reservations-out-of-pool") d))) Wrong path (codes "reservations-out-of-pool") (flag_right other (get (codes "reservations-out-of-pool") d) outside g)))
    boot

-- what holds above the members of a network is known of each part
members_fit : (above within : Above) (around : Around) → Fits above around → (d : Data) → Within above within d → Fits within (around_members around d)
unfolding around_members keys_in_network outside_in
members_fit above within around fits d inside =
    record {
      address = fits.address ∙ ap Some (sym inside.server);
      times = fits.times ∙ ap Some (sym inside.times);
      keys = bind_is around.keys above.keys (λ (k : TermKeys). kea_keys k d) within.keys fits.keys inside.keys;
      by_class = fits.by_class ∙ sym inside.by_class;
      outside = bind_is around.outside above.outside (λ (b : Bool). flag_or b (get (codes "reservations-out-of-pool") d)) within.outside fits.outside inside.outside;
      kinds = fits.kinds ∙ sym inside.kinds;
      bare = ap (λ (b : Bool). has_bare_names b d) fits.bare ∙ sym inside.bare;
      policy = fits.policy ∙ ap Some (sym inside.policy);
      boot = subst (λ (o : Option Boot). boot_in o d ≡ Some within.boot) (sym fits.boot) inside.boot;
    }

member_pass : (above : Above) (around : Around) → Fits above around → (known : List DefinedOption) (common : Common) → NoneRefused (kea_member above known common) (subnet_notes around known)
unfolding kea_member
member_pass above around fits known common d member path e =
    let subnet = came_from (kea_subnet above known d) _ member e in
    subnet_pass above around fits known d subnet.first path subnet.is

-- what the members of a network have in common
record CommonPass (known : List DefinedOption) (path : List ℕ) (d : Data) : Type 0 where
  relay : have_refused (notes_at relay_notes path (codes "relay") d) ≡ false
  class : is_some (text_if_given (get (codes "client-class") d)) ≡ true
  options : have_refused (option_notes false known path d) ≡ false

common_pass : (known : List DefinedOption) (path : List ℕ) (d : Data) (common : Common) → kea_common known d ≡ Some common → CommonPass known path d
unfolding kea_common
common_pass known path d common e =
    let relays = came_from (relays_of (get (codes "relay") d)) _ common e in
    let class = came_from (text_if_given (get (codes "client-class") d)) _ common relays.gives in
    let options = came_from (kea_options false known (get (codes "option-data") d)) _ common class.gives in
    record {
      relay = relay_pass (path_below path (codes "relay")) (get (codes "relay") d) relays.first relays.is;
      class = ap is_some class.is;
      options = options_pass false known d options.first path options.is;
    }

network_known : (given : Option Above) (above : Above) (known : List DefinedOption) (d : Data) (members : List Subnet) → given ≡ Some above → kea_network above known d ≡ Some members → network_below given known d ≡ Some tt
network_known given above known d members e f =
    subst (λ (o : Option Above). network_below o known d ≡ Some tt) (sym e) (bind_is (kea_network above known d) members _ tt f refl)

network_pass : (above : Above) (around : Around) → Fits above around → (known : List DefinedOption) → NoneRefused (kea_network above known) (network_notes around known)
unfolding kea_network network_notes network_lists
network_pass above around fits known d members path e =
    let given = came_from (has_network_form above d) _ members e in
    let form = network_form above d given.is in
    let common = came_from (kea_common known d) _ members given.gives in
    let within = came_from (above_within above d) _ members common.gives in
    let inside_of = within_of above within.first d within.is in
    let inner = within.first in
    let inner_around = around_members around d in
    let read = came_from (list_of 64 (kea_member inner known common.first) (get (codes "subnet4") d)) _ members within.gives in
    let here = passed (is_interface_of (is_in_one_of read.first above.server) (get (codes "interface") d)) _ members read.gives in
    let shared = common_pass known path d common.first common.is in
    let keyed = own_notes network_keys path d in
    let values = network_values around path d in
    let own_times = term_notes 0 around.keys path d in
    let own = network_own path d in
    let options = option_notes false known path d in
    let listed = listed_notes 64 (subnet_notes inner_around known) (codes "subnet4") path d in
    let relay = notes_at relay_notes path (codes "relay") d in
    let inside = inside_pass around.address above.server inner known common.first path d read.first fits.address read.is here.0 in
    let each = member_pass inner inner_around (members_fit above within.first around fits d inside_of) known common.first in
    object_none (network_below (above_by around) known d) tt path d (keyed ++ values ++ own_times ++ own ++ (options ++ listed ++ relay))
    (network_known (above_by around) above known d members (above_known above around fits) e) (is_object network_keys d form.keys)
    (none_in_both (keyed ++ values ++ own_times ++ own) (options ++ listed ++ relay)
    (none_in_both (keyed ++ values ++ own_times) own
    (none_in_both (keyed ++ values) own_times
    (none_in_both keyed values (own_pass network_keys path d form.keys) (network_values_pass above around fits path d form.policy inside))
    (term_pass around.keys above.keys within.first.keys path d fits.keys inside_of.keys))
    (network_own_pass path d above.outside within.first.outside form.name shared.class inside_of.outside (inside_of.noted path)))
    (none_in_both (options ++ listed) relay
    (none_in_both options listed shared.options
    (listed_pass 64 (kea_member inner known common.first) (subnet_notes inner_around known) each (codes "subnet4") path d read.first read.is))
    shared.relay))

known_pass : (d : Data) (known : List DefinedOption) (path : List ℕ) → kea_known (get (codes "option-def") d) ≡ Some known → have_refused (definition_notes false path d) ≡ false
unfolding kea_known
known_pass d known path e =
    let own = came_from (kea_definitions false (get (codes "option-def") d)) _ known e in
    definitions_pass false d own.first path own.is

-- the classes, and the networks and the subnets
lists_pass : (known : List DefinedOption) (options : List OptionData) (above : Above) (around : Around) → Fits above around → (path : List ℕ) (d : Data) (settings : Settings) → kea_settings_with known options above d ≡ Some settings
    → (have_refused (listed_notes 256 (class_notes known) (codes "client-classes") path d) ≡ false) × (have_refused (all_subnet_notes around known path d) ≡ false)
unfolding kea_settings_with kea_subnets all_subnet_notes
lists_pass known options above around fits path d settings e =
    let classes = came_from (list_of 256 (kea_class known) (get (codes "client-classes") d)) _ settings e in
    let subnets = came_from (kea_subnets above known d) _ settings classes.gives in
    let networks = came_from (list_of 256 (kea_network above known) (get (codes "shared-networks") d)) _ subnets.first subnets.is in
    let others = came_from (list_of 256 (kea_subnet above known) (get (codes "subnet4") d)) _ subnets.first networks.gives in (
      listed_pass 256 (kea_class known) (class_notes known) (class_pass known) (codes "client-classes") path d classes.first classes.is,
      none_in_both (listed_notes 256 (network_notes around known) (codes "shared-networks") path d) (listed_notes 256 (subnet_notes around known) (codes "subnet4") path d)
          (listed_pass 256 (kea_network above known) (network_notes around known) (network_pass above around fits known) (codes "shared-networks") path d networks.first networks.is)
          (listed_pass 256 (kea_subnet above known) (subnet_notes around known) (subnet_pass above around fits known) (codes "subnet4") path d others.first others.is),
    )

-- all lists of the whole server, by these definitions
abbrev ServerLists : Around → List DefinedOption → List ℕ → Data → List KeyNote
ServerLists around known path d =
    definition_notes false path d
    ++ option_notes true known path d
    ++ listed_notes 256 (class_notes known) (codes "client-classes") path d
    ++ all_subnet_notes around known path d

-- the truth values and the boot fields of the whole server
flags_pass : (path : List ℕ) (d : Data) (outside : Bool) (policy : Policy) (boot : Boot) → flag_given (get (codes "reservations-out-of-pool") d) ≡ Some outside → kea_policy d ≡ Some policy → kea_boot d ≡ Some boot → have_refused (server_flags path d) ≡ false
unfolding server_flags kea_policy
flags_pass path d outside policy boot e f g =
    let authoritative = came_from (flag_given (get (codes "authoritative") d)) _ policy f in
    let matches = came_from (flag_or true (get (codes "match-client-id") d)) _ policy authoritative.gives in
    let of_outside = flag_note (codes "reservations-out-of-pool") path d in
    let of_authoritative = flag_note (codes "authoritative") path d in
    let of_matches = flag_note (codes "match-client-id") path d in
    none_in_both (of_outside ++ of_authoritative ++ of_matches) (boot_notes path d)
    (none_in_both (of_outside ++ of_authoritative) of_matches
    (none_in_both of_outside of_authoritative
    (right (flag_given (get (codes "reservations-out-of-pool") d)) outside path (codes "reservations-out-of-pool") e)
    (right (flag_given (get (codes "authoritative") d)) authoritative.first path (codes "authoritative") authoritative.is))
    (unless_none (is_some (flag_given (get (codes "match-client-id") d))) Wrong path (codes "match-client-id") (flag_right true (get (codes "match-client-id") d) matches.first matches.is)))
    (boot_pass path d boot g)

server_pass : (server : Option ℕ) → NoneRefused (kea_dhcp4 server) (server_notes server)
unfolding kea_dhcp4 server_notes server_lists lists_by all_times
server_pass server d settings path e =
    let given = came_from (has_server_form d) _ settings e in
    let keys = came_from (kea_keys usual_keys d) _ settings given.gives in
    let times = came_from (kea_times keys.first d) _ settings keys.gives in
    let outside = came_from (flag_given (get (codes "reservations-out-of-pool") d)) _ settings times.gives in
    let policy = came_from (kea_policy d) _ settings outside.gives in
    let boot = came_from (kea_boot d) _ settings policy.gives in
    let known = came_from (kea_known (get (codes "option-def") d)) _ settings boot.gives in
    let options = came_from (kea_options true known.first (get (codes "option-data") d)) _ settings known.gives in
    let address = came_from (server_address options.first server) _ settings options.gives in
    let above : Above = record { server = address.first; times = times.first; keys = keys.first; by_class = has_class_lifetime d; outside = outside.first; kinds = kinds_given (get (codes "host-reservation-identifiers") d); bare = server_has_bare_names d; policy = policy.first; boot = boot.first } in
    let around = around_of server d in
    let fits = around_fits server d above
    (address_known server d known.first options.first address.first known.is options.is address.is)
    (bind_is (kea_keys usual_keys d) keys.first (λ (k : TermKeys). kea_times k d) times.first keys.is times.is)
    keys.is refl outside.is refl refl policy.is boot.is in
    let lists = lists_pass known.first options.first above around fits path d settings address.gives in
    let form = form_of d given.is in
    let keyed = own_notes server_keys path d in
    let values = service_notes path d in
    let own_times = server_times path d in
    let flags = server_flags path d in
    let definitions = definition_notes false path d in
    let of_options = option_notes true known.first path d in
    let classes = listed_notes 256 (class_notes known.first) (codes "client-classes") path d in
    let subnets = all_subnet_notes around known.first path d in
    let all_lists : have_refused (ServerLists around known.first path d) ≡ false =
    none_in_both (definitions ++ of_options ++ classes) subnets
    (none_in_both (definitions ++ of_options) classes
    (none_in_both definitions of_options (known_pass d known.first path known.is) (options_pass true known.first d options.first path options.is))
    lists.0)
    lists.1 in
    object_none (kea_dhcp4 server d) settings path d (keyed ++ values ++ own_times ++ flags ++ ServerLists around (usable_definitions d) path d) e (is_object server_keys d form.keys)
    (none_in_both (keyed ++ values ++ own_times ++ flags) (ServerLists around (usable_definitions d) path d)
    (none_in_both (keyed ++ values ++ own_times) flags
    (none_in_both (keyed ++ values) own_times
    (none_in_both keyed values (own_pass server_keys path d form.keys) (services_pass path d form))
    (server_times_pass path d keys.first times.first keys.is times.is))
    (flags_pass path d outside.first policy.first boot.first outside.is policy.is boot.is))
    (subst (λ (its : List DefinedOption). have_refused (ServerLists around its path d) ≡ false) (sym (known_same d known.first known.is)) all_lists))

value_pass : {A : Type 0} (means : Data → Option A) (notes : ObjectNotes) → NoneRefused means notes → (path : List ℕ) (value : Option Data) (a : A) → (value >>= means) ≡ Some a → have_refused (value_notes notes path value) ≡ false
value_pass means notes each path None a e = refl
value_pass means notes each path (Some d) a e = each d a path e

root_pass : (server : Option ℕ) (d : Data) (settings : Settings) → kea_root server d ≡ Some settings → have_refused (root_notes server d) ≡ false
unfolding kea_root root_notes
root_pass server d settings e =
    let keys = passed (keys_are_read root_keys d) _ settings e in
    object_none (kea_root server d) settings [] d (own_notes root_keys [] d ++ notes_at (server_notes server) [] (codes "Dhcp4") d) e (is_object root_keys d keys.0)
    (none_in_both (own_notes root_keys [] d) (notes_at (server_notes server) [] (codes "Dhcp4") d) (own_pass root_keys [] d keys.0)
    (value_pass (kea_dhcp4 server) (server_notes server) (server_pass server) (path_below [] (codes "Dhcp4")) (get (codes "Dhcp4") d) settings keys.1))

-- ---- what describes nothing

or_true : (b : Bool) → (b || true) ≡ true
or_true true = refl
or_true false = refl

wrong_noted : (path : List ℕ) (notes : List KeyNote) → have_refused (or_wrong false path notes) ≡ true
wrong_noted path notes = by (have_refused notes) refl where
  by : (b : Bool) → have_refused notes ≡ b → have_refused (if b || false then notes else notes ++ (path, Wrong) ∷ []) ≡ true
  by true h = h
  by false h = list_any-append _ notes ((path, Wrong) ∷ []) ∙ or_true (have_refused notes)

-- a value that describes nothing is refused, or something in it is
nothing_noted : {A : Type 0} (o : Option A) (path : List ℕ) (d : Data) (notes : List KeyNote) → o ≡ None → have_refused (object_notes (is_some o) path d notes) ≡ true
nothing_noted {A} o path d notes e = by (is_some (as_object d)) where
  by : (b : Bool) → have_refused (if b then or_wrong (is_some o) path notes else (path, Wrong) ∷ []) ≡ true
  by true = subst (λ (x : Option A). have_refused (or_wrong (is_some x) path notes) ≡ true) (sym e) (wrong_noted path notes)
  by false = refl

pub entry_noted : (for_all : Bool) (known : List DefinedOption) (path : List ℕ) (d : Data) → kea_entry for_all known d ≡ None → have_refused (data_notes for_all known path d) ≡ true
unfolding data_notes
entry_noted for_all known path d e =
    nothing_noted (kea_entry for_all known d) path d
    (own_notes data_keys path d ++ note_unless (is_served_if_given (get (codes "space") d >>= as_str)) Unknown path (codes "space")) e

pub definition_noted : (in_class : Bool) (path : List ℕ) (d : Data) → kea_definition in_class d ≡ None → have_refused (definition_note in_class path d) ≡ true
unfolding definition_note
definition_noted in_class path d e = nothing_noted (kea_definition in_class d) path d (own_notes definition_keys path d) e

pub class_noted : (known : List DefinedOption) (path : List ℕ) (d : Data) → kea_class known d ≡ None → have_refused (class_notes known path d) ≡ true
unfolding class_notes
class_noted known path d e =
    let of_name = note_unless (is_some (get (codes "name") d >>= own_class_name)) Wrong path (codes "name") in
    nothing_noted (kea_class known d) path d
    (own_notes class_keys path d ++ of_name ++ text_note (codes "test") path d ++ boot_notes path d ++ class_lifetime_notes path d ++ definition_notes true path d ++ option_notes false (right_definitions true d ++ known) path d) e

pub pool_noted : (known : List DefinedOption) (path : List ℕ) (d : Data) → kea_pool known d ≡ None → have_refused (pool_notes known path d) ≡ true
unfolding pool_notes
pool_noted known path d e =
    let of_range = note_unless (is_some (get (codes "pool") d >>= kea_range)) Wrong path (codes "pool") in
    nothing_noted (kea_pool known d) path d (own_notes pool_keys path d ++ of_range ++ text_note (codes "client-class") path d ++ option_notes false known path d) e

pub host_noted : (known : List DefinedOption) (kinds : HostKinds) (bare : Bool) (path : List ℕ) (d : Data) → kea_reservation known kinds bare d ≡ None → have_refused (host_notes known kinds bare path d) ≡ true
unfolding host_notes
host_noted known kinds bare path d e =
    nothing_noted (kea_reservation known kinds bare d) path d (own_notes host_keys path d ++ host_values kinds bare path d ++ boot_notes path d ++ option_notes false known path d) e

root_noted : (server : Option ℕ) (d : Data) → kea_root server d ≡ None → have_refused (root_notes server d) ≡ true
unfolding root_notes
root_noted server d e = nothing_noted (kea_root server d) [] d (own_notes root_keys [] d ++ notes_at (server_notes server) [] (codes "Dhcp4") d) e

-- ---- a text

from_value : (text : List ℕ) (server : Option ℕ) → kea_settings text server ≡ (kea_value text >>= kea_root server)
unfolding kea_settings kea_value
from_value text server = refl

-- a text that describes settings has notes, none of them on a key that is refused
pub none_refused : (text : List ℕ) (server : Option ℕ) (settings : Settings) → kea_settings text server ≡ Some settings
    → (notes : List KeyNote) × (kea_notes text server ≡ Some notes) × (have_refused notes ≡ false)
none_refused text server settings e =
    let value = came_from (kea_value text) (kea_root server) settings (sym (from_value text server) ∙ e) in
    (root_notes server value.first, ap (option_map (root_notes server)) value.is, root_pass server value.first settings value.gives)

nothing_else : (o : Option Settings) → ((settings : Settings) → o ≡ Some settings → ⊥) → o ≡ None
nothing_else None f = refl
nothing_else (Some settings) f = absurd (f settings refl)

-- a text with a note on a key that is refused describes no settings
pub refused_is_none : (text : List ℕ) (server : Option ℕ) (notes : List KeyNote) → kea_notes text server ≡ Some notes → have_refused notes ≡ true → kea_settings text server ≡ None
refused_is_none text server notes e unknown =
    nothing_else (kea_settings text server) (λ (settings : Settings) (given : kea_settings text server ≡ Some settings).
    let found = none_refused text server settings given in
    let same = some_is found.0 notes (sym found.1 ∙ e) in
    true≢false (sym unknown ∙ (ap have_refused (sym same) ∙ found.2)))

-- a text that is JSON and describes no settings has a note that refuses something
pub none_is_noted : (text : List ℕ) (server : Option ℕ) (notes : List KeyNote) → kea_notes text server ≡ Some notes → kea_settings text server ≡ None → have_refused notes ≡ true
none_is_noted text server notes e none =
    let value = seen_from (root_notes server) (kea_value text) notes e in
    let nothing : kea_root server value.0 ≡ None = subst (λ (o : Option Data). (o >>= kea_root server) ≡ None) value.1 (sym (from_value text server) ∙ none) in
    subst (λ (found : List KeyNote). have_refused found ≡ true) value.2 (root_noted server value.0 nothing)
