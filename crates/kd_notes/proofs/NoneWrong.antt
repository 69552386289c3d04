-- The values of a text that describes settings have no key that is refused.
use Rattle.std.proofs.Common.{◌≡◌, ℕ, Bool, true, false, not, List, [], ◌∷◌, ◌++◌, codes, Option, Some, None, refl, sym, ap, ◌∙◌, subst}
use Rattle.std.specs.Prelude.{◌&&◌, ◌||◌, if◌then◌else◌, is_some}
use Rattle.std.proofs.lemmas.Bool.{or_from}
use Rattle.std.proofs.lemmas.List.Folds.{list_any-append}
use Rattle.serde_json.specs.Data.{Data, Members, no_members, member}
use Rattle.serde_json.specs.Find.{as_object, get}
use Rattle.kd_config.proofs.Tests.{both_passed}
use Rattle.kd_config.specs.Sound.{longest_lease}
use Rattle.kd_config.specs.declared.prefix.Prefix.{Prefix}
use Rattle.kd_config.specs.declared.subnet.Subnet.{Subnet}
use Rattle.kd_config.specs.declared.times.Times.{Times}
use Rattle.kd_classes.specs.declared.boot.Boot.{Boot}
use Rattle.kd_classes.specs.declared.lifetime.Lifetime.{Lifetime}
use Rattle.kd_classes.specs.declared.option_list.OptionData.{OptionData}
use Rattle.kd_json.proofs.Came.{came_from, passed, passed_only, seen_from}
use Rattle.kd_fields.specs.Place.{path_below}
use Rattle.kd_fields.specs.Steps.{must}
use Rattle.kd_json.specs.Subnet.{subnet_prefix}
use Rattle.kd_fields.specs.Values.{number_if_given, number_within}
use Rattle.kd_keys.specs.Boot.{field_given, kea_boot, next_server_given, own_boot}
use Rattle.kd_keys.specs.Definitions.{kea_known}
use Rattle.kd_keys.specs.HostKinds.{finds_reservations, kinds_given}
use Rattle.kd_keys.specs.HostName.{server_has_bare_names}
use Rattle.kd_keys.specs.Hooks.{hooks_are_quiet}
use Rattle.kd_keys.specs.Keys.{KeyUse, Plain, each_key, flag, fraction, has_only_keys, is_plain, key_use, keys_are_read, allows_value, no_list, served, skipped, usual}
use Rattle.kd_kea.specs.Lifetimes.{bound_key, own_lifetime, go_together, has_class_lifetime, is_in_bounds, kea_keys, keys_given, lifetime_of, seconds_or_above, timer_key, timers_rise, usual_keys}
use Rattle.kd_notes.specs.Notes.{KeyNote, above_by, around_of, boot_notes, class_lifetime_notes, flag_note, have_refused, hook_kind, hook_notes, interface_notes, is_above_least, is_below_most, is_said_below, kea_address, kea_below, key_notes, keys_below, keys_in, kind_of_note, lifetime_notes, member_keys, note_below, note_unless, notes_at, number_note, object_notes, off_note, off_notes, or_wrong, order_notes, own_notes, policy_notes, server_times, service_notes, share_notes, subnet_values, all_times, term_notes, timer_notes, unused_share, unused_shares, usual_note, value_notes}
use Rattle.kd_keys.specs.Options.{kea_options, server_address}
use Rattle.kd_keys.specs.Policy.{kea_policy, repeats_policy}
use Rattle.kd_kea.specs.Settings.{has_server_form, turns_nothing_on}
use Rattle.kd_kea.specs.Subnet.{is_at_server, kea_subnet}
use Rattle.kd_keys.specs.Tables.{server_keys}
use Rattle.kd_kea.specs.Times.{are_in_order, has_usual_shares, is_asked_for, kea_times, share_key, times_key, usual_rebind, usual_renew}
use Rattle.kd_keys.specs.Values.{flag_given, flag_or, is_plain_if_given}
use Rattle.kd_notes.specs.declared.notes.NoteKind.{NoteKind}
use Rattle.kd_notes.specs.declared.notes.NoteKind.TheVariants.{Skipped, Unknown, Wrong}
use Rattle.kd_notes.specs.declared.around.Around.{Around}
use Rattle.kd_keys.specs.declared.definition.DefinedOption.{DefinedOption}
use Rattle.kd_keys.specs.declared.host_kinds.HostKinds.{HostKinds}
use Rattle.kd_kea.specs.declared.objects.lifetimes.TermKeys.{TermKeys}
use Rattle.kd_config.specs.declared.extensions.Policy.{Policy}
use Rattle.kd_kea.specs.declared.objects.subnet.Above.{Above}
use Rattle.kd_kea.specs.declared.objects.times.TheConstants.{HALF, SEVEN_EIGHTHS}
use Rattle.kd_wire.specs.Steps.{◌>>=◌}

-- ---- notes one after another

pub none_in_both : (xs ys : List KeyNote) → have_refused xs ≡ false → have_refused ys ≡ false → have_refused (xs ++ ys) ≡ false
none_in_both xs ys e f = list_any-append _ xs ys ∙ or_from (have_refused xs) (have_refused ys) e f

-- ---- the keys of an object

-- a key is refused exactly if it may not have its value
pub key_refused : (path key : List ℕ) (given : Option KeyUse) (value : Option Data) → have_refused (note_below path key (kind_of_note given value)) ≡ not (allows_value given value)
key_refused path key None value = refl
key_refused path key (Some served) value = refl
key_refused path key (Some skipped) value = refl
key_refused path key (Some (usual values)) value = by (allows_value (Some (usual values)) value) where
  by : (b : Bool) → have_refused (note_below path key (if b then None else Some Unknown)) ≡ not b
  by true = refl
  by false = refl

pub not_both : (a b : Bool) → (not a || not b) ≡ not (a && b)
not_both true b = refl
not_both false b = refl

pub keys_refused : (table : List (List ℕ × KeyUse)) (path : List ℕ) (d : Data) (ms : Members) → have_refused (key_notes table path d (member_keys ms)) ≡ not (each_key (λ key. allows_value (key_use table key) (get key d)) ms)
keys_refused table path d no_members = refl
keys_refused table path d (member key v ms) =
    let this = allows_value (key_use table key) (get key d) in
    let others = each_key (λ key. allows_value (key_use table key) (get key d)) ms in
    list_any-append _ (note_below path key (kind_of_note (key_use table key) (get key d))) (key_notes table path d (member_keys ms))
    ∙ (ap (λ (b : Bool). b || have_refused (key_notes table path d (member_keys ms))) (key_refused path key (key_use table key) (get key d))
    ∙ (ap (λ (b : Bool). not this || b) (keys_refused table path d ms) ∙ not_both this others))

pub all_pass : (table : List (List ℕ × KeyUse)) (path : List ℕ) (d : Data) (o : Option Members) → has_only_keys (λ key. allows_value (key_use table key) (get key d)) o ≡ true → have_refused (key_notes table path d (keys_in o)) ≡ false
all_pass table path d None e = refl
all_pass table path d (Some ms) e = keys_refused table path d ms ∙ ap not e

-- an object whose keys are read has none that is refused
pub own_pass : (table : List (List ℕ × KeyUse)) (path : List ℕ) (d : Data) → keys_are_read table d ≡ true → have_refused (own_notes table path d) ≡ false
unfolding keys_are_read own_notes
own_pass table path d e = all_pass table path d (as_object d) e

-- an object has a note on a refused key exactly if its keys are not read
pub own_refused : (table : List (List ℕ × KeyUse)) (path : List ℕ) (d : Data) (members : Members) → as_object d ≡ Some members → have_refused (own_notes table path d) ≡ not (keys_are_read table d)
unfolding keys_are_read own_notes
own_refused table path d members e = rw e (keys_refused table path d members)

-- ---- keys that are served with some values only

pub unless_none : (test : Bool) (kind : NoteKind) (path key : List ℕ) → test ≡ true → have_refused (note_unless test kind path key) ≡ false
unless_none true kind path key e = refl
unless_none false kind path key e = absurd (cc)

pub usual_pass : (plain : Plain) (path key : List ℕ) (d : Data) → is_plain_if_given plain (get key d) ≡ true → have_refused (usual_note plain path key d) ≡ false
usual_pass plain path key d e = unless_none (is_plain_if_given plain (get key d)) Unknown path key e

pub off_none : (off is_object : Bool) (path key : List ℕ) → off ≡ true → have_refused (off_note off is_object path key) ≡ false
off_none true is_object path key e = refl
off_none false is_object path key e = absurd (cc)

pub off_pass : (key : List ℕ) (plain : Plain) (path : List ℕ) (value : Option Data) → turns_nothing_on key plain value ≡ true → have_refused (value_notes (off_notes key plain) path value) ≡ false
off_pass key plain path None e = refl
off_pass key plain path (Some d) e = off_none (turns_nothing_on key plain (Some d)) (is_some (as_object d)) path key e

pub hook_none : (quiet : Bool) (path : List ℕ) → quiet ≡ true → have_refused ((path, hook_kind quiet) ∷ []) ≡ false
hook_none true path e = refl
hook_none false path e = absurd (cc)

pub hook_pass : (path : List ℕ) (value : Option Data) → hooks_are_quiet value ≡ true → have_refused (value_notes hook_notes path value) ≡ false
hook_pass path None e = refl
hook_pass path (Some d) e = hook_none (hooks_are_quiet (Some d)) path e

pub share_none : (usual : Bool) (path : List ℕ) → have_refused (if usual then [] else (path, Skipped) ∷ []) ≡ false
share_none true path = refl
share_none false path = refl

pub share_pass : (plain : Plain) (path : List ℕ) (value : Option Data) → have_refused (value_notes (unused_share plain) path value) ≡ false
share_pass plain path None = refl
share_pass plain path (Some d) = share_none (is_plain plain d) path

pub unused_pass : (path : List ℕ) (d : Data) → have_refused (unused_shares path d) ≡ false
unused_pass path d =
    none_in_both (notes_at (unused_share (fraction HALF)) path (codes "t1-percent") d) (notes_at (unused_share (fraction SEVEN_EIGHTHS)) path (codes "t2-percent") d)
    (share_pass (fraction HALF) (path_below path (codes "t1-percent")) (get (codes "t1-percent") d))
    (share_pass (fraction SEVEN_EIGHTHS) (path_below path (codes "t2-percent")) (get (codes "t2-percent") d))

-- shares that are not used are not refused
pub shares_pass : (given : Option TermKeys) (path : List ℕ) (d : Data) → have_refused (share_notes given path d) ≡ false
shares_pass None path d = refl
shares_pass (Some keys) path d = by (keys.calculated || is_said_below d) where
  by : (b : Bool) → have_refused (if b then [] else unused_shares path d) ≡ false
  by true = refl
  by false = unused_pass path d

-- what is described is not wrong
pub right : {A : Type 0} (o : Option A) (a : A) (path key : List ℕ) → o ≡ Some a → have_refused (note_unless (is_some o) Wrong path key) ≡ false
right o a path key e = unless_none (is_some o) Wrong path key (ap is_some e)

pub number_right : (least most default : ℕ) (value : Option Data) (n : ℕ) → number_if_given least most default value ≡ Some n → is_some (number_if_given least most least value) ≡ true
number_right least most default None n e = refl
number_right least most default (Some d) n e = ap is_some e

pub number_pass : (least most default : ℕ) (key path : List ℕ) (d : Data) (n : ℕ) → number_if_given least most default (get key d) ≡ Some n → have_refused (number_note least most key path d) ≡ false
number_pass least most default key path d n e =
    unless_none (is_some (number_if_given least most least (get key d))) Wrong path key (number_right least most default (get key d) n e)

pub flag_right : (other : Bool) (value : Option Data) (given : Bool) → flag_or other value ≡ Some given → is_some (flag_given value) ≡ true
flag_right other None given e = refl
flag_right other (Some d) given e = ap is_some e

-- what is given to the boot fields is not wrong
pub boot_pass : (path : List ℕ) (d : Data) (boot : Boot) → kea_boot d ≡ Some boot → have_refused (boot_notes path d) ≡ false
unfolding kea_boot boot_notes
boot_pass path d boot e =
    let server = came_from (next_server_given (get (codes "next-server") d)) _ boot e in
    let name = came_from (field_given 64 (get (codes "server-hostname") d)) _ boot server.gives in
    let file = came_from (field_given 128 (get (codes "boot-file-name") d)) _ boot name.gives in
    let of_server = note_unless (is_some (next_server_given (get (codes "next-server") d))) Wrong path (codes "next-server") in
    let of_name = note_unless (is_some (field_given 64 (get (codes "server-hostname") d))) Wrong path (codes "server-hostname") in
    let of_file = note_unless (is_some (field_given 128 (get (codes "boot-file-name") d))) Wrong path (codes "boot-file-name") in
    none_in_both (of_server ++ of_name) of_file
    (none_in_both of_server of_name
    (right (next_server_given (get (codes "next-server") d)) server.first path (codes "next-server") server.is)
    (right (field_given 64 (get (codes "server-hostname") d)) name.first path (codes "server-hostname") name.is))
    (right (field_given 128 (get (codes "boot-file-name") d)) file.first path (codes "boot-file-name") file.is)

-- nor is what a class or a reservation gives to them
pub own_boot_pass : (path : List ℕ) (d : Data) (boot : Boot) → own_boot d ≡ Some boot → have_refused (boot_notes path d) ≡ false
unfolding own_boot
own_boot_pass path d boot e =
    let given = came_from (kea_boot d) _ boot e in boot_pass path d given.first given.is

pub wrong_none : (described : Bool) (path : List ℕ) (notes : List KeyNote) → described ≡ true → have_refused notes ≡ false → have_refused (or_wrong described path notes) ≡ false
wrong_none true path notes e f = by (have_refused notes) where
  by : (b : Bool) → have_refused (if b || true then notes else notes ++ (path, Wrong) ∷ []) ≡ false
  by true = f
  by false = f
wrong_none false path notes e f = absurd (cc)

pub object_none : {A : Type 0} (o : Option A) (a : A) (path : List ℕ) (d : Data) (notes : List KeyNote) → o ≡ Some a → is_some (as_object d) ≡ true → have_refused notes ≡ false → have_refused (object_notes (is_some o) path d notes) ≡ false
object_none o a path d notes e f g = by (is_some (as_object d)) f where
  by : (b : Bool) → b ≡ true → have_refused (if b then or_wrong (is_some o) path notes else (path, Wrong) ∷ []) ≡ false
  by true h = wrong_none (is_some o) path notes (ap is_some e) g
  by false h = absurd (cc)

pub is_object : (table : List (List ℕ × KeyUse)) (d : Data) → keys_are_read table d ≡ true → is_some (as_object d) ≡ true
unfolding keys_are_read
is_object table d e = by (as_object d) e where
  by : (o : Option Members) → has_only_keys (λ key. allows_value (key_use table key) (get key d)) o ≡ true → is_some o ≡ true
  by None h = absurd (cc)
  by (Some members) h = refl

pub must_hold : (test : Bool) → must test ≡ Some tt → test ≡ true
must_hold true e = refl
must_hold false e = absurd (cc)

-- what a value with the form of `Dhcp4` has
pub record HasForm (d : Data) : Type 0 where
  pub keys : keys_are_read server_keys d ≡ true
  pub updates : turns_nothing_on (codes "enable-updates") (flag false) (get (codes "dhcp-ddns") d) ≡ true
  pub databases : turns_nothing_on (codes "config-databases") no_list (get (codes "config-control") d) ≡ true
  pub identifiers : finds_reservations (get (codes "host-reservation-identifiers") d) ≡ true
  pub hooks : hooks_are_quiet (get (codes "hooks-libraries") d) ≡ true

pub form_of : (d : Data) → has_server_form d ≡ Some tt → HasForm d
unfolding has_server_form
form_of d e =
    let keys = passed (keys_are_read server_keys d) _ tt e in
    let updates = passed (turns_nothing_on (codes "enable-updates") (flag false) (get (codes "dhcp-ddns") d)) _ tt keys.1 in
    let databases = passed (turns_nothing_on (codes "config-databases") no_list (get (codes "config-control") d)) _ tt updates.1 in
    let identifiers = passed (finds_reservations (get (codes "host-reservation-identifiers") d)) _ tt databases.1 in
    record { keys = keys.0; updates = updates.0; databases = databases.0; identifiers = identifiers.0; hooks = must_hold (hooks_are_quiet (get (codes "hooks-libraries") d)) identifiers.1 }

pub services_pass : (path : List ℕ) (d : Data) → HasForm d → have_refused (service_notes path d) ≡ false
unfolding service_notes
services_pass path d form =
    let updates = notes_at (off_notes (codes "enable-updates") (flag false)) path (codes "dhcp-ddns") d in
    let databases = notes_at (off_notes (codes "config-databases") no_list) path (codes "config-control") d in
    let identifiers = note_unless (finds_reservations (get (codes "host-reservation-identifiers") d)) Unknown path (codes "host-reservation-identifiers") in
    let hooks = notes_at hook_notes path (codes "hooks-libraries") d in
    none_in_both (updates ++ databases ++ identifiers) hooks
    (none_in_both (updates ++ databases) identifiers
    (none_in_both updates databases
    (off_pass (codes "enable-updates") (flag false) (path_below path (codes "dhcp-ddns")) (get (codes "dhcp-ddns") d) form.updates)
    (off_pass (codes "config-databases") no_list (path_below path (codes "config-control")) (get (codes "config-control") d) form.databases))
    (unless_none (finds_reservations (get (codes "host-reservation-identifiers") d)) Unknown path (codes "host-reservation-identifiers") form.identifiers))
    (hook_pass (path_below path (codes "hooks-libraries")) (get (codes "hooks-libraries") d) form.hooks)

pub bind_is : {A B : Type 0} (o : Option A) (a : A) (f : A → Option B) (b : B) → o ≡ Some a → f a ≡ Some b → (o >>= f) ≡ Some b
bind_is o a f b e g = subst (λ x. (x >>= f) ≡ Some b) (sym e) g

-- ---- the times of leases

-- a number that is right without one above it is right
pub seconds_right : (least : ℕ) (above : Option ℕ) (value : Option Data) (n : Option ℕ) → seconds_or_above least above value ≡ Some n → is_some (number_if_given least longest_lease least value) ≡ true
seconds_right least above None n e = refl
seconds_right least above (Some d) n e =
    let seen = seen_from Some (number_within least longest_lease d) n e in ap is_some seen.1

pub seconds_pass : (least : ℕ) (above : Option ℕ) (key path : List ℕ) (d : Data) (n : Option ℕ) → seconds_or_above least above (get key d) ≡ Some n → have_refused (number_note least longest_lease key path d) ≡ false
seconds_pass least above key path d n e =
    unless_none (is_some (number_if_given least longest_lease least (get key d))) Wrong path key (seconds_right least above (get key d) n e)

-- the keys of a value are right by themselves
record RightKeys (path : List ℕ) (d : Data) : Type 0 where
  lifetime : have_refused (lifetime_notes path d) ≡ false
  timers : have_refused (timer_notes 0 path d) ≡ false
  flag : have_refused (flag_note (codes "calculate-tee-times") path d) ≡ false

keys_right : (above : TermKeys) (path : List ℕ) (d : Data) (keys : TermKeys) → keys_given above d ≡ Some keys → RightKeys path d
unfolding keys_given lifetime_notes timer_notes
keys_right above path d keys e =
    let usual = came_from (number_if_given 1 longest_lease above.usual (get (codes "valid-lifetime") d)) _ keys e in
    let least = came_from (seconds_or_above 1 above.least (get (codes "min-valid-lifetime") d)) _ keys usual.gives in
    let most = came_from (seconds_or_above 1 above.most (get (codes "max-valid-lifetime") d)) _ keys least.gives in
    let renew = came_from (seconds_or_above 0 above.renew (get (codes "renew-timer") d)) _ keys most.gives in
    let rebind = came_from (seconds_or_above 0 above.rebind (get (codes "rebind-timer") d)) _ keys renew.gives in
    let calculated = came_from (flag_or above.calculated (get (codes "calculate-tee-times") d)) _ keys rebind.gives in
    let of_usual = number_note 1 longest_lease (codes "valid-lifetime") path d in
    let of_least = number_note 1 longest_lease (codes "min-valid-lifetime") path d in
    let of_most = number_note 1 longest_lease (codes "max-valid-lifetime") path d in
    let of_renew = number_note 0 longest_lease (codes "renew-timer") path d in
    let of_rebind = number_note 0 longest_lease (codes "rebind-timer") path d in
    let of_flag = flag_note (codes "calculate-tee-times") path d in
    let flag_pass = unless_none (is_some (flag_given (get (codes "calculate-tee-times") d))) Wrong path (codes "calculate-tee-times") (flag_right above.calculated (get (codes "calculate-tee-times") d) calculated.first calculated.is) in
    record {
      lifetime =
          none_in_both (of_usual ++ of_least) of_most
          (none_in_both of_usual of_least
          (number_pass 1 longest_lease above.usual (codes "valid-lifetime") path d usual.first usual.is)
          (seconds_pass 1 above.least (codes "min-valid-lifetime") path d least.first least.is))
          (seconds_pass 1 above.most (codes "max-valid-lifetime") path d most.first most.is);
      timers =
          none_in_both (of_renew ++ of_rebind) of_flag
          (none_in_both of_renew of_rebind
          (seconds_pass 0 above.renew (codes "renew-timer") path d renew.first renew.is)
          (seconds_pass 0 above.rebind (codes "rebind-timer") path d rebind.first rebind.is))
          flag_pass;
      flag = flag_pass;
    }

-- keys that go together have no note on their order
order_pass_if : (keys : TermKeys) (path : List ℕ) (d : Data) → go_together keys ≡ true → have_refused (order_notes (Some keys) path d) ≡ false
unfolding order_notes
order_pass_if keys path d e =
    let outer = both_passed (is_in_bounds (lifetime_of keys) && timers_rise keys.renew keys.rebind) (has_usual_shares keys.calculated keys.shares) e in
    let inner = both_passed (is_in_bounds (lifetime_of keys)) (timers_rise keys.renew keys.rebind) outer.0 in
    let bounds = both_passed (is_above_least keys) (is_below_most keys) inner.0 in
    let of_least = note_unless (is_above_least keys) Wrong path (bound_key (codes "min-valid-lifetime") d) in
    let of_most = note_unless (is_below_most keys) Wrong path (bound_key (codes "max-valid-lifetime") d) in
    let of_timers = note_unless (timers_rise keys.renew keys.rebind) Wrong path (timer_key d) in
    let of_shares = note_unless (has_usual_shares keys.calculated keys.shares) Wrong path (share_key d) in
    none_in_both (of_least ++ of_most ++ of_timers) of_shares
    (none_in_both (of_least ++ of_most) of_timers
    (none_in_both of_least of_most
    (unless_none (is_above_least keys) Wrong path (bound_key (codes "min-valid-lifetime") d) bounds.0)
    (unless_none (is_below_most keys) Wrong path (bound_key (codes "max-valid-lifetime") d) bounds.1))
    (unless_none (timers_rise keys.renew keys.rebind) Wrong path (timer_key d) inner.1))
    (unless_none (has_usual_shares keys.calculated keys.shares) Wrong path (share_key d) outer.1)

-- what the keys of a value say together, each by itself
record Given (above : TermKeys) (d : Data) (keys : TermKeys) : Type 0 where
  is : keys_given above d ≡ Some keys
  together : go_together keys ≡ true

keys_are_given : (above : TermKeys) (d : Data) (keys : TermKeys) → kea_keys above d ≡ Some keys → Given above d keys
unfolding kea_keys
keys_are_given above d keys e =
    let given = came_from (keys_given above d) _ keys e in
    let test = passed_only (go_together given.first) given.first keys given.gives in
    subst (Given above d) test.1 (record { is = given.is; together = test.0 })

order_pass : (above keys : TermKeys) (path : List ℕ) (d : Data) → Given above d keys → have_refused (order_notes (keys_below (Some above) d) path d) ≡ false
unfolding keys_below
order_pass above keys path d given =
    subst (λ (o : Option TermKeys). have_refused (order_notes o path d) ≡ false) (sym given.is) (order_pass_if keys path d given.together)

term_pass_by : (least : ℕ) (above keys : TermKeys) (path : List ℕ) (d : Data) → kea_keys above d ≡ Some keys → have_refused (timer_notes least path d) ≡ false → have_refused (term_notes least (Some above) path d) ≡ false
unfolding term_notes
term_pass_by least above keys path d e timers =
    let given = keys_are_given above d keys e in
    let right_ones = keys_right above path d keys given.is in
    let below = keys_below (Some above) d in
    none_in_both (lifetime_notes path d ++ timer_notes least path d ++ order_notes below path d) (share_notes below path d)
    (none_in_both (lifetime_notes path d ++ timer_notes least path d) (order_notes below path d)
    (none_in_both (lifetime_notes path d) (timer_notes least path d) right_ones.lifetime timers)
    (order_pass above keys path d given))
    (shares_pass below path d)

-- the times of leases in a subnet or a network
pub term_pass : (known : Option TermKeys) (above keys : TermKeys) (path : List ℕ) (d : Data) → known ≡ Some above → kea_keys above d ≡ Some keys → have_refused (term_notes 0 known path d) ≡ false
term_pass known above keys path d e f =
    let given = keys_are_given above d keys f in
    let right_ones = keys_right above path d keys given.is in
    subst (λ (o : Option TermKeys). have_refused (term_notes 0 o path d) ≡ false) (sym e) (term_pass_by 0 above keys path d f right_ones.timers)

-- the lifetime of a class
pub class_lifetime_pass : (path : List ℕ) (d : Data) (lifetime : Option Lifetime) → own_lifetime d ≡ Some lifetime → have_refused (class_lifetime_notes path d) ≡ false
unfolding own_lifetime class_lifetime_notes lifetime_notes
class_lifetime_pass path d lifetime e =
    let usual = came_from (seconds_or_above 1 None (get (codes "valid-lifetime") d)) _ lifetime e in
    let least = came_from (seconds_or_above 1 None (get (codes "min-valid-lifetime") d)) _ lifetime usual.gives in
    let most = came_from (seconds_or_above 1 None (get (codes "max-valid-lifetime") d)) _ lifetime least.gives in
    let of_usual = number_note 1 longest_lease (codes "valid-lifetime") path d in
    let of_least = number_note 1 longest_lease (codes "min-valid-lifetime") path d in
    let of_most = number_note 1 longest_lease (codes "max-valid-lifetime") path d in
    wrong_none (is_some (own_lifetime d)) (path_below path (codes "valid-lifetime")) (of_usual ++ of_least ++ of_most) (ap is_some e)
    (none_in_both (of_usual ++ of_least) of_most
    (none_in_both of_usual of_least
    (seconds_pass 1 None (codes "valid-lifetime") path d usual.first usual.is)
    (seconds_pass 1 None (codes "min-valid-lifetime") path d least.first least.is))
    (seconds_pass 1 None (codes "max-valid-lifetime") path d most.first most.is))

-- the times of the whole server
pub server_times_pass : (path : List ℕ) (d : Data) (keys : TermKeys) (times : Times) → kea_keys usual_keys d ≡ Some keys → kea_times keys d ≡ Some times → have_refused (server_times path d) ≡ false
unfolding server_times all_times kea_times timer_notes
server_times_pass path d keys times given e =
    let renew = came_from (number_if_given 1 longest_lease (usual_renew keys.calculated keys.shares keys.usual) (get (codes "renew-timer") d)) _ times e in
    let rebind = came_from (number_if_given 1 longest_lease (usual_rebind keys.calculated keys.shares keys.usual) (get (codes "rebind-timer") d)) _ times renew.gives in
    let order = passed (are_in_order (is_asked_for keys.calculated (get (codes "renew-timer") d)) (is_asked_for keys.calculated (get (codes "rebind-timer") d)) renew.first rebind.first keys.usual) _ times rebind.gives in
    let offer = came_from (number_if_given 0 86400 0 (get (codes "offer-lifetime") d)) _ times order.1 in
    let decline = came_from (number_if_given 1 31536000 86400 (get (codes "decline-probation-period") d)) _ times offer.gives in
    let right_ones = keys_right usual_keys path d keys (keys_are_given usual_keys d keys given).is in
    let of_renew = number_note 1 longest_lease (codes "renew-timer") path d in
    let of_rebind = number_note 1 longest_lease (codes "rebind-timer") path d in
    let of_flag = flag_note (codes "calculate-tee-times") path d in
    let of_term = term_notes 1 (Some usual_keys) path d in
    let of_offer = number_note 0 86400 (codes "offer-lifetime") path d in
    let of_decline = number_note 1 31536000 (codes "decline-probation-period") path d in
    let timers =
    none_in_both (of_renew ++ of_rebind) of_flag
    (none_in_both of_renew of_rebind
    (number_pass 1 longest_lease (usual_renew keys.calculated keys.shares keys.usual) (codes "renew-timer") path d renew.first renew.is)
    (number_pass 1 longest_lease (usual_rebind keys.calculated keys.shares keys.usual) (codes "rebind-timer") path d rebind.first rebind.is))
    right_ones.flag in
    wrong_none (is_some (all_times d)) (path_below path (times_key d)) (of_term ++ of_offer ++ of_decline)
    (ap is_some (bind_is (kea_keys usual_keys d) keys (λ (k : TermKeys). kea_times k d) times given e))
    (none_in_both (of_term ++ of_offer) of_decline
    (none_in_both of_term of_offer (term_pass_by 1 usual_keys keys path d given timers)
    (number_pass 0 86400 0 (codes "offer-lifetime") path d offer.first offer.is))
    (number_pass 1 31536000 86400 (codes "decline-probation-period") path d decline.first decline.is))

-- ---- such keys of a subnet

-- what holds for the whole server is known of each part
pub record Fits (above : Above) (around : Around) : Type 0 where
  pub address : around.address ≡ Some above.server
  pub times : around.times ≡ Some above.times
  pub outside : around.outside ≡ Some above.outside
  pub kinds : around.kinds ≡ above.kinds
  pub bare : around.bare ≡ above.bare
  pub policy : around.policy ≡ Some above.policy
  pub boot : around.boot ≡ Some above.boot
  pub keys : around.keys ≡ Some above.keys
  pub by_class : around.by_class ≡ above.by_class

pub interface_pass : (given : Option ℕ) (server : ℕ) (spelled : Option Prefix) (prefix : Prefix) (path : List ℕ) (d : Data) → given ≡ Some server → spelled ≡ Some prefix → is_at_server server prefix (get (codes "interface") d) ≡ true
    → have_refused (interface_notes given spelled path d) ≡ false
interface_pass given server spelled prefix path d e f here =
    subst (λ (o : Option ℕ). have_refused (interface_notes o spelled path d) ≡ false) (sym e)
    (subst (λ (p : Option Prefix). have_refused (interface_notes (Some server) p path d) ≡ false) (sym f)
    (unless_none (is_at_server server prefix (get (codes "interface") d)) Unknown path (codes "interface") here))

-- the policy of a subnet or a network is that of the whole server
policy_pass_by : (policy : Policy) (path : List ℕ) (d : Data) → repeats_policy policy d ≡ true → have_refused (policy_notes (Some policy) path d) ≡ false
policy_pass_by policy path d e =
    let both = both_passed (is_plain_if_given (flag policy.is_authoritative) (get (codes "authoritative") d)) (is_plain_if_given (flag policy.matches_client_ids) (get (codes "match-client-id") d)) e in
    none_in_both (usual_note (flag policy.is_authoritative) path (codes "authoritative") d) (usual_note (flag policy.matches_client_ids) path (codes "match-client-id") d)
    (usual_pass (flag policy.is_authoritative) path (codes "authoritative") d both.0)
    (usual_pass (flag policy.matches_client_ids) path (codes "match-client-id") d both.1)

pub policy_pass : (given : Option Policy) (policy : Policy) (path : List ℕ) (d : Data) → given ≡ Some policy → repeats_policy policy d ≡ true → have_refused (policy_notes given path d) ≡ false
policy_pass given policy path d e f =
    subst (λ (o : Option Policy). have_refused (policy_notes o path d) ≡ false) (sym e) (policy_pass_by policy path d f)

pub subnet_values_pass : (above : Above) (around : Around) → Fits above around → (path : List ℕ) (d : Data) (prefix : Prefix) → repeats_policy above.policy d ≡ true → (get (codes "subnet") d >>= subnet_prefix) ≡ Some prefix → is_at_server above.server prefix (get (codes "interface") d) ≡ true
    → have_refused (subnet_values around path d) ≡ false
unfolding subnet_values
subnet_values_pass above around fits path d prefix same spelled here =
    let of_interface = interface_notes around.address (get (codes "subnet") d >>= subnet_prefix) path d in
    none_in_both (policy_notes around.policy path d) of_interface (policy_pass around.policy above.policy path d fits.policy same)
    (interface_pass around.address above.server (get (codes "subnet") d >>= subnet_prefix) prefix path d fits.address spelled here)

pub address_known : (server : Option ℕ) (d : Data) (known : List DefinedOption) (options : List OptionData) (address : ℕ) → kea_known (get (codes "option-def") d) ≡ Some known → kea_options true known (get (codes "option-data") d) ≡ Some options → server_address options server ≡ Some address
    → kea_address server d ≡ Some address
unfolding kea_address
address_known server d known options address e f g =
    bind_is (kea_known (get (codes "option-def") d)) known _ address e (bind_is (kea_options true known (get (codes "option-data") d)) options _ address f g)

pub around_fits : (server : Option ℕ) (d : Data) (above : Above) → kea_address server d ≡ Some above.server → all_times d ≡ Some above.times → kea_keys usual_keys d ≡ Some above.keys → has_class_lifetime d ≡ above.by_class → flag_given (get (codes "reservations-out-of-pool") d) ≡ Some above.outside → kinds_given (get (codes "host-reservation-identifiers") d) ≡ above.kinds → server_has_bare_names d ≡ above.bare → kea_policy d ≡ Some above.policy → kea_boot d ≡ Some above.boot
    → Fits above (around_of server d)
unfolding around_of
around_fits server d above e given keys c g k b p o = record { address = e; times = given; outside = g; kinds = k; bare = b; policy = p; boot = o; keys = keys; by_class = c }

pub above_known : (above : Above) (around : Around) → Fits above around → above_by around ≡ Some above
unfolding above_by
above_known above around fits =
    bind_is around.address above.server _ above fits.address
    (bind_is around.times above.times _ above fits.times
    (bind_is around.keys above.keys _ above fits.keys
    (bind_is around.outside above.outside _ above fits.outside
    (bind_is around.policy above.policy _ above fits.policy
    (bind_is around.boot above.boot _ above fits.boot
    (ap (λ (c : Bool). Some (record { server = above.server; times = above.times; keys = above.keys; by_class = c; outside = above.outside; kinds = around.kinds; bare = around.bare; policy = above.policy; boot = above.boot })) fits.by_class
    ∙ ap (λ (k : HostKinds). Some (record { server = above.server; times = above.times; keys = above.keys; by_class = above.by_class; outside = above.outside; kinds = k; bare = around.bare; policy = above.policy; boot = above.boot })) fits.kinds
    ∙ ap (λ (b : Bool). Some (record { server = above.server; times = above.times; keys = above.keys; by_class = above.by_class; outside = above.outside; kinds = above.kinds; bare = b; policy = above.policy; boot = above.boot })) fits.bare))))))

pub below_known : (given : Option Above) (above : Above) (known : List DefinedOption) (d : Data) (subnet : Subnet) → given ≡ Some above → kea_subnet above known d ≡ Some subnet → kea_below given known d ≡ Some tt
below_known given above known d subnet e f =
    subst (λ (o : Option Above). kea_below o known d ≡ Some tt) (sym e) (bind_is (kea_subnet above known d) subnet _ tt f refl)
