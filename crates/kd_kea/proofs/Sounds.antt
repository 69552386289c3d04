-- The values of Kea's objects obey what every configuration obeys.
use Rattle.std.proofs.Common.{◌≡◌, ℕ, ◌≤◌, Bool, true, false, not, cond, ◌&&◌, nat_le, nat_lt, nat_eq, ◌==◌, List, [], ◌∷◌, length, codes, Option, Some, None, refl, subst, ap, ◌∙◌, arith, ltb-true, if◌then◌else◌}
use Rattle.std.specs.Prelude.{◌||◌, map, option_map}
use Rattle.std.proofs.lemmas.List.{length-map}
use Rattle.std.proofs.lemmas.Slice.Eq.{bytes_eq-Decides}
use Rattle.std.specs.Int.{from_be_bytes, w32}
use Rattle.std.specs.List.{AllByRecursion, filter, find, list_all, list_any}
use borrow.Author.Tests.{leb-true}
use Rattle.kd_classes.specs.declared.option_list.OptionData.{OptionData}
use Rattle.kd_config.proofs.Tests.{both_passed, not_and, or_false, some_is}
use Rattle.kd_config.specs.Options.{code_among, own_codes}
use Rattle.kd_config.specs.Sound.{AreOptions, AreTimes, HaveOwnCodes, IsFrom, IsOption, longest_lease}
use Rattle.kd_config.specs.declared.times.Times.{Times}
use Rattle.kd_json.proofs.Came.{came_from, each_meant, few_meant, passed, passed_only}
use Rattle.kd_json.proofs.SoundSettings.{some_server}
use Rattle.kd_json.proofs.Sounds.{number_or_sound}
use Rattle.kd_fields.specs.Lists.{list_of}
use Rattle.kd_fields.specs.Values.{number_if_given, text_if_given}
use Rattle.kd_keys.specs.Definitions.{defined_at, is_dhcp4}
use Rattle.kd_keys.specs.Keys.{keys_are_read}
use Rattle.kd_keys.specs.OptionValue.{data_by, has_type, is_text_given, standard_type, text_kind}
use Rattle.kd_keys.specs.Options.{address_by, address_in_bytes, code_if_given, code_named, entries_differ, entry_by, fits_in_option, has_known_type, inner_space, is_entry, is_of_message, is_served_space, is_server_option, is_short, kea_code, kea_entry, kea_options, may_configure, may_hold, may_stand_in, one_code, option_with, options_by, sent_to_all, server_address, server_code, some_address}
use Rattle.kd_keys.specs.declared.definition.DefinedOption.{DefinedOption}
use Rattle.kd_keys.specs.declared.entry.OptionEntry.{OptionEntry}
use Rattle.kd_keys.specs.Tables.{data_keys}
use Rattle.kd_kea.specs.Times.{are_in_order, fits_below, is_asked_for, kea_times, offer_time, usual_rebind, usual_renew}
use Rattle.kd_kea.specs.declared.objects.lifetimes.TermKeys.{TermKeys}
use Rattle.kd_keys.specs.Values.{flag_given, text_otherwise}
use Rattle.serde_json.specs.Data.{Data}
use Rattle.serde_json.specs.Find.{get}

-- ---- times

offer_sound : (n : ℕ) → IsFrom 0 86400 n → IsFrom 1 86400 (offer_time n)
offer_sound n h = by (n == 0) refl where
  by : (b : Bool) → (n == 0) ≡ b → IsFrom 1 86400 (if b then 60 else n)
  by true e = record { above = omega arith; below = omega arith }
  by false e = record { above = some_server n (ap not e); below = h.below }

within_sound : (asked : Bool) (time bound : ℕ) → fits_below asked time bound ≡ true → time ≤ bound
within_sound true time bound e = omega (arith, ltb-true time bound e)
within_sound false time bound e = leb-true time bound e

pub times_sound : (keys : TermKeys) → IsFrom 1 longest_lease keys.usual → (d : Data) (t : Times) → kea_times keys d ≡ Some t → AreTimes t
unfolding kea_times
times_sound keys usual d t e =
    let renew_given = get (codes "renew-timer") d in
    let rebind_given = get (codes "rebind-timer") d in
    let renew_asked = is_asked_for keys.calculated renew_given in
    let rebind_asked = is_asked_for keys.calculated rebind_given in
    let renew = came_from (number_if_given 1 longest_lease (usual_renew keys.calculated keys.shares keys.usual) renew_given) _ t e in
    let rebind = came_from (number_if_given 1 longest_lease (usual_rebind keys.calculated keys.shares keys.usual) rebind_given) _ t renew.gives in
    let order = passed (are_in_order renew_asked rebind_asked renew.first rebind.first keys.usual) _ t rebind.gives in
    let first = both_passed ((not renew_asked || nat_lt 0 renew.first) && fits_below (renew_asked && rebind_asked) renew.first rebind.first) (fits_below rebind_asked rebind.first keys.usual) order.0 in
    let second = both_passed (not renew_asked || nat_lt 0 renew.first) (fits_below (renew_asked && rebind_asked) renew.first rebind.first) first.0 in
    let offer = came_from (number_if_given 0 86400 0 (get (codes "offer-lifetime") d)) _ t order.1 in
    let decline = came_from (number_if_given 1 31536000 86400 (get (codes "decline-probation-period") d)) _ t offer.gives in
    subst AreTimes (some_is _ t decline.gives) (record {
      lifetime = usual;
      renew = within_sound (renew_asked && rebind_asked) renew.first rebind.first second.1;
      rebind = within_sound rebind_asked rebind.first keys.usual first.1;
      offer_hold = offer_sound offer.first (number_or_sound 0 86400 0 (get (codes "offer-lifetime") d) offer.first (record { above = omega arith; below = omega arith }) offer.is);
      decline_hold = number_or_sound 1 31536000 86400 (get (codes "decline-probation-period") d) decline.first (record { above = omega arith; below = omega arith }) decline.is;
    })

-- ---- options

-- an entry of the whole server or a part of it
record IsKeaEntry (for_all : Bool) (entry : OptionEntry) : Type 0 where
  may : is_of_message entry ≡ true → may_configure for_all entry.code ≡ true

-- an option that may be configured: its code is in range, and one of two tests is passed
code_range : (for_all : Bool) (code : ℕ) → may_configure for_all code ≡ true
    → IsFrom 1 254 code × (((for_all && code == server_code) || not (list_any (nat_eq code) own_codes)) ≡ true)
code_range for_all code e =
    let all = both_passed (nat_le 1 code && nat_le code 254) ((for_all && code == server_code) || not (list_any (nat_eq code) own_codes)) e in
    let both = both_passed (nat_le 1 code) (nat_le code 254) all.0 in
    (record { above = leb-true 1 code both.0; below = leb-true code 254 both.1 }, all.1)

code_sound : (for_all : Bool) (known : List DefinedOption) (space : List ℕ) (d : Data) (code : ℕ) → kea_code for_all known space d ≡ Some code → may_stand_in for_all space code ≡ true
unfolding kea_code
code_sound for_all known space d code e =
    let given = came_from (code_if_given (get (codes "code") d)) _ code e in
    let name = came_from (text_if_given (get (codes "name") d)) _ code given.gives in
    let one = came_from (one_code (has_known_type known space) given.first (option_map (code_named known space) name.first)) _ code name.gives in
    let test = passed_only (may_stand_in for_all space one.first) one.first code one.gives in
    subst (λ (c : ℕ). may_stand_in for_all space c ≡ true) test.1 test.0

-- one of two is passed, and the first is not
other_passed : (a b : Bool) → (not a || b) ≡ true → a ≡ true → b ≡ true
other_passed true b e f = e
other_passed false b e f = absurd (cc)

given_entry_sound : (for_all : Bool) (it : Option DefinedOption) (space : List ℕ) (code : ℕ) (d : Data) (entry : OptionEntry) → may_stand_in for_all space code ≡ true → entry_by it space code d ≡ Some entry → IsKeaEntry for_all entry
unfolding entry_by
given_entry_sound for_all it space code d entry may e =
    let text = came_from (is_text_given (has_type it (standard_type space code)) (get (codes "csv-format") d)) _ entry e in
    let value = came_from (data_by text.first it (text_kind space code) (get (codes "data") d)) _ entry text.gives in
    let always = came_from (flag_given (get (codes "always-send") d)) _ entry value.gives in
    let made : OptionEntry = record { space = space; code = code; value = value.first; inner = inner_space it; is_text = text.first; always = always.first } in
    let test = passed_only (fits_in_option space value.first) made entry always.gives in
    subst (IsKeaEntry for_all) test.1 (record { may = other_passed (is_dhcp4 space) (may_configure for_all code) may })

entry_sound : (for_all : Bool) (known : List DefinedOption) (d : Data) (entry : OptionEntry) → kea_entry for_all known d ≡ Some entry → IsKeaEntry for_all entry
unfolding kea_entry
entry_sound for_all known d entry e =
    let keys = passed (keys_are_read data_keys d) _ entry e in
    let space = came_from (text_otherwise (codes "dhcp4") (get (codes "space") d)) _ entry keys.1 in
    let served = passed (is_served_space space.first) _ entry space.gives in
    let code = came_from (kea_code for_all known space.first d) _ entry served.1 in
    given_entry_sound for_all (defined_at known space.first code.first) space.first code.first d entry
    (code_sound for_all known space.first d code.first code.is) code.gives

-- not allowed as the server's, so not one that the server generates itself
free : (x own : Bool) → (x || not own) ≡ true → x ≡ false → own ≡ false
free true own e f = absurd (cc)
free false true e f = absurd (cc)
free false false e f = refl

-- an option of the whole server or a part of it
record IsKeaOption (for_all : Bool) (option : OptionData) : Type 0 where
  may : may_configure for_all option.code ≡ true
  value : length option.value ≤ 1024

part_sound : (option : OptionData) → IsKeaOption false option → IsOption option
part_sound option h =
    let range = code_range false option.code h.may in
    record { code = range.0; free = free false (list_any (nat_eq option.code) own_codes) range.1 refl; value = h.value }

-- the options of these entries, which stand among all
abbrev options_from : List OptionEntry → List OptionEntry → List OptionData
options_from all entries = map (option_with all) (filter is_of_message entries)

options_more : (for_all b : Bool) (all : List OptionEntry) (entry : OptionEntry) (rest : List OptionEntry) → (b ≡ true → may_configure for_all entry.code ≡ true)
    → (list_all is_short (map (option_with all) rest) ≡ true → AllByRecursion (IsKeaOption for_all) (map (option_with all) rest))
    → list_all is_short (map (option_with all) (cond b (entry ∷ rest) rest)) ≡ true → AllByRecursion (IsKeaOption for_all) (map (option_with all) (cond b (entry ∷ rest) rest))
options_more for_all true all entry rest may k short =
    let both = both_passed (is_short (option_with all entry)) (list_all is_short (map (option_with all) rest)) short in
    (record { may = may refl; value = leb-true (length (option_with all entry).value) 1024 both.0 }, k both.1)
options_more for_all false all entry rest may k short = k short

each_option : (for_all : Bool) (all entries : List OptionEntry) → AllByRecursion (IsKeaEntry for_all) entries → list_all is_short (options_from all entries) ≡ true → AllByRecursion (IsKeaOption for_all) (options_from all entries)
each_option for_all all [] h short = tt
each_option for_all all (entry ∷ entries) h short =
    options_more for_all (is_of_message entry) all entry (filter is_of_message entries) h.0.may (each_option for_all all entries h.1) short

parts_sound : (options : List OptionData) → AllByRecursion (IsKeaOption false) options → AllByRecursion IsOption options
parts_sound [] h = tt
parts_sound (o ∷ options) h = (part_sound o h.0, parts_sound options h.1)

few_from : (b : Bool) (entry : OptionEntry) (rest entries : List OptionEntry) → length rest ≤ length entries → length (cond b (entry ∷ rest) rest) ≤ length (entry ∷ entries)
few_from true entry rest entries h = omega (arith, h)
few_from false entry rest entries h = omega (arith, h)

few_options : (all entries : List OptionEntry) → length (options_from all entries) ≤ length entries
few_options all entries = rw (length-map (filter is_of_message entries) (option_with all)) (by entries) where
  by : (es : List OptionEntry) → length (filter is_of_message es) ≤ length es
  by [] = omega arith
  by (entry ∷ es) = few_from (is_of_message entry) entry (filter is_of_message es) es (by es)

apart_more : (b : Bool) (code : ℕ) (all : List OptionEntry) (entry : OptionEntry) (rest : List OptionEntry) → (b && (entry.code == code)) ≡ false → code_among code (map (option_with all) rest) ≡ false
    → code_among code (map (option_with all) (cond b (entry ∷ rest) rest)) ≡ false
apart_more true code all entry rest h k = ap (λ (x : Bool). x || code_among code (map (option_with all) rest)) h ∙ k
apart_more false code all entry rest h k = k

codes_apart : (code : ℕ) (all entries : List OptionEntry) → list_any (is_entry (codes "dhcp4") code) entries ≡ false → code_among code (options_from all entries) ≡ false
codes_apart code all [] e = refl
codes_apart code all (entry ∷ entries) e =
    let h = or_false (is_entry (codes "dhcp4") code entry) (list_any (is_entry (codes "dhcp4") code) entries) e in
    apart_more (is_of_message entry) code all entry (filter is_of_message entries) h.0 (codes_apart code all entries h.1)

own_from : (b : Bool) (all : List OptionEntry) (entry : OptionEntry) (rest : List OptionEntry) → (b ≡ true → code_among entry.code (map (option_with all) rest) ≡ false) → HaveOwnCodes (map (option_with all) rest)
    → HaveOwnCodes (map (option_with all) (cond b (entry ∷ rest) rest))
own_from true all entry rest h k = (h refl, k)
own_from false all entry rest h k = k

-- the space of an option of a message
message_space : (space : List ℕ) → is_dhcp4 space ≡ true → space ≡ codes "dhcp4"
message_space space e = (bytes_eq-Decides space (codes "dhcp4")).0 e

own_sound : (all entries : List OptionEntry) → entries_differ entries ≡ true → HaveOwnCodes (options_from all entries)
own_sound all [] e = tt
own_sound all (entry ∷ entries) e =
    let h = not_and (list_any (is_entry entry.space entry.code) entries) (entries_differ entries) e in
    own_from (is_of_message entry) all entry (filter is_of_message entries)
    (λ (m : is_of_message entry ≡ true). codes_apart entry.code all entries
    (subst (λ (space : List ℕ). list_any (is_entry space entry.code) entries ≡ false) (message_space entry.space m) h.0))
    (own_sound all entries h.1)

-- what the options of a list obey
record AreKeaOptions (for_all : Bool) (options : List OptionData) : Type 0 where
  few : length options ≤ 64
  each : AllByRecursion (IsKeaOption for_all) options
  own : HaveOwnCodes options

all_options : (for_all : Bool) (known : List DefinedOption) (value : Option Data) (options : List OptionData) → kea_options for_all known value ≡ Some options → AreKeaOptions for_all options
unfolding kea_options
all_options for_all known value options e =
    let read = came_from (list_of 64 (kea_entry for_all known) value) _ options e in
    let differ = passed (entries_differ read.first) _ options read.gives in
    let hold = passed (list_all (may_hold read.first) read.first) _ options differ.1 in
    let short = passed_only (list_all is_short (options_by read.first)) (options_by read.first) options hold.1 in
    let few = few_meant 64 (kea_entry for_all known) value read.first read.is in
    subst (AreKeaOptions for_all) short.1 (record {
      few = omega (arith, few, few_options read.first read.first);
      each = each_option for_all read.first read.first (each_meant (IsKeaEntry for_all) (kea_entry for_all known) (entry_sound for_all known) 64 value read.first read.is) short.0;
      own = own_sound read.first read.first differ.0;
    })

pub options_sound : (known : List DefinedOption) (value : Option Data) (options : List OptionData) → kea_options false known value ≡ Some options → AreOptions options
options_sound known value options e =
    let h = all_options false known value options e in
    record { few = h.few; each = parts_sound options h.each; own = h.own }

-- ---- the options of the whole server

few_more : (b : Bool) (o : OptionData) (options left : List OptionData) → length left ≤ length options → length (cond (not b) (o ∷ left) left) ≤ length (o ∷ options)
few_more true o options left h = omega (arith, h)
few_more false o options left h = omega (arith, h)

others_few : (options : List OptionData) → length (sent_to_all options) ≤ length options
others_few [] = omega arith
others_few (o ∷ options) = few_more (is_server_option o) o options (sent_to_all options) (others_few options)

among_more : (b : Bool) (code : ℕ) (o : OptionData) (left : List OptionData) → (o.code == code) ≡ false → code_among code left ≡ false → code_among code (cond (not b) (o ∷ left) left) ≡ false
among_more true code o left h k = k
among_more false code o left h k = ap (λ (x : Bool). x || code_among code left) h ∙ k

others_among : (code : ℕ) (options : List OptionData) → code_among code options ≡ false → code_among code (sent_to_all options) ≡ false
others_among code [] e = refl
others_among code (o ∷ options) e =
    let h = or_false (o.code == code) (code_among code options) e in
    among_more (is_server_option o) code o (sent_to_all options) h.0 (others_among code options h.1)

own_more : (b : Bool) (o : OptionData) (left : List OptionData) → code_among o.code left ≡ false → HaveOwnCodes left → HaveOwnCodes (cond (not b) (o ∷ left) left)
own_more true o left h k = k
own_more false o left h k = (h, k)

others_own : (options : List OptionData) → HaveOwnCodes options → HaveOwnCodes (sent_to_all options)
others_own [] h = tt
others_own (o ∷ options) h =
    own_more (is_server_option o) o (sent_to_all options) (others_among o.code options h.0) (others_own options h.1)

sound_more : (b : Bool) (o : OptionData) (left : List OptionData) → (b ≡ false → IsOption o) → AllByRecursion IsOption left → AllByRecursion IsOption (cond (not b) (o ∷ left) left)
sound_more true o left h k = k
sound_more false o left h k = (h refl, k)

all_but_server : (option : OptionData) → IsKeaOption true option → is_server_option option ≡ false → IsOption option
all_but_server option h e =
    let range = code_range true option.code h.may in
    record { code = range.0; free = free (option.code == server_code) (list_any (nat_eq option.code) own_codes) range.1 e; value = h.value }

others_sound : (options : List OptionData) → AllByRecursion (IsKeaOption true) options → AllByRecursion IsOption (sent_to_all options)
others_sound [] h = tt
others_sound (o ∷ options) h =
    sound_more (is_server_option o) o (sent_to_all options)
    (λ e. all_but_server o h.0 e)
    (others_sound options h.1)

pub all_sound : (known : List DefinedOption) (value : Option Data) (options : List OptionData) → kea_options true known value ≡ Some options → AreOptions (sent_to_all options)
all_sound known value options e =
    let h = all_options true known value options e in
    record {
      few = omega (arith, h.few, others_few options);
      each = others_sound options h.each;
      own = others_own options h.own;
    }

-- ---- the server's address

some_sound : (n address : ℕ) → some_address n ≡ Some address → 1 ≤ address
some_sound n address e =
    let test = passed_only (not (n == 0)) n address e in subst (λ (a : ℕ). 1 ≤ a) test.1 (some_server n test.0)

bytes_address_sound : (bytes : List ℕ) (address : ℕ) → address_in_bytes bytes ≡ Some address → 1 ≤ address
bytes_address_sound bytes address e = by (length bytes == 4) e where
  by : (b : Bool) → ◌≡◌ {A = Option ℕ} (if b then some_address (from_be_bytes w32 bytes) else None) (Some address) → 1 ≤ address
  by true h = some_sound (from_be_bytes w32 bytes) address h
  by false h = absurd (cc)

address_sound : (found : Option OptionData) (server : Option ℕ) (address : ℕ) → address_by found server ≡ Some address → 1 ≤ address
address_sound (Some option) server address e = bytes_address_sound option.value address e
address_sound None None address e = absurd (cc)
address_sound None (Some n) address e = some_sound n address e

pub server_sound : (options : List OptionData) (server : Option ℕ) (address : ℕ) → server_address options server ≡ Some address → 1 ≤ address
unfolding server_address
server_sound options server address e = address_sound (find is_server_option options) server address e
