-- The values that a text describes obey what every configuration obeys.
use Rattle.std.proofs.Common.{◌≡◌, ℕ, ◌+◌, ◌-◌, ◌*◌, ◌/◌, ◌^◌, ◌<◌, ◌≤◌, Bool, true, false, not, ◌&&◌, nat_le, nat_eq, ◌==◌, List, [], ◌∷◌, ◌++◌, length, codes, Option, Some, None, refl, subst, ap, ◌∙◌, arith, if◌then◌else◌}
use Rattle.std.proofs.Math.Nat.{mul-div_cancel}
use Rattle.std.proofs.lemmas.Bool.Decides.{nat_tests}
use Rattle.std.proofs.lemmas.List.{length-append}
use Rattle.std.proofs.lemmas.Nat.{pow_pos}
use Rattle.std.specs.Int.{from_be_bytes, w32}
use Rattle.std.specs.List.{AllByRecursion, list_any}
use Rattle.std.specs.Prelude.{◌||◌, option_and_then}
use borrow.Author.Tests.{leb-true}
use Rattle.kd_classes.specs.declared.option_list.OptionData.{OptionData}
use Rattle.kd_json.proofs.Blocks.{cleared_within}
use Rattle.kd_config.proofs.Tests.{some_is, both_passed}
use Rattle.kd_json.proofs.Came.{Came, came_from, passed, passed_only, seen_from, few_items}
use Rattle.kd_config.specs.Address.{network_address, prefix_size}
use Rattle.kd_fields.specs.Address.{address_spelled}
use Rattle.kd_json.specs.Address.{addresses_by, addresses_from, addresses_of_parts, addresses_spelled, parts_at, length_spelled, short_decimal, prefix_addresses, prefix_spelled, after_spaces, before_spaces}
use Rattle.kd_fields.specs.HexText as hex
use Rattle.kd_config.specs.Options.{code_among, own_codes}
use Rattle.kd_json.specs.Options.{code_given, has_option_keys, option_after, options_behind, option_list_in}
use Rattle.kd_fields.specs.Lists.{items_or_none}
use Rattle.kd_config.specs.Sound.{longest_lease}
use Rattle.kd_json.specs.Settings.{times_given}
use Rattle.kd_config.specs.Sound.{AreOptions, AreTimes, HaveOwnCodes, IsFrom, IsOption, IsPrefix}
use Rattle.kd_fields.specs.Values.{hex_bytes_in, number_within, number_if_given}
use Rattle.kd_config.specs.declared.prefix.Prefix.{Prefix}
use Rattle.kd_config.specs.declared.range.Range.{Range}
use Rattle.kd_config.specs.declared.times.Times.{Times}
use Rattle.kd_expr.specs.Address.{a_digit, decimal}
use Rattle.kd_expr.specs.Lexing.{address_read, behind_of, front_of, is_empty, part_after_dot, part_at_front}
use Rattle.kd_expr.specs.Reading.{and_then}
use Rattle.serde_json.specs.Data.{Data, Items, no_items, item}
use Rattle.serde_json.specs.Events.{items_len}
use Rattle.serde_json.specs.Find.{as_bool, as_number, as_str, as_u64, get}

-- a number that is tested at both ends
from_tests : (least most n : ℕ) → (nat_le least n && nat_le n most) ≡ true → IsFrom least most n
from_tests least most n e =
    let both = both_passed (nat_le least n) (nat_le n most) e in
    record { above = leb-true least n both.0; below = leb-true n most both.1 }

pub number_sound : (least most : ℕ) (d : Data) (n : ℕ) → number_within least most d ≡ Some n → IsFrom least most n
unfolding number_within
number_sound least most d n e =
    let read = came_from (option_and_then as_u64 (as_number d)) _ n e in
    let test = passed_only (nat_le least read.first && nat_le read.first most) read.first n read.gives in
    subst (IsFrom least most) test.1 (from_tests least most read.first test.0)

pub number_or_sound : (least most default : ℕ) (value : Option Data) (n : ℕ) → IsFrom least most default → number_if_given least most default value ≡ Some n → IsFrom least most n
number_or_sound least most default None n fits e = subst (IsFrom least most) (some_is default n e) fits
number_or_sound least most default (Some d) n fits e = number_sound least most d n e

pub bytes_sound : (least most : ℕ) (d : Data) (bytes : List ℕ) → hex_bytes_in least most d ≡ Some bytes → IsFrom least most (length bytes)
unfolding hex_bytes_in
bytes_sound least most d bytes e =
    let read = came_from (option_and_then hex.bytes_spelled (as_str d)) _ bytes e in
    let test = passed_only (nat_le least (length read.first) && nat_le (length read.first) most) read.first bytes read.gives in
    subst (λ bs. IsFrom least most (length bs)) test.1 (from_tests least most (length read.first) test.0)

pub times_sound : (d : Data) (t : Times) → times_given d ≡ Some t → AreTimes t
unfolding times_given
times_sound d t e =
    let lifetime = came_from (number_if_given 1 longest_lease 7200 (get (codes "valid-lifetime") d)) _ t e in
    let renew = came_from (number_if_given 0 longest_lease (lifetime.first / 2) (get (codes "renew-timer") d)) _ t lifetime.gives in
    let rebind = came_from (number_if_given 0 longest_lease (lifetime.first * 7 / 8) (get (codes "rebind-timer") d)) _ t renew.gives in
    let order = passed (nat_le renew.first rebind.first && nat_le rebind.first lifetime.first) _ t rebind.gives in
    let both = both_passed (nat_le renew.first rebind.first) (nat_le rebind.first lifetime.first) order.0 in
    let offer = came_from (number_if_given 1 86400 60 (get (codes "offer-hold") d)) _ t order.1 in
    let decline = came_from (number_if_given 1 31536000 86400 (get (codes "decline-hold") d)) _ t offer.gives in
    subst AreTimes (some_is _ t decline.gives) (record {
      lifetime = number_or_sound 1 longest_lease 7200 (get (codes "valid-lifetime") d) lifetime.first (record { above = omega arith; below = omega arith }) lifetime.is;
      renew = leb-true renew.first rebind.first both.0;
      rebind = leb-true rebind.first lifetime.first both.1;
      offer_hold = number_or_sound 1 86400 60 (get (codes "offer-hold") d) offer.first (record { above = omega arith; below = omega arith }) offer.is;
      decline_hold = number_or_sound 1 31536000 86400 (get (codes "decline-hold") d) decline.first (record { above = omega arith; below = omega arith }) decline.is;
    })

not_passed : (b : Bool) → not b ≡ true → b ≡ false
not_passed true h = absurd (cc)
not_passed false h = refl

code_sound : (d : Data) (code : ℕ) → code_given d ≡ Some code → IsFrom 1 254 code × (list_any (nat_eq code) own_codes ≡ false)
unfolding code_given
code_sound d code e =
    let read = came_from (number_within 1 254 d) _ code e in
    let test = passed_only (not (list_any (nat_eq read.first) own_codes)) read.first code read.gives in
    subst (λ c. IsFrom 1 254 c × (list_any (nat_eq c) own_codes ≡ false)) test.1 (number_sound 1 254 d read.first read.is, not_passed (list_any (nat_eq read.first) own_codes) test.0)

-- an option after others is one that may be configured, with a code that none of them has
option_sound : (earlier : List OptionData) (d : Data) (option : OptionData) → option_after earlier d ≡ Some option → IsOption option × (code_among option.code earlier ≡ false)
unfolding option_after
option_sound earlier d option e =
    let keys = passed (has_option_keys d) _ option e in
    let code = came_from (option_and_then code_given (get (codes "code") d)) _ option keys.1 in
    let own = passed (not (code_among code.first earlier)) _ option code.gives in
    let value = came_from (option_and_then (hex_bytes_in 0 1024) (get (codes "data") d)) _ option own.1 in
    let text = came_from (option_and_then as_bool (get (codes "csv-format") d)) _ option value.gives in
    let last = passed_only (not text.first) _ option text.gives in
    let from = came_from (get (codes "code") d) code_given code.first code.is in
    let bytes = came_from (get (codes "data") d) (hex_bytes_in 0 1024) value.first value.is in
    let good = code_sound from.first code.first from.gives in
    subst (λ o. IsOption o × (code_among o.code earlier ≡ false)) last.1
    (record { code = good.0; free = good.1; value = (bytes_sound 0 1024 bytes.first value.first bytes.gives).below }, not_passed (code_among code.first earlier) own.0)

turned : (a b : ℕ) → (a == b) ≡ false → (b == a) ≡ false
turned a b e = grind (arith, nat_tests)

neither : (a b : Bool) → (a || b) ≡ false → (a ≡ false) × (b ≡ false)
neither true b e = absurd (cc)
neither false b e = (refl, e)

without : (code : ℕ) (option : OptionData) (options : List OptionData) → code_among code options ≡ false → (option.code == code) ≡ false → code_among code (options ++ option ∷ []) ≡ false
without code option [] h k = ap (λ b. b || false) k
without code option (o ∷ options) h k =
    let both = neither (o.code == code) (code_among code options) h in
    ap (λ b. b || code_among code (options ++ option ∷ [])) both.0 ∙ without code option options both.1 k

own_behind : (earlier : List OptionData) (option : OptionData) → HaveOwnCodes earlier → code_among option.code earlier ≡ false → HaveOwnCodes (earlier ++ option ∷ [])
own_behind [] option h k = (refl, tt)
own_behind (o ∷ earlier) option h k =
    let both = neither (o.code == option.code) (code_among option.code earlier) k in
    (without o.code option earlier h.0 (turned o.code option.code both.0), own_behind earlier option h.1 both.1)

all_behind : (earlier : List OptionData) (option : OptionData) → AllByRecursion IsOption earlier → IsOption option → AllByRecursion IsOption (earlier ++ option ∷ [])
all_behind [] option h k = (k, tt)
all_behind (o ∷ earlier) option h k = (h.0, all_behind earlier option h.1 k)

length_behind : (earlier : List OptionData) (option : OptionData) → length (earlier ++ option ∷ []) ≡ length earlier + 1
length_behind earlier option = length-append earlier (option ∷ [])

-- options after `count` others, all of which may be configured
record AreBehind (count : ℕ) (options : List OptionData) : Type 0 where
  many : length options ≤ count
  each : AllByRecursion IsOption options
  own : HaveOwnCodes options

behind_sound : (earlier : List OptionData) (items : Items) (count : ℕ) (options : List OptionData) → AreBehind count earlier → options_behind earlier items ≡ Some options → AreBehind (count + items_len items) options
behind_sound earlier no_items count options h e = subst (AreBehind (count + 0)) (some_is earlier options e) (record { many = omega (arith, h.many); each = h.each; own = h.own })
behind_sound earlier (item d ds) count options h e =
    let here = came_from (option_after earlier d) _ options e in
    let good = option_sound earlier d here.first here.is in
    let more : AreBehind (count + 1) (earlier ++ here.first ∷ []) = record {
      many = omega (arith, h.many, length_behind earlier here.first);
      each = all_behind earlier here.first h.each good.0;
      own = own_behind earlier here.first h.own good.1;
    } in
    let all = behind_sound (earlier ++ here.first ∷ []) ds (count + 1) options more here.gives in
    record { many = omega (arith, all.many); each = all.each; own = all.own }

pub options_sound : (value : Option Data) (options : List OptionData) → option_list_in value ≡ Some options → AreOptions options
unfolding option_list_in
options_sound value options e =
    let items = came_from (items_or_none 64 value) _ options e in
    let all = behind_sound [] items.first 0 options (record { many = omega arith; each = tt; own = tt }) items.gives in
    record { few = omega (arith, all.many, few_items 64 value items.first items.is); each = all.each; own = all.own }

-- a part of an address is at most 255
part_small : (text : List ℕ) (part : ℕ × List ℕ) → part_at_front text ≡ Some part → part.0 ≤ 255
unfolding part_at_front
part_small text part e =
    let digits = front_of a_digit text in
    let sizes = nat_le 1 (length digits) && nat_le (length digits) 3 in
    let test = passed_only (sizes && nat_le (decimal digits) 255) (decimal digits, behind_of a_digit text) part e in
    subst (λ (x : ℕ × List ℕ). x.0 ≤ 255) test.1 (leb-true (decimal digits) 255 (both_passed sizes (nat_le (decimal digits) 255) test.0).1)

next_small : (text : List ℕ) (part : ℕ × List ℕ) → part_after_dot text ≡ Some part → part.0 ≤ 255
unfolding part_after_dot
next_small [] part e = absurd (cc)
next_small (b ∷ text) part e = by (b == 46) e where
  by : (t : Bool) → ◌≡◌ {A = Option (ℕ × List ℕ)} (if t then part_at_front text else None) (Some part) → part.0 ≤ 255
  by true h = part_small text part h
  by false h = absurd (cc)

read_from : {A B : Type 0} (o : Option A) (f : A → Option B) (b : B) → and_then o f ≡ Some b → Came o f b
read_from None f b e = absurd (cc)
read_from (Some a) f b e = record { first = a; is = refl; gives = e }

-- four bytes make a number of 32 bits
bytes_small : (text bytes : List ℕ) → address_read text ≡ Some bytes → from_be_bytes w32 bytes < 2 ^ 32
unfolding address_read
bytes_small text bytes e =
    let a = read_from (part_at_front text) _ bytes e in
    let b = read_from (part_after_dot a.first.1) _ bytes a.gives in
    let c = read_from (part_after_dot b.first.1) _ bytes b.gives in
    let d = read_from (part_after_dot c.first.1) _ bytes c.gives in
    let all = passed_only (is_empty d.first.1) (a.first.0 ∷ b.first.0 ∷ c.first.0 ∷ d.first.0 ∷ []) bytes d.gives in
    subst (λ bs. from_be_bytes w32 bs < 2 ^ 32) all.1
    (omega (arith, part_small text a.first a.is, next_small a.first.1 b.first b.is, next_small b.first.1 c.first c.is, next_small c.first.1 d.first d.is))

address_small : (text : List ℕ) (n : ℕ) → address_spelled text ≡ Some n → n < 2 ^ 32
unfolding address_spelled
address_small text n e =
    let bytes = seen_from (from_be_bytes w32) (address_read text) n e in
    subst (λ a. a < 2 ^ 32) bytes.2 (bytes_small text bytes.0 bytes.1)

length_small : (text : List ℕ) (n : ℕ) → length_spelled text ≡ Some n → n ≤ 32
unfolding length_spelled
length_small text n e =
    let digits = came_from (short_decimal text) _ n e in
    let test = passed_only (nat_le digits.first 32) digits.first n digits.gives in
    subst (λ l. l ≤ 32) test.1 (leb-true digits.first 32 test.0)

-- clearing the bits after a length again changes nothing
cleared_again : (address length : ℕ) → network_address (network_address address length) length ≡ network_address address length
cleared_again address length = ap (λ n. n * prefix_size length) (mul-div_cancel (address / prefix_size length) (pow_pos (32 - length)))

pub prefix_sound : (text : List ℕ) (prefix : Prefix) → prefix_spelled text ≡ Some prefix → IsPrefix prefix
unfolding prefix_spelled
prefix_sound text prefix e =
    let parts = came_from (parts_at 47 text) _ prefix e in
    let address = came_from (address_spelled parts.first.0) _ prefix parts.gives in
    let bits = came_from (length_spelled parts.first.1) _ prefix address.gives in
    subst IsPrefix (some_is _ prefix bits.gives) (record {
      length = length_small parts.first.1 bits.first bits.is;
      clear = cleared_again address.first bits.first;
      within = cleared_within address.first bits.first (address_small parts.first.0 address.first address.is);
    })

addresses_rise : (first last : ℕ) (range : Range) → addresses_from first last ≡ Some range → range.first ≤ range.last
addresses_rise first last range e =
    let test = passed_only (nat_le first last) _ range e in
    subst (λ (r : Range). r.first ≤ r.last) test.1 (leb-true first last test.0)

by_parts_rise : (text : List ℕ) (parts : Option (List ℕ × List ℕ)) (range : Range) → addresses_by text parts ≡ Some range → range.first ≤ range.last
unfolding addresses_of_parts
by_parts_rise text None range e =
    let prefix = came_from (prefix_spelled text) prefix_addresses range e in
    addresses_rise prefix.first.address (prefix.first.address + (prefix_size prefix.first.length - 1)) range prefix.gives
by_parts_rise text (Some parts) range e =
    let first = came_from (address_spelled (before_spaces parts.0)) _ range e in
    let last = came_from (address_spelled (after_spaces parts.1)) _ range first.gives in
    addresses_rise first.first last.first range last.gives

-- the addresses of a text go from the lowest to the highest
pub spelled_rise : (text : List ℕ) (range : Range) → addresses_spelled text ≡ Some range → range.first ≤ range.last
unfolding addresses_spelled
spelled_rise text range e = by_parts_rise text (parts_at 45 text) range e
