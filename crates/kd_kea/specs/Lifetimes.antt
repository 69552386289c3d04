-- How long leases last in a configuration of Kea's, and when their clients renew and rebind them (Kea
-- Administrator Reference Manual, sections Lease Lifetimes, and Sending T1 and T2). A key that a subnet
-- does not have is that of its network, and then that of the whole server, each key by itself. A class
-- has a lifetime of its own, or none.
use Rattle.std.specs.Prelude.{ℕ, ◌==◌, Bool, true, false, not, ◌&&◌, ◌||◌, nat_le, Float, List, codes, Option, Some, None, is_some, option_map, unwrap_or, if◌then◌else◌}
use Rattle.serde_json.specs.Data.{Data, Items, no_items, item}
use Rattle.serde_json.specs.Find.{as_array, get}
use Rattle.kd_classes.specs.declared.lifetime.Lifetime.{Lifetime}
use Rattle.kd_config.specs.Sound.{longest_lease}
use Rattle.kd_config.specs.Term.{rebind_for, renew_for}
use Rattle.kd_config.specs.declared.term.Term.{Term}
use Rattle.kd_config.specs.declared.term.Timer.{Timer}
use Rattle.kd_config.specs.declared.term.Timer.TheVariants as timers
use Rattle.kd_config.specs.declared.times.Times.{Times}
use Rattle.kd_fields.specs.Steps.{only_if}
use Rattle.kd_fields.specs.Values.{number_if_given, number_within}
use Rattle.kd_kea.specs.Times.{has_usual_shares, shares_given}
use Rattle.kd_keys.specs.Values.{flag_or}
use Rattle.kd_kea.specs.declared.objects.lifetimes.TermKeys.{TermKeys}
use Rattle.kd_kea.specs.declared.objects.subnet.Above.{Above}
use Rattle.kd_kea.specs.declared.objects.times.TheConstants.{HALF, SEVEN_EIGHTHS}
use Rattle.kd_wire.specs.Steps.{◌>>=◌}

-- a number of seconds from a least one on; if it is not given, it is the one above, if there is one
abbrev pub seconds_or_above : ℕ → Option ℕ → Option Data → Option (Option ℕ)
seconds_or_above least above None = Some above
seconds_or_above least above (Some d) = option_map Some (number_within least longest_lease d)

-- a lifetime between bounds; a bound that is not given is the lifetime itself
abbrev pub lifetime_between : Option ℕ → ℕ → Option ℕ → Lifetime
lifetime_between least usual most =
    record { least = unwrap_or least usual; usual = usual; most = unwrap_or most usual }

-- a lifetime is in its bounds
abbrev pub is_in_bounds : Lifetime → Bool
is_in_bounds lifetime =
    nat_le lifetime.least lifetime.usual && nat_le lifetime.usual lifetime.most

-- ---- classes

-- the lifetime of a class by its usual, its least and its greatest one: one of them alone is all three,
-- and bounds need something between them
abbrev pub lifetime_by : Option ℕ → Option ℕ → Option ℕ → Option (Option Lifetime)
lifetime_by None None None = Some None
lifetime_by None (Some least) None = Some (Some (lifetime_between None least None))
lifetime_by None None (Some most) = Some (Some (lifetime_between None most None))
lifetime_by None (Some least) (Some most) = None
lifetime_by (Some usual) least most =
    only_if (is_in_bounds (lifetime_between least usual most))
    (Some (lifetime_between least usual most))

-- the lifetime that a class has, if it has one
unfoldable pub own_lifetime : Data → Option (Option Lifetime)
own_lifetime d = do
  usual ← seconds_or_above 1 None (get (codes "valid-lifetime") d)
  least ← seconds_or_above 1 None (get (codes "min-valid-lifetime") d)
  most ← seconds_or_above 1 None (get (codes "max-valid-lifetime") d)
  lifetime_by usual least most

-- one of these values has a key
abbrev pub is_key_among : List ℕ → Items → Bool
is_key_among key no_items = false
is_key_among key (item d ds) = is_some (get key d) || is_key_among key ds

-- one of the values of a list, if there is one, has a key
abbrev pub is_key_in : List ℕ → Option Items → Bool
is_key_in key None = false
is_key_in key (Some items) = is_key_among key items

-- a value in the list at a key has another key
abbrev pub is_key_below : List ℕ → List ℕ → Data → Bool
is_key_below list key d = is_key_in key (get list d >>= as_array)

-- a class in the value of `Dhcp4` has a lifetime
abbrev pub has_class_lifetime : Data → Bool
has_class_lifetime d =
    is_key_below (codes "client-classes") (codes "valid-lifetime") d
    || is_key_below (codes "client-classes") (codes "min-valid-lifetime") d
    || is_key_below (codes "client-classes") (codes "max-valid-lifetime") d

-- ---- the whole server, networks and subnets

-- what the keys say where none of them is given
abbrev pub usual_keys : TermKeys
usual_keys =
    record { usual = 7200; least = None; most = None; renew = None; rebind = None; calculated = false; shares = record { renew = HALF; rebind = SEVEN_EIGHTHS } }

-- what the keys of a value say, each by itself, where they say this above it
unfoldable pub keys_given : TermKeys → Data → Option TermKeys
keys_given above d = do
  usual ← number_if_given 1 longest_lease above.usual (get (codes "valid-lifetime") d)
  least ← seconds_or_above 1 above.least (get (codes "min-valid-lifetime") d)
  most ← seconds_or_above 1 above.most (get (codes "max-valid-lifetime") d)
  renew ← seconds_or_above 0 above.renew (get (codes "renew-timer") d)
  rebind ← seconds_or_above 0 above.rebind (get (codes "rebind-timer") d)
  calculated ← flag_or above.calculated (get (codes "calculate-tee-times") d)
  Some (record { usual = usual; least = least; most = most; renew = renew; rebind = rebind; calculated = calculated; shares = shares_given above.shares d })

-- the lifetime by the keys
abbrev pub lifetime_of : TermKeys → Lifetime
lifetime_of keys = lifetime_between keys.least keys.usual keys.most

-- T1 is at most T2, if both are given
abbrev pub timers_rise : Option ℕ → Option ℕ → Bool
timers_rise (Some renew) (Some rebind) = nat_le renew rebind
timers_rise renew rebind = true

-- Kea takes what the keys say together
abbrev pub go_together : TermKeys → Bool
go_together keys =
    is_in_bounds (lifetime_of keys)
    && timers_rise keys.renew keys.rebind
    && has_usual_shares keys.calculated keys.shares

-- what the keys of a value say together, where they say this above it
unfoldable pub kea_keys : TermKeys → Data → Option TermKeys
kea_keys above d = do
  keys ← keys_given above d
  only_if (go_together keys) keys

-- the key of a lifetime that is not in its bounds: that of the bound, if it is given
abbrev pub bound_key : List ℕ → Data → List ℕ
bound_key bound d = if is_some (get bound d) then bound else codes "valid-lifetime"

-- the key of timers that are not in order: one that is given
abbrev pub timer_key : Data → List ℕ
timer_key d =
    if is_some (get (codes "rebind-timer") d) then codes "rebind-timer" else codes "renew-timer"

-- T1 or T2: the one that is given, or else a share of the lifetime, if the times are calculated
abbrev pub timer_by : Bool → Float → Option ℕ → Timer
timer_by calculated share (Some seconds) = timers.After seconds
timer_by true share None = timers.Share share
timer_by false share None = timers.Unset

-- the term that leases have by the keys
abbrev pub term_of : TermKeys → Term
term_of keys =
    record {
      lifetime = lifetime_of keys;
      renew = timer_by keys.calculated keys.shares.renew keys.renew;
      rebind = timer_by keys.calculated keys.shares.rebind keys.rebind;
    }

-- every lease of a term has these times
abbrev pub has_times_alone : Times → Term → Bool
has_times_alone times term =
    term.lifetime.least == times.lifetime
    && term.lifetime.usual == times.lifetime
    && term.lifetime.most == times.lifetime
    && renew_for term times.lifetime == times.renew
    && rebind_for term times.lifetime == times.rebind

-- the term of leases, unless every lease has the times of the whole server
abbrev pub term_unless_alike : Above → Option Term
term_unless_alike above =
    if not above.by_class && has_times_alone above.times (term_of above.keys) then None
    else Some (term_of above.keys)
