-- When a client renews its lease and rebinds it, T1 and T2 (RFC 2131 section 4.4.5), by its lifetime
-- (Kea Administrator Reference Manual, section Sending T1 and T2).
use Rattle.std.specs.Prelude.{ℕ, ◌*◌, ◌/◌, Bool, ◌&&◌, nat_lt, max, min, pos, Float, Option, Some, None, is_some, unwrap_or, if◌then◌else◌}
use Rattle.std.specs.Float.{binary64, float_round, float_to_unsigned}
use Rattle.std.specs.Float.Ieee.{mul, of_int}
use Rattle.std.specs.Int.{w32}
use Rattle.kd_config.specs.declared.subnet.Subnet.{Subnet}
use Rattle.kd_config.specs.declared.term.Term.{Term}
use Rattle.kd_config.specs.declared.term.Timer.{Timer}
use Rattle.kd_config.specs.declared.term.Timer.TheVariants as timers
use Rattle.kd_config.specs.declared.times.Times.{Times}

-- a share of a lifetime in whole seconds, as Kea calculates it: the product of two floating-point
-- numbers, rounded to the nearest whole number, and from a half upwards
abbrev pub share_of : Float → ℕ → ℕ
share_of share lifetime =
    float_to_unsigned w32 (float_round binary64 (mul binary64 share (of_int binary64 (pos lifetime))))

-- the time of a timer for a lease with a lifetime, if it has one
abbrev pub time_by : Timer → ℕ → Option ℕ
time_by timers.Unset lifetime = None
time_by (timers.After seconds) lifetime = Some seconds
time_by (timers.Share share) lifetime = Some (share_of share lifetime)

-- a time that Kea sends: not 0, and below a bound
abbrev pub sent_below : ℕ → Option ℕ → Option ℕ
sent_below bound None = None
sent_below bound (Some seconds) =
    if nat_lt 0 seconds && nat_lt seconds bound then Some seconds else None

-- T2 if Kea sends it: it is below the lifetime
abbrev pub rebind_sent : Term → ℕ → Option ℕ
rebind_sent term lifetime = sent_below lifetime (time_by term.rebind lifetime)

-- T1 if Kea sends it: it is below T2, or below the lifetime where T2 is not sent
abbrev pub renew_sent : Term → ℕ → Option ℕ
renew_sent term lifetime =
    sent_below (unwrap_or (rebind_sent term lifetime) lifetime) (time_by term.renew lifetime)

-- T1; where Kea sends none, half of the lifetime, but at most T2
abbrev pub renew_for : Term → ℕ → ℕ
renew_for term lifetime =
    unwrap_or (renew_sent term lifetime)
    (min (unwrap_or (rebind_sent term lifetime) lifetime) (lifetime / 2))

-- T2; where Kea sends none, seven eighths of the lifetime, but at least T1
abbrev pub rebind_for : Term → ℕ → ℕ
rebind_for term lifetime =
    unwrap_or (rebind_sent term lifetime) (max (renew_for term lifetime) (lifetime * 7 / 8))

-- the times of a lease with this lifetime, with the holds of others
unfoldable pub times_of_term : Term → Times → ℕ → Times
times_of_term term others lifetime =
    record {
      lifetime = lifetime;
      renew = renew_for term lifetime;
      rebind = rebind_for term lifetime;
      offer_hold = others.offer_hold;
      decline_hold = others.decline_hold;
    }

-- a subnet has times of its own for leases
abbrev pub has_term : Subnet → Bool
has_term s = is_some s.term
