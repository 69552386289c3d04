-- The lease and offer times in a configuration of Kea's.
use Rattle.std.specs.Prelude.{ℕ, ◌*◌, ◌/◌, ◌==◌, Bool, not, ◌&&◌, ◌||◌, nat_le, nat_lt, Float, codes, Option, Some, None, is_some, List, if◌then◌else◌}
use Rattle.std.specs.Float.Ieee.{lt}
use Rattle.serde_json.specs.Data.{Data, number}
use Rattle.serde_json.specs.Find.{get, to_float}
use Rattle.kd_config.specs.Sound.{longest_lease}
use Rattle.kd_config.specs.Term.{share_of}
use Rattle.kd_config.specs.declared.times.Times.{Times}
use Rattle.kd_fields.specs.Steps.{must}
use Rattle.kd_fields.specs.Values.{number_if_given}
use Rattle.kd_kea.specs.declared.objects.lifetimes.TermKeys.{TermKeys}
use Rattle.kd_kea.specs.declared.objects.times.Shares.{Shares}
use Rattle.kd_kea.specs.declared.objects.times.TheConstants.{NOTHING, SEVEN_EIGHTHS, WHOLE}
use Rattle.kd_wire.specs.Steps.{◌>>=◌}

-- the share at a key: the usual one if there is none, and nothing if its value is no number
abbrev pub share_given : Float → Option Data → Float
share_given usual None = usual
share_given usual (Some (number n)) = to_float n
share_given usual (Some d) = NOTHING

-- the shares of T1 and T2 in the lifetime that a value gives; those above it are the usual ones
abbrev pub shares_given : Shares → Data → Shares
shares_given above d =
    record { renew = share_given above.renew (get (codes "t1-percent") d); rebind = share_given above.rebind (get (codes "t2-percent") d) }

-- a share is some of the lifetime, and not the whole
abbrev pub is_share : Float → Bool
is_share share = lt NOTHING share && lt share WHOLE

-- T1 has a share, T2 a larger one, and neither is the whole lifetime
abbrev pub are_shares : Shares → Bool
are_shares shares =
    lt NOTHING shares.renew && lt shares.renew shares.rebind && lt shares.rebind WHOLE

-- the key of shares that Kea does not take: T1's, if it is given and T2's is right by itself; where
-- neither is given, the one by which they are used
abbrev pub share_key : Data → List ℕ
share_key d =
    if not (is_share (share_given SEVEN_EIGHTHS (get (codes "t2-percent") d))) then codes "t2-percent"
    else if is_some (get (codes "t1-percent") d) then codes "t1-percent"
    else if is_some (get (codes "t2-percent") d) then codes "t2-percent"
    else codes "calculate-tee-times"

-- the shares of T1 and T2 are ones that Kea takes, or they are not used because the times are not
-- calculated
abbrev pub has_usual_shares : Bool → Shares → Bool
has_usual_shares calculated shares = not calculated || are_shares shares

-- T1 if it is not given: its share of the lifetime if it is calculated, else half of it
abbrev pub usual_renew : Bool → Shares → ℕ → ℕ
usual_renew calculated shares lifetime =
    (if calculated then share_of shares.renew lifetime else lifetime / 2)

-- T2 if it is not given: its share of the lifetime if it is calculated, else seven eighths of it
abbrev pub usual_rebind : Bool → Shares → ℕ → ℕ
usual_rebind calculated shares lifetime =
    (if calculated then share_of shares.rebind lifetime else lifetime * 7 / 8)

-- a time is given or calculated
abbrev pub is_asked_for : Bool → Option Data → Bool
is_asked_for calculated value = calculated || is_some value

-- a time is at most a bound; Kea does not send one that is asked for unless it is less
abbrev pub fits_below : Bool → ℕ → ℕ → Bool
fits_below asked time bound = (if asked then nat_lt time bound else nat_le time bound)

-- T1 is at most T2, and T2 at most the lifetime; where they are asked for, they are times that Kea
-- sends
abbrev pub are_in_order : Bool → Bool → ℕ → ℕ → ℕ → Bool
are_in_order renew_asked rebind_asked renew rebind lifetime =
    (not renew_asked || nat_lt 0 renew)
    && fits_below (renew_asked && rebind_asked) renew rebind
    && fits_below rebind_asked rebind lifetime

-- the key of times that are not in order: one that is given
abbrev pub times_key : Data → List ℕ
times_key d =
    if is_some (get (codes "rebind-timer") d) then codes "rebind-timer"
    else if is_some (get (codes "renew-timer") d) then codes "renew-timer"
    else codes "calculate-tee-times"

-- how long an offer is held: a minute if nothing or 0 is given
abbrev pub offer_time : ℕ → ℕ
offer_time given = (if given == 0 then 60 else given)

-- the lease and offer times of the whole server, where the keys for them say this; a timer of 0 asks
-- Kea not to send it, and is not allowed
unfoldable pub kea_times : TermKeys → Data → Option Times
kea_times keys d = do
  renew ← number_if_given 1 longest_lease (usual_renew keys.calculated keys.shares keys.usual) (get (codes "renew-timer") d)
  rebind ← number_if_given 1 longest_lease (usual_rebind keys.calculated keys.shares keys.usual) (get (codes "rebind-timer") d)
  _ ← must (are_in_order (is_asked_for keys.calculated (get (codes "renew-timer") d)) (is_asked_for keys.calculated (get (codes "rebind-timer") d)) renew rebind keys.usual)
  offer ← number_if_given 0 86400 0 (get (codes "offer-lifetime") d)
  decline_hold ← number_if_given 1 31536000 86400 (get (codes "decline-probation-period") d)
  Some (record { lifetime = keys.usual; renew = renew; rebind = rebind; offer_hold = offer_time offer; decline_hold = decline_hold })
