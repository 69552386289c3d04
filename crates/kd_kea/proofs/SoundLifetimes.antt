-- The times of leases in a text of Kea's obey what those of every configuration obey.
use Rattle.std.proofs.Common.{◌≡◌, ℕ, Bool, true, false, not, ◌&&◌, nat_le, codes, Option, Some, None, IfSome, arith, refl, subst, if◌then◌else◌}
use Rattle.std.specs.Prelude.{unwrap_or}
use borrow.Author.Tests.{leb-true}
use Rattle.kd_classes.specs.declared.lifetime.Lifetime.{Lifetime}
use Rattle.kd_config.proofs.Tests.{both_passed, some_is}
use Rattle.kd_config.specs.Sound.{IsFrom, IsLifetime, longest_lease}
use Rattle.kd_json.proofs.Came.{came_from, passed_only, seen_from}
use Rattle.kd_json.proofs.Sounds.{number_or_sound}
use Rattle.kd_fields.specs.Values.{number_if_given, number_within}
use Rattle.kd_kea.specs.Lifetimes.{own_lifetime, go_together, has_times_alone, is_in_bounds, kea_keys, keys_given, lifetime_between, lifetime_by, lifetime_of, seconds_or_above, term_of, term_unless_alike, timers_rise, usual_keys}
use Rattle.kd_kea.specs.Times.{has_usual_shares}
use Rattle.kd_keys.specs.Values.{flag_or}
use Rattle.kd_kea.specs.declared.objects.lifetimes.TermKeys.{TermKeys}
use Rattle.kd_kea.specs.declared.objects.subnet.Above.{Above}
use Rattle.serde_json.specs.Data.{Data}
use Rattle.serde_json.specs.Find.{get}

-- a number of seconds that a lease may last
abbrev IsLong : ℕ → Type 0
IsLong n = IsFrom 1 longest_lease n

-- ---- numbers

seconds_sound : (above : Option ℕ) (value : Option Data) (n : Option ℕ) → IfSome above IsLong → seconds_or_above 1 above value ≡ Some n → IfSome n IsLong
seconds_sound above None n fits e = subst (λ (o : Option ℕ). IfSome o IsLong) (some_is above n e) fits
seconds_sound above (Some d) n fits e =
    let seen = seen_from Some (number_within 1 longest_lease d) n e in
    subst (λ (o : Option ℕ). IfSome o IsLong) seen.2
    (number_or_sound 1 longest_lease 1 (Some d) seen.0 (record { above = omega arith; below = omega arith }) seen.1)

or_long : (o : Option ℕ) (n : ℕ) → IfSome o IsLong → IsLong n → IsLong (unwrap_or o n)
or_long None n h k = k
or_long (Some m) n h k = h

between_sound : (least : Option ℕ) (usual : ℕ) (most : Option ℕ) → IfSome least IsLong → IsLong usual → IfSome most IsLong → is_in_bounds (lifetime_between least usual most) ≡ true → IsLifetime (lifetime_between least usual most)
between_sound least usual most l u m e =
    let both = both_passed (nat_le (unwrap_or least usual) usual) (nat_le usual (unwrap_or most usual)) e in
    record {
      some = (or_long least usual l u).above;
      above = leb-true (unwrap_or least usual) usual both.0;
      below = leb-true usual (unwrap_or most usual) both.1;
      bounded = (or_long most usual m u).below;
    }

-- ---- classes

-- a lifetime without bounds
alone_sound : (n : ℕ) → IsLong n → IsLifetime (lifetime_between None n None)
alone_sound n h =
    record { some = h.above; above = omega arith; below = omega arith; bounded = h.below }

by_sound : (usual least most : Option ℕ) (lifetime : Option Lifetime) → IfSome usual IsLong → IfSome least IsLong → IfSome most IsLong → lifetime_by usual least most ≡ Some lifetime → IfSome lifetime IsLifetime
by_sound None None None lifetime u l m e = subst (λ (o : Option Lifetime). IfSome o IsLifetime) (some_is None lifetime e) tt
by_sound None (Some least) None lifetime u l m e =
    subst (λ (o : Option Lifetime). IfSome o IsLifetime) (some_is (Some (lifetime_between None least None)) lifetime e) (alone_sound least l)
by_sound None None (Some most) lifetime u l m e =
    subst (λ (o : Option Lifetime). IfSome o IsLifetime) (some_is (Some (lifetime_between None most None)) lifetime e) (alone_sound most m)
by_sound None (Some least) (Some most) lifetime u l m e = absurd (cc)
by_sound (Some usual) least most lifetime u l m e =
    let test = passed_only (is_in_bounds (lifetime_between least usual most)) (Some (lifetime_between least usual most)) lifetime e in
    subst (λ (o : Option Lifetime). IfSome o IsLifetime) test.1 (between_sound least usual most l u m test.0)

pub class_lifetime_sound : (d : Data) (lifetime : Option Lifetime) → own_lifetime d ≡ Some lifetime → IfSome lifetime IsLifetime
unfolding own_lifetime
class_lifetime_sound d lifetime e =
    let usual = came_from (seconds_or_above 1 None (get (codes "valid-lifetime") d)) _ lifetime e in
    let least = came_from (seconds_or_above 1 None (get (codes "min-valid-lifetime") d)) _ lifetime usual.gives in
    let most = came_from (seconds_or_above 1 None (get (codes "max-valid-lifetime") d)) _ lifetime least.gives in
    by_sound usual.first least.first most.first lifetime
    (seconds_sound None (get (codes "valid-lifetime") d) usual.first tt usual.is)
    (seconds_sound None (get (codes "min-valid-lifetime") d) least.first tt least.is)
    (seconds_sound None (get (codes "max-valid-lifetime") d) most.first tt most.is)
    most.gives

-- ---- the whole server, networks and subnets

-- what the keys say of the lifetime may be that of a lease
pub record AreTermKeys (keys : TermKeys) : Type 0 where
  pub usual : IsFrom 1 longest_lease keys.usual
  pub least : IfSome keys.least (IsFrom 1 longest_lease)
  pub most : IfSome keys.most (IsFrom 1 longest_lease)
  pub bounds : is_in_bounds (lifetime_of keys) ≡ true

pub usual_keys_sound : AreTermKeys usual_keys
usual_keys_sound = record {
  usual = record { above = omega arith; below = omega arith };
  least = tt;
  most = tt;
  bounds = refl;
}

-- the keys of a value by themselves
record AreNumbers (keys : TermKeys) : Type 0 where
  usual : IsLong keys.usual
  least : IfSome keys.least IsLong
  most : IfSome keys.most IsLong

given_sound : (above : TermKeys) → AreTermKeys above → (d : Data) (keys : TermKeys) → keys_given above d ≡ Some keys → AreNumbers keys
unfolding keys_given
given_sound above sound d keys e =
    let usual = came_from (number_if_given 1 longest_lease above.usual (get (codes "valid-lifetime") d)) _ keys e in
    let least = came_from (seconds_or_above 1 above.least (get (codes "min-valid-lifetime") d)) _ keys usual.gives in
    let most = came_from (seconds_or_above 1 above.most (get (codes "max-valid-lifetime") d)) _ keys least.gives in
    let renew = came_from (seconds_or_above 0 above.renew (get (codes "renew-timer") d)) _ keys most.gives in
    let rebind = came_from (seconds_or_above 0 above.rebind (get (codes "rebind-timer") d)) _ keys renew.gives in
    let calculated = came_from (flag_or above.calculated (get (codes "calculate-tee-times") d)) _ keys rebind.gives in
    subst AreNumbers (some_is _ keys calculated.gives) (record {
      usual = number_or_sound 1 longest_lease above.usual (get (codes "valid-lifetime") d) usual.first sound.usual usual.is;
      least = seconds_sound above.least (get (codes "min-valid-lifetime") d) least.first sound.least least.is;
      most = seconds_sound above.most (get (codes "max-valid-lifetime") d) most.first sound.most most.is;
    })

pub keys_sound : (above : TermKeys) → AreTermKeys above → (d : Data) (keys : TermKeys) → kea_keys above d ≡ Some keys → AreTermKeys keys
unfolding kea_keys
keys_sound above sound d keys e =
    let given = came_from (keys_given above d) _ keys e in
    let test = passed_only (go_together given.first) given.first keys given.gives in
    let numbers = given_sound above sound d given.first given.is in
    let outer = both_passed (is_in_bounds (lifetime_of given.first) && timers_rise given.first.renew given.first.rebind) (has_usual_shares given.first.calculated given.first.shares) test.0 in
    let inner = both_passed (is_in_bounds (lifetime_of given.first)) (timers_rise given.first.renew given.first.rebind) outer.0 in
    subst AreTermKeys test.1 (record { usual = numbers.usual; least = numbers.least; most = numbers.most; bounds = inner.0 })

pub term_sound : (above : Above) → AreTermKeys above.keys → IfSome (term_unless_alike above) (λ term. IsLifetime term.lifetime)
term_sound above sound = by (not above.by_class && has_times_alone above.times (term_of above.keys)) where
  by : (b : Bool) → IfSome (if b then None else Some (term_of above.keys)) (λ term. IsLifetime term.lifetime)
  by true = tt
  by false =
      between_sound above.keys.least above.keys.usual above.keys.most sound.least sound.usual sound.most sound.bounds
