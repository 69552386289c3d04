-- How long the lease of an address lasts, and when its client renews and rebinds it (RFC 2131 sections
-- 3.3 and 4.4.5; RFC 2132 section 9.2; Kea Administrator Reference Manual, section Lease Lifetimes):
-- by the classes that the client is in, or else by the subnet that has the address.
use Rattle.std.specs.Prelude.{ℕ, List, [], ◌∷◌, filter, Option, Some, None, unwrap_or}
use Rattle.std.specs.Int.{from_be_bytes, w32}
use Rattle.std.specs.Option.{option_or}
use Rattle.kd_classes.specs.Lifetime.{lifetime_granted}
use Rattle.kd_classes.specs.declared.definition.ClassDef.{ClassDef}
use Rattle.kd_classes.specs.declared.lifetime.Lifetime.{Lifetime}
use Rattle.kd_config.specs.Configuration.{Configuration}
use Rattle.kd_config.specs.Networks.{part_holding}
use Rattle.kd_config.specs.Term.{times_of_term}
use Rattle.kd_config.specs.declared.subnet.Subnet.{Subnet}
use Rattle.kd_config.specs.declared.term.Term.{Term}
use Rattle.kd_config.specs.declared.times.Times.{Times}
use Rattle.kd_machine.specs.Parts.{is_held}
use Rattle.kd_options.specs.Joined.{value_of}
use Rattle.kd_options.specs.Message.{Seen}
use Rattle.kd_lease.specs.Choice.{Asking}

-- the seconds in a value of four bytes, or 0
abbrev pub seconds_in : Option (List ℕ) → ℕ
seconds_in (Some (a ∷ b ∷ c ∷ d ∷ [])) = from_be_bytes w32 (a ∷ b ∷ c ∷ d ∷ [])
seconds_in other = 0

-- how long a lease the client asks for, option 51, in seconds; 0 if it asks for none
abbrev pub asked_seconds : Seen → ℕ
asked_seconds m = seconds_in (value_of 51 m.options)

-- the lifetime of the first of these classes that has one
abbrev pub first_lifetime : List ClassDef → Option Lifetime
first_lifetime [] = None
first_lifetime (class ∷ classes) = option_or class.lifetime (first_lifetime classes)

-- the lifetime that the classes give whose names are held, in order
abbrev pub class_lifetime : List ClassDef → List (List ℕ) → Option Lifetime
class_lifetime classes names = first_lifetime (filter (λ class. is_held class.name names) classes)

-- how long a lease under a term lasts: by the classes, or else by the term
abbrev pub seconds_under : Configuration → Term → List (List ℕ) → Seen → ℕ
seconds_under config term names m =
    lifetime_granted (unwrap_or (class_lifetime config.classes names) term.lifetime)
    (asked_seconds m)

-- the times of a lease under a term; without one they are those of the whole server
abbrev pub times_under : Configuration → Option Term → List (List ℕ) → Seen → Times
times_under config None names m = config.times
times_under config (Some term) names m =
    times_of_term term config.times (seconds_under config term names m)

-- the times of a lease of an address of a subnet, if there is a subnet: those of the part of its shared
-- network that has the address
unfoldable pub times_in_subnet : Asking → Option Subnet → ℕ → Times
times_in_subnet q None a = q.config.times
times_in_subnet q (Some s) a =
    times_under q.config (part_holding q.config.subnets s a).term q.names q.message
