-- Where the lifetime of a lease comes from (RFC 2131 section 3.3; Kea Administrator Reference Manual,
-- section Lease Lifetimes), for the value of option 51 (RFC 2132 section 9.2).
use Rattle.std.specs.Prelude.{◌≡◌, ℕ, ◌+◌, ◌<◌, true, false, List, drop, length, take, Option, None, Some, is_some}
use Rattle.kd_classes.specs.declared.definition.ClassDef.{ClassDef}
use Rattle.kd_classes.specs.declared.lifetime.Lifetime.{Lifetime}
use Rattle.kd_config.specs.Configuration.{Configuration}
use Rattle.kd_config.specs.declared.term.Term.{Term}
use Rattle.kd_lease.specs.Times.{class_lifetime}
use Rattle.kd_explain.specs.declared.origins.Origin.{Origin}
use Rattle.kd_explain.specs.declared.origins.Origin.TheVariants as origins

-- the lifetime that the class at an index gives to a message with these class names
abbrev pub lifetime_of_class : List ClassDef → List (List ℕ) → ℕ → Option Lifetime
lifetime_of_class classes names i = class_lifetime (take 1 (drop i classes)) names

-- the lifetime that an origin gives under the term of a subnet, to a message with these class names;
-- without a term there is none, not even that of a class
abbrev pub lifetime_from : Configuration → Option Term → List (List ℕ) → Origin → Option Lifetime
lifetime_from config None names other = None
lifetime_from config (Some term) names (origins.Class i) = lifetime_of_class config.classes names i
lifetime_from config (Some term) names origins.Subnet = Some term.lifetime
lifetime_from config (Some term) names other = None

-- the position of an origin in the order of precedence, if there are `count` classes
abbrev pub lifetime_place : ℕ → Origin → ℕ
lifetime_place count (origins.Class i) = i
lifetime_place count origins.Subnet = count
lifetime_place count other = 1 + count

-- an origin gives a lifetime under a term, and no origin before it does; or none does
abbrev pub IsLifetimeOrigin : Configuration → Option Term → List (List ℕ) → Option Origin → Type 0
IsLifetimeOrigin config term names None =
    (other : Origin) → is_some (lifetime_from config term names other) ≡ false
IsLifetimeOrigin config term names (Some origin) =
    (is_some (lifetime_from config term names origin) ≡ true)
    × ((other : Origin)
    → lifetime_place (length config.classes) other < lifetime_place (length config.classes) origin
    → is_some (lifetime_from config term names other) ≡ false)
