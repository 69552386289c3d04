-- How long the leases last that a message gets, by the rules, and which lifetimes a configuration has
-- (RFC 2131 section 3.3; Kea Administrator Reference Manual, section Lease Lifetimes).
use Rattle.std.specs.Prelude.{◌≡◌, ℕ, ◌≤◌, List, None, Some, IfSome}
use Rattle.std.specs.List.{AllByRecursion}
use Rattle.kd_classes.specs.declared.definition.ClassDef.{ClassDef}
use Rattle.kd_classes.specs.declared.lifetime.Lifetime.{Lifetime}
use Rattle.kd_config.specs.Configuration.{Configuration}
use Rattle.kd_config.specs.declared.subnet.Subnet.{Subnet}
use Rattle.kd_config.specs.declared.times.Times.{Times}
use Rattle.kd_lease.specs.Change.{asked_for}
use Rattle.kd_lease.specs.Choice.{Asking}
use Rattle.kd_lease.specs.Client.{identity_under}
use Rattle.kd_lease.specs.Membership.{InClasses}
use Rattle.kd_lease.specs.Rules.{granted_times}
use Rattle.kd_options.specs.Message.{Seen}
use Rattle.kd_rows.specs.declared.row.Row.{Row}

-- by the rules, these are the times of a lease of an address that a message gets over a table at a
-- given time
pub record AreGranted (config : Configuration) (rows : List Row) (m : Seen) (now a : ℕ)
    (times : Times) : Type 0 where
  pub names : List (List ℕ)
  pub held : InClasses config rows m now names
  pub client : List ℕ
  pub by : identity_under config m ≡ Some client
  pub are : times ≡ granted_times (asked_for config rows names m now client) a

-- a lifetime of which no part is shorter than this
pub record IsNoShorter (seconds : ℕ) (lifetime : Lifetime) : Type 0 where
  pub least : seconds ≤ lifetime.least
  pub usual : seconds ≤ lifetime.usual
  pub most : seconds ≤ lifetime.most

-- a class gives no lifetime that is shorter
abbrev pub ClassIsNoShorter : ℕ → ClassDef → Type 0
ClassIsNoShorter seconds class = IfSome class.lifetime (IsNoShorter seconds)

-- nor does a subnet
abbrev pub SubnetIsNoShorter : ℕ → Subnet → Type 0
SubnetIsNoShorter seconds s = IfSome s.term (λ term. IsNoShorter seconds term.lifetime)

-- no lifetime of a configuration is shorter than this
pub record HasLeast (seconds : ℕ) (config : Configuration) : Type 0 where
  pub whole : seconds ≤ config.times.lifetime
  pub classes : AllByRecursion (ClassIsNoShorter seconds) config.classes
  pub subnets : AllByRecursion (SubnetIsNoShorter seconds) config.subnets

-- a configuration has one lifetime: that of the whole server
abbrev pub HasOneLifetime : Configuration → Type 0
HasOneLifetime config = AllByRecursion (λ s. s.term ≡ None) config.subnets

-- where a configuration has one lifetime, as in our own format, the times of each lease are those of
-- the whole server
abbrev pub LeasesLastAlike : Type 0
LeasesLastAlike =
    (q : Asking) (a : ℕ) → HasOneLifetime q.config → granted_times q a ≡ q.config.times

-- no lease is shorter than the least lifetime of its configuration
abbrev pub NoneIsShorter : Type 0
NoneIsShorter =
    (q : Asking) (a least : ℕ) → HasLeast least q.config → least ≤ (granted_times q a).lifetime
