-- The times that leases get: a message gets those of one table alone, and the lifetimes of a
-- configuration bound them.
use Rattle.std.proofs.Common.{◌≡◌, ℕ, ◌≤◌, ◌==◌, Bool, true, false, List, Option, Some, None, refl, sym, ap, subst, ◌∙◌, max, min, if◌then◌else◌, arith}
use Rattle.std.specs.Prelude.{IfSome}
use Rattle.std.specs.List.{AllByRecursion}
use Rattle.std.proofs.lemmas.Option.{same_Some}
use Rattle.kd_classes.specs.Lifetime.{lifetime_granted}
use Rattle.kd_classes.specs.declared.lifetime.Lifetime.{Lifetime}
use Rattle.kd_config.specs.Configuration.{Configuration}
use Rattle.kd_config.specs.Networks.{network_of}
use Rattle.kd_config.specs.declared.subnet.Subnet.{Subnet}
use Rattle.kd_config.specs.declared.times.Times.{Times}
use Rattle.kd_lease.proofs.Served.{at_part, at_serving}
use Rattle.kd_lease.proofs.Lifetimes.{granted_each}
use Rattle.kd_lease.specs.Change.{asked_for}
use Rattle.kd_lease.specs.Choice.{Asking}
use Rattle.kd_lease.specs.Laws.{OneMembership}
use Rattle.kd_lease.specs.Plan.{Outcome}
use Rattle.kd_lease.specs.Plan.Outcome.{planned}
use Rattle.kd_lease.specs.Rules.{granted_times, serving_subnet}
use Rattle.kd_lease.specs.Times.{times_in_subnet, times_under}
use Rattle.kd_lease.specs.declared.plan.PlanKind.TheVariants as kinds
use Rattle.kd_options.specs.Message.{Seen}
use Rattle.kd_rows.specs.declared.row.Row.{Row}
use Rattle.kd_laws.specs.Granted.{AreGranted, IsNoShorter, LeasesLastAlike, NoneIsShorter}
use Rattle.kd_laws.specs.NoOverlap.{Happens, LastsFor, LeasesLast, now_of}

-- the times that are granted are determined
pub granted_once : OneMembership → (config : Configuration) (rows : List Row) (m : Seen) (now a : ℕ) (times others : Times)
    → AreGranted config rows m now a times → AreGranted config rows m now a others → times ≡ others
granted_once one config rows m now a times others g h =
    let names : g.names ≡ h.names = one config rows m now g.names h.names g.held h.held in
    let client : g.client ≡ h.client = same_Some g.client h.client (sym g.by ∙ h.by) in
    g.are
    ∙ ap (λ (n : List (List ℕ)). granted_times (asked_for config rows n m now g.client) a) names
    ∙ ap (λ (c : List ℕ). granted_times (asked_for config rows h.names m now c) a) client
    ∙ sym h.are

-- a lease has times
pub leases_last : LeasesLast
leases_last e client a happens g = by g.ack happens where
  by : {outcome : Option Outcome} → outcome ≡ Some (planned kinds.Ack a g.content) → Happens e outcome → (seconds : ℕ) × LastsFor e a seconds
  by is happens =
      let c : Happens e (Some (planned kinds.Ack a g.content)) = subst (Happens e) is happens in
      let times = granted_times (asked_for e.config e.before c.names e.message (now_of e) client) a in
      (times.lifetime, record { times = times; granted = record { names = c.names; held = c.held; client = client; by = g.by; are = refl }; is = refl })

-- ---- one lifetime

abbrev HasNoTerm : Subnet → Type 0
HasNoTerm s = s.term ≡ None

no_term_of_network : (subnets : List Subnet) → AllByRecursion HasNoTerm subnets → (n : ℕ) → HasNoTerm (network_of subnets n)
unfolding network_of
no_term_of_network subnets each n = refl

alike_in : (q : Asking) (s : Option Subnet) (a : ℕ) → AllByRecursion HasNoTerm q.config.subnets → IfSome s HasNoTerm → times_in_subnet q s a ≡ q.config.times
unfolding times_in_subnet
alike_in q None a each is = refl
alike_in q (Some s) a each is =
    ap (λ term. times_under q.config term q.names q.message) (at_part HasNoTerm no_term_of_network q.config.subnets each s a is)

pub last_alike : LeasesLastAlike
last_alike q a each = alike_in q (serving_subnet q) a each (at_serving HasNoTerm no_term_of_network q each)

-- ---- the least lifetime

no_shorter : (seconds : ℕ) (lifetime : Lifetime) (asked : ℕ) → IsNoShorter seconds lifetime → seconds ≤ lifetime_granted lifetime asked
no_shorter seconds lifetime asked is = by (asked == 0) where
  by : (b : Bool) → seconds ≤ (if b then lifetime.usual else min lifetime.most (max lifetime.least asked))
  by true = is.usual
  by false = omega (arith, is.least, is.most)

pub none_shorter : NoneIsShorter
none_shorter q a least has = granted_each (IsNoShorter least) (λ seconds. least ≤ seconds) (no_shorter least) q a has.whole has.classes has.subnets
