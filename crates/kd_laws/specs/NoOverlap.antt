-- While an address is leased to a client, it is given to no other (RFC 2131 section 1.6), over
-- histories in which the configuration may change and a step may be stopped.
use Rattle.std.specs.Prelude.{◌≡◌, ◌≢◌, ℕ, ◌+◌, ◌<◌, ◌≤◌, max, ◌⊎◌, List, [], ◌∷◌, Option, Some, None}
use Rattle.std.specs.List.{slice_get}
use Rattle.kd_config.specs.Configuration.{Configuration}
use Rattle.kd_config.specs.declared.times.Times.{Times}
use Rattle.kd_lease.specs.Change.{Changes}
use Rattle.kd_lease.specs.Client.{identity_under, kind_of}
use Rattle.kd_lease.specs.Plan.{Content, Outcome}
use Rattle.kd_lease.specs.Plan.Outcome.{planned}
use Rattle.kd_lease.specs.declared.plan.PlanKind.TheVariants as kinds
use Rattle.kd_options.specs.Kind.{type_number}
use Rattle.kd_options.specs.Message.{Seen}
use Rattle.kd_options.specs.declared.kind.MessageType.TheVariants as types
use Rattle.kd_laws.specs.Granted.{AreGranted, HasLeast, HasOneLifetime}
use Rattle.kd_rows.specs.Table.{latest_of, row_at}
use Rattle.kd_rows.specs.declared.row.Row.{Row}
use Rattle.kd_rows.specs.declared.row.State.TheVariants as states

-- one step of a history: the configuration in force, a message at a time, the rows before and after
-- it, and its outcome, or none if the step was stopped
pub record LeaseStep : Type 0 where
  pub config : Configuration
  pub moment : ℕ
  pub message : Seen
  pub before : List Row
  pub after : List Row
  pub outcome : Option Outcome

-- the time that counts for a step: its own, or that of the latest change of a row if that is later
abbrev pub now_of : LeaseStep → ℕ
now_of e = max e.moment (latest_of e.before)

-- by the rules, a lease of an address that a step gives lasts for this many seconds
pub record LastsFor (e : LeaseStep) (a seconds : ℕ) : Type 0 where
  pub times : Times
  pub granted : AreGranted e.config e.before e.message (now_of e) a times
  pub is : seconds ≡ times.lifetime

-- by the rules, the message changes the rows in this way and has this outcome
abbrev pub ChangesTo : LeaseStep → Outcome → Type 0
ChangesTo e outcome = Changes e.config e.before e.message (now_of e) e.after outcome

-- what may happen in a step: the change by the rules, with the message's outcome; if the step was
-- stopped there is no reply, and the rows are those before it or those after the change
abbrev pub Happens : LeaseStep → Option Outcome → Type 0
Happens e (Some outcome) = ChangesTo e outcome
Happens e None = (e.after ≡ e.before) ⊎ ((outcome : Outcome) × ChangesTo e outcome)

-- steps that start from these rows, each from the rows that the previous one left
abbrev pub LeaseHistory : List Row → List LeaseStep → Type 0
LeaseHistory rows [] = Unit {0}
LeaseHistory rows (e ∷ es) =
    (e.before ≡ rows) × Happens e e.outcome × LeaseHistory e.after es

-- such steps, which end with these rows
abbrev pub HistoryTo : List Row → List LeaseStep → List Row → Type 0
HistoryTo rows [] last = last ≡ rows
HistoryTo rows (e ∷ es) last =
    (e.before ≡ rows) × Happens e e.outcome × HistoryTo e.after es last

-- a step leases an address to a client: the ACK of a REQUEST
pub record GivesLease (e : LeaseStep) (client : List ℕ) (a : ℕ) : Type 0 where
  pub by : identity_under e.config e.message ≡ Some client
  pub request : kind_of e.message ≡ type_number types.Request
  pub content : Content
  pub ack : e.outcome ≡ Some (planned kinds.Ack a content)

-- a step offers an address to a client
pub record GivesOffer (e : LeaseStep) (client : List ℕ) (a : ℕ) : Type 0 where
  pub by : identity_under e.config e.message ≡ Some client
  pub content : Content
  pub offer : e.outcome ≡ Some (planned kinds.Offer a content)

-- a step gives an address to a client: it offers or leases it
abbrev pub GivesTo : LeaseStep → List ℕ → ℕ → Type 0
GivesTo e client a = GivesOffer e client a ⊎ GivesLease e client a

-- the client gives up an address in a step: its RELEASE or DECLINE changed the row of the address
pub record GivesUp (e : LeaseStep) (client : List ℕ) (a : ℕ) : Type 0 where
  pub by : identity_under e.config e.message ≡ Some client
  pub kind : (kind_of e.message ≡ type_number types.Release)
      ⊎ (kind_of e.message ≡ type_number types.Decline)
  pub changed : row_at e.after a ≢ row_at e.before a

-- between two positions of a history there is a step in which the client gives up the address
pub record GivesUpBetween (es : List LeaseStep) (i j : ℕ) (client : List ℕ) (a : ℕ) : Type 0 where
  pub place : ℕ
  pub after : i < place
  pub before : place < j
  pub step : LeaseStep
  pub there : slice_get es place ≡ Some step
  pub gives_up : GivesUp step client a

-- in this step the client requests an address that it leases, and the row of the address is then
-- that of a new lease for some seconds, whether the step was stopped or not
pub record Renews (e : LeaseStep) (client : List ℕ) (a seconds : ℕ) : Type 0 where
  pub by : identity_under e.config e.message ≡ Some client
  pub lasts : LastsFor e a seconds
  pub request : kind_of e.message ≡ type_number types.Request
  pub row : row_at e.after a ≡ Some (record {
    address = a;
    client = client;
    state = states.Bound;
    changed = now_of e;
    ends = now_of e + seconds;
  })

-- between two positions of a history the client of a lease for some seconds renews it for fewer, and
-- the new lease has ended by this time
pub record ShortenedBetween (es : List LeaseStep) (i j : ℕ) (e : LeaseStep) (client : List ℕ)
    (a seconds moment : ℕ) : Type 0 where
  pub place : ℕ
  pub after : i < place
  pub before : place < j
  pub step : LeaseStep
  pub there : slice_get es place ≡ Some step
  pub fewer : ℕ
  pub renews : Renews step client a fewer
  pub later : now_of e ≤ now_of step
  pub shorter : fewer < seconds
  pub past : now_of step + fewer ≤ moment

-- a step leases an address to a client, and a later step gives it to another client
pub record Regives (es : List LeaseStep) (i j : ℕ) (e f : LeaseStep) (client : List ℕ)
    (a : ℕ) : Type 0 where
  pub before : i < j
  pub first : slice_get es i ≡ Some e
  pub second : slice_get es j ≡ Some f
  pub leases : GivesLease e client a
  pub other : List ℕ
  pub gives : GivesTo f other a
  pub apart : other ≢ client

-- a lease lasts for some seconds
abbrev pub LeasesLast : Type 0
LeasesLast =
    (e : LeaseStep) (client : List ℕ) (a : ℕ) → Happens e e.outcome → GivesLease e client a
    → (seconds : ℕ) × LastsFor e a seconds

-- whatever the first table, and whatever the configurations of the steps: if a step leased an
-- address to a client for some seconds, and a later step gives it to another, then these seconds have
-- passed; or between the two the client gave the address up, or renewed its lease for fewer seconds,
-- and that lease has ended
abbrev pub NoOverlapAcross : Type 0
NoOverlapAcross =
    (rows : List Row) (es : List LeaseStep) → LeaseHistory rows es
    → (i j : ℕ) (e f : LeaseStep) (client : List ℕ) (a seconds : ℕ) → LastsFor e a seconds
    → Regives es i j e f client a
    → (now_of e + seconds ≤ now_of f)
    ⊎ (GivesUpBetween es i j client a ⊎ ShortenedBetween es i j e client a seconds (now_of f))

-- if the client never renews it for fewer seconds, they have passed or the address was given up
abbrev pub NoOverlapWhereNoneIsShorter : Type 0
NoOverlapWhereNoneIsShorter =
    (rows : List Row) (es : List LeaseStep) → LeaseHistory rows es
    → (i j : ℕ) (e f : LeaseStep) (client : List ℕ) (a seconds : ℕ) → LastsFor e a seconds
    → ((k : ℕ) (g : LeaseStep) (others : ℕ) → i < k → k < j → slice_get es k ≡ Some g
    → Renews g client a others → seconds ≤ others)
    → Regives es i j e f client a
    → (now_of e + seconds ≤ now_of f) ⊎ GivesUpBetween es i j client a

-- in any case the shortest lifetime that a configuration has has passed, or the address was given up
abbrev pub NoOverlapForShortest : Type 0
NoOverlapForShortest =
    (rows : List Row) (es : List LeaseStep) → LeaseHistory rows es
    → (i j : ℕ) (e f : LeaseStep) (client : List ℕ) (a shortest : ℕ)
    → ((k : ℕ) (g : LeaseStep) → i ≤ k → k < j → slice_get es k ≡ Some g
    → HasLeast shortest g.config)
    → Regives es i j e f client a
    → (now_of e + shortest ≤ now_of f) ⊎ GivesUpBetween es i j client a

-- steps of one configuration
abbrev pub AreOfOne : Configuration → List LeaseStep → Type 0
AreOfOne config es = (k : ℕ) (g : LeaseStep) → slice_get es k ≡ Some g → g.config ≡ config

-- with one configuration that has one lifetime, this has passed, or the address was given up
abbrev pub NoOverlap : Type 0
NoOverlap =
    (config : Configuration) (rows : List Row) (es : List LeaseStep) → LeaseHistory rows es
    → AreOfOne config es → HasOneLifetime config
    → (i j : ℕ) (e f : LeaseStep) (client : List ℕ) (a : ℕ) → Regives es i j e f client a
    → (now_of e + config.times.lifetime ≤ now_of f) ⊎ GivesUpBetween es i j client a
