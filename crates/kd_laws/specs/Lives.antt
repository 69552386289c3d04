-- A server that is opened, run, stopped and opened again on what a crash left: a life, made of
-- several openings, each with its own configuration and a store of any type. It is a history with
-- stops.
use Rattle.std.specs.Prelude.{◌≡◌, ◌⊎◌, Bool, true, false, List, [], ◌∷◌, ◌++◌, Result, Ok, Err, Option, Some, None}
use Rattle.std.specs.List.{flat_map}
use Rattle.kd_config.specs.Configuration.{Configuration}
use Rattle.kd_config.specs.Sound.{IsSound}
use Rattle.kd_event.specs.declared.event.Event.{Event}
use Rattle.kd_event.specs.declared.event.Handled.{Handled}
use Rattle.kd_event.specs.declared.event.Response.TheVariants as responses
use Rattle.kd_event.specs.declared.ports.Ports.{Ports}
use Rattle.kd_event.specs.declared.reason.Reason.TheVariants as reasons
use Rattle.kd_keeps.specs.declared.keeps.Keeps.{Ghosts}
use Rattle.kd_lease.specs.Plan.{Outcome}
use Rattle.kd_options.specs.Message.{Seen, Reads}
use Rattle.kd_loops.specs.History.{NoMemory, Runs}
use Rattle.kd_loops.specs.declared.fault.ServeFault.{ServeFault}
use Rattle.kd_loops.specs.declared.fault.ServeFault.TheVariants as faults
use Rattle.kd_rows.specs.declared.row.Row.{Row}
use Rattle.kd_server.specs.Batch.{Batched}
use Rattle.kd_server.specs.Server.{IsUnopened, ServerState, Opens, Refuses, Steps}
use Rattle.kd_laws.specs.NoOverlap.{AreOfOne, HistoryTo, LeaseHistory, LeaseStep, now_of}
use Rattle.kd_server.specs.Step.{Responds}

-- a call of a server: of `handle` with one event and its answer, or of `handle_all` with a batch of
-- events, the results of the first of them, and the fault
pub data Call : Type 0 where
  one : Event → Result Handled ServeFault → Call
  batch : List Event → List Handled → Option ServeFault → Call

-- one opening of a server, as seen from outside: its configuration, the rows at which its store
-- stood, the ports, and the calls of the server
pub record Opening : Type 0 where
  pub config : Configuration
  pub rows : List Row
  pub ports : Ports
  pub calls : List Call

module _ {S : Type 0} (g : Ghosts S) where
  -- what the contracts say of a call
  abbrev pub CallAnswers : ServerState S → Call → ServerState S → Type 0
  CallAnswers old (one event (Ok handled)) new = Steps g old event handled new
  CallAnswers old (one event (Err fault)) new = Refuses g old event fault new
  CallAnswers old (batch events list fault) new = Batched g old events list fault new

  -- calls in sequence, each on the server that the previous one left
  abbrev pub Called : ServerState S → List Call → ServerState S → Type 0
  Called old [] new = new ≡ old
  Called old (call ∷ calls) new =
      (mid : ServerState S) × CallAnswers old call mid × Called mid calls new

  -- a server is opened over a store and called, and this store is left
  pub record IsRun (config : Configuration) (ports : Ports) (calls : List Call)
      (store left : S) : Type 0 where
    pub first : ServerState S
    pub last : ServerState S
    pub opens : Opens g ports config store first
    pub called : Called first calls last
    pub left_is : left ≡ last.store

  -- no server is opened over a store, and this store is left
  pub record IsNoRun (config : Configuration) (calls : List Call) (store left : S) : Type 0 where
    pub fault : ServeFault
    pub unopened : IsUnopened g config store fault config left
    pub none : calls ≡ []

  -- one of the two
  abbrev pub IsDone : Configuration → Ports → List Call → S → S → Type 0
  IsDone config ports calls store left =
      IsRun config ports calls store left ⊎ IsNoRun config calls store left

  -- whenever a crash of the store leaves one of two tables, these rows are one of the two
  abbrev pub IsLeft : S → List Row → Type 0
  IsLeft store rows =
      (before after : List Row) → g.leaves store before after → (rows ≡ before) ⊎ (rows ≡ after)

  -- an opening over such a store, and the rows found after it, if any: the store stood at the
  -- opening's rows, its disk has always done what it reported, and the rows found are some that a
  -- crash of the store leaves
  pub record IsOpening (o : Opening) (next : Option (List Row)) : Type 0 where
    pub store : S
    pub left : S
    pub stands : g.stands store o.rows
    pub done : IsDone o.config o.ports o.calls store left
    pub clean : g.has_clean_disk left
    pub found : (rows : List Row) → next ≡ Some rows → IsLeft left rows

-- the calls of a run: the events with their results, and the next event with the fault, if there is
-- one
abbrev pub calls_of : List Event → List Handled → Option ServeFault → List Call
calls_of [] list fault = []
calls_of (event ∷ events) (handled ∷ list) fault =
    one event (Ok handled) ∷ calls_of events list fault
calls_of (event ∷ events) [] None = []
calls_of (event ∷ events) [] (Some fault) = one event (Err fault) ∷ []

-- every run is such a sequence of calls of `handle`, or memory ran out before the first
abbrev pub RunsAreCalls : {S : Type 0} → Ghosts S → Type 0
RunsAreCalls {S} g =
    (events : List Event) (list : List Handled) (fault : Option ServeFault) (old new : ServerState S)
    → Runs (Steps g) (Refuses g) events list fault old new
    → Called g old (calls_of events list fault) new ⊎ NoMemory faults.Memory list old new

-- what is known of an event: its result, or the fault; and whether it shared a commit with others
pub record Report : Type 0 where
  pub event : Event
  pub answer : Result Handled ServeFault
  pub in_batch : Bool

-- what is known of the events of a batch: the results of the first, and the fault of the next,
-- after which nothing was done; but if the commit failed, each event has that fault
abbrev pub reports_of : List Event → List Handled → Option ServeFault → List Report
reports_of [] list fault = []
reports_of (event ∷ events) (handled ∷ list) fault =
    record { event = event; answer = Ok handled; in_batch = true } ∷ reports_of events list fault
reports_of (event ∷ events) [] None = []
reports_of (event ∷ events) [] (Some (faults.Store fault)) =
    record { event = event; answer = Err (faults.Store fault); in_batch = true }
    ∷ reports_of events [] (Some (faults.Store fault))
reports_of (event ∷ events) [] (Some fault) =
    record { event = event; answer = Err fault; in_batch = true } ∷ []

-- what is known of the events of a call
abbrev pub reports_in : Call → List Report
reports_in (one event answer) =
    record { event = event; answer = answer; in_batch = false } ∷ []
reports_in (batch events list fault) = reports_of events list fault

-- what is known of the events of calls
abbrev pub reports : List Call → List Report
reports calls = flat_map reports_in calls

-- nothing happens at an event: the datagram reads as no message and gets no reply, or the fault is
-- not the store's; or it is the store's, for a batch, in which the event need not change anything
abbrev pub IsIdle : Bool → Event → Result Handled ServeFault → Type 0
IsIdle in_batch event (Ok handled) =
    ((m : Seen) → Reads event.bytes m → ⊥)
    × (handled.response ≡ responses.Quiet reasons.Unreadable)
IsIdle in_batch event (Err (faults.Store fault)) = in_batch ≡ true
IsIdle in_batch event (Err fault) = Unit {0}

-- the outcome of a step is what was answered: what was sent, at the time that counts; if the store
-- failed, the step was stopped
abbrev pub IsAnswerOf : Ports → LeaseStep → Result Handled ServeFault → Type 0
IsAnswerOf ports e (Ok handled) =
    (handled.now ≡ now_of e) × ((outcome : Outcome) × (e.outcome ≡ Some outcome)
    × Responds ports e.message outcome handled.response)
IsAnswerOf ports e (Err (faults.Store fault)) = e.outcome ≡ None
IsAnswerOf ports e (Err fault) = ⊥

-- a step is an event: its configuration is the server's, its time is the event's, its message is
-- what the datagram reads as, and its outcome is what was answered
pub record IsStepOf (config : Configuration) (ports : Ports) (report : Report)
    (e : LeaseStep) : Type 0 where
  pub config_is : e.config ≡ config
  pub moment : e.moment ≡ report.event.moment
  pub reads : Reads report.event.bytes e.message
  pub answer : IsAnswerOf ports e report.answer

-- the steps are the events at which something happens, in their order
abbrev pub AreSteps : Configuration → Ports → List Report → List LeaseStep → Type 0
AreSteps config ports [] es = es ≡ []
AreSteps config ports (report ∷ more) [] =
    IsIdle report.in_batch report.event report.answer × AreSteps config ports more []
AreSteps config ports (report ∷ more) (e ∷ es) =
    (IsIdle report.in_batch report.event report.answer × AreSteps config ports more (e ∷ es))
    ⊎ (IsStepOf config ports report e × AreSteps config ports more es)

-- what an opening was, whatever its store: steps from its rows, which are the events of its calls,
-- to the rows found after it, if any. If there were calls, its configuration obeys all limits
pub record WasHistory (o : Opening) (next : Option (List Row)) : Type 0 where
  pub sound : (o.calls ≡ []) ⊎ IsSound o.config
  pub steps : List LeaseStep
  pub last : List Row
  pub history : HistoryTo o.rows steps last
  pub are : AreSteps o.config o.ports (reports o.calls) steps
  pub found : (rows : List Row) → next ≡ Some rows → last ≡ rows

-- an opening over any store that keeps leases is a history to the rows that are found after it
abbrev pub OpeningsAreHistories : {S : Type 0} → Ghosts S → Type 0
OpeningsAreHistories {S} g =
    (o : Opening) (next : Option (List Row)) → IsOpening g o next → WasHistory o next

-- if the disk is clean after an opening it was clean before, and if the store stood at a table, a
-- crash leaves one of two tables
abbrev pub OpeningsEnd : {S : Type 0} → Ghosts S → Type 0
OpeningsEnd {S} g =
    (config : Configuration) (ports : Ports) (calls : List Call) (store left : S)
    → IsDone g config ports calls store left → g.has_clean_disk left
    → g.has_clean_disk store × ((table : List Row) → g.stands store table
    → (before : List Row) × (after : List Row) × g.leaves left before after)

-- openings in sequence, each a history to the rows of the next, with any configurations and over
-- stores of any types
abbrev pub Life : List Opening → Type 0
Life [] = Unit {0}
Life (o ∷ []) = WasHistory o None
Life (o ∷ p ∷ os) = WasHistory o (Some p.rows) × Life (p ∷ os)

-- the same, and the last is a history to these rows; if there are none, a life begins at these rows
abbrev pub LifeTo : List Opening → List Row → Type 0
LifeTo [] rows = Unit {0}
LifeTo (o ∷ []) rows = WasHistory o (Some rows)
LifeTo (o ∷ p ∷ os) rows = WasHistory o (Some p.rows) × LifeTo (p ∷ os) rows

-- the steps are the events of openings at which something happens, in their order
abbrev pub AreStepsOfAll : List Opening → List LeaseStep → Type 0
AreStepsOfAll [] es = es ≡ []
AreStepsOfAll (o ∷ os) es =
    (mine : List LeaseStep) × (later : List LeaseStep) × (es ≡ mine ++ later)
    × AreSteps o.config o.ports (reports o.calls) mine
    × AreStepsOfAll os later

-- the rows at which a life begins; none if there is no opening
abbrev pub first_rows : List Opening → List Row
first_rows [] = []
first_rows (o ∷ os) = o.rows

-- every life is a history with stops, each step of which is an event of a call
abbrev pub LivesAreHistories : Type 0
LivesAreHistories =
    (life : List Opening) → Life life
    → (es : List LeaseStep) × LeaseHistory (first_rows life) es × AreStepsOfAll life es

-- openings with one configuration
abbrev pub AreOpenedWith : Configuration → List Opening → Type 0
AreOpenedWith config [] = Unit {0}
AreOpenedWith config (o ∷ os) = (o.config ≡ config) × AreOpenedWith config os

-- the steps of openings with one configuration are steps of that configuration
abbrev pub LivesKeepConfigurations : Type 0
LivesKeepConfigurations =
    (config : Configuration) (life : List Opening) (es : List LeaseStep)
    → AreOpenedWith config life → AreStepsOfAll life es → AreOfOne config es
