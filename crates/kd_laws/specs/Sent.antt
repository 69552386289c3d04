-- No address is for two clients at once, in the words of what comes and of what is sent (RFC 2131
-- sections 1.6 and 4.3.1): an ACK of an address to one client is followed by no OFFER or ACK of it to
-- another before the end that the first was told, over all runs of a server, one after another.
use Rattle.std.specs.Prelude.{◌≡◌, ◌≢◌, ◌⊎◌, ℕ, ◌+◌, ◌^◌, ◌<◌, ◌≤◌, List, [], ◌∷◌, ◌++◌, Ok, Some}
use Rattle.std.specs.List.{flat_map}
use Rattle.byteorder.specs.Endian.{big_bytes}
use Rattle.kd_config.specs.Configuration.{Configuration}
use Rattle.kd_event.specs.declared.destination.Destination.{Destination}
use Rattle.kd_event.specs.declared.event.Response.TheVariants as responses
use Rattle.kd_event.specs.declared.ports.Ports.{Ports}
use Rattle.kd_laws.specs.Lives.{AreStepsOfAll, IsStepOf, Life, Opening, Report, first_rows, reports}
use Rattle.kd_laws.specs.NoOverlap.{GivesUp, LeaseHistory, LeaseStep, Renews, now_of}
use Rattle.kd_lease.specs.Client.{identity_under, kind_of}
use Rattle.kd_options.specs.Joined.{value_of}
use Rattle.kd_options.specs.Kind.{type_number}
use Rattle.kd_options.specs.Message.{AreBytes, Reads, Seen}
use Rattle.kd_options.specs.declared.kind.MessageType.{MessageType}
use Rattle.kd_options.specs.declared.kind.MessageType.TheVariants as types

-- bytes give an address to a client for some seconds: they read as a message of this type, with the
-- address in `yiaddr` and the seconds in option 51, for a client with this identity in the
-- configuration, by option 61, which a reply returns (RFC 6842), or by its hardware
pub record Gives (config : Configuration) (type : MessageType) (bytes client : List ℕ)
    (a seconds : ℕ) : Type 0 where
  pub message : Seen
  pub reads : Reads bytes message
  pub type_is : kind_of message ≡ type_number type
  pub address : message.header.yiaddr ≡ a
  pub for_client : identity_under config message ≡ Some client
  pub time : value_of 51 message.options ≡ Some (big_bytes 4 seconds)
  pub range : seconds < 2 ^ 32

-- what is known of an event, and the configuration of the opening in which it came
pub record Exchange : Type 0 where
  pub config : Configuration
  pub report : Report

-- a datagram was answered, at a time that the log has, with a reply that gives an address to a client
pub record IsAnsweredBy (type : MessageType) (x : Exchange) (client : List ℕ)
    (a seconds now : ℕ) : Type 0 where
  pub datagram : AreBytes x.report.event.bytes
  pub destination : Destination
  pub reply : List ℕ
  pub answer : x.report.answer
      ≡ Ok (record { now = now; response = responses.Reply destination reply })
  pub gives : Gives x.config type reply client a seconds

-- the events of an opening with this configuration
abbrev pub exchanges_under : Configuration → List Report → List Exchange
exchanges_under config [] = []
exchanges_under config (report ∷ more) =
    record { config = config; report = report } ∷ exchanges_under config more

-- the events of openings, with what is known of each, in their order
abbrev pub exchanges_of_all : List Opening → List Exchange
exchanges_of_all life = flat_map (λ o. exchanges_under o.config (reports o.calls)) life

-- an address is leased to a client, by an ACK to a datagram, and a later datagram gets an OFFER or an
-- ACK of it for another client; these are the events between the two
pub record GivesTwice (life : List Opening) (client : List ℕ) (a seconds now later : ℕ)
    (between : List Exchange) : Type 0 where
  pub before : List Exchange
  pub first : Exchange
  pub second : Exchange
  pub after : List Exchange
  pub order : exchanges_of_all life ≡ before ++ first ∷ (between ++ second ∷ after)
  pub leases : IsAnsweredBy types.Ack first client a seconds now
  pub type : MessageType
  pub offers : (type ≡ types.Offer) ⊎ (type ≡ types.Ack)
  pub other : List ℕ
  pub time : ℕ
  pub gives : IsAnsweredBy type second other a time later
  pub apart : other ≢ client

-- one of these events is such an event
pub record IsAmong (IsSuch : Exchange → Type 0) (list : List Exchange) : Type 0 where
  pub front : List Exchange
  pub exchange : Exchange
  pub back : List Exchange
  pub all : list ≡ front ++ exchange ∷ back
  pub is : IsSuch exchange

-- an event is one of these steps, by its configuration and some ports
pub record IsSomeStep (steps : List LeaseStep) (x : Exchange) (e : LeaseStep) : Type 0 where
  pub ports : Ports
  pub is : IsStepOf x.config ports x.report e
  pub front : List LeaseStep
  pub back : List LeaseStep
  pub there : steps ≡ front ++ e ∷ back

-- the client gave up the address: its RELEASE or DECLINE changed the row of the address
pub record IsGivenUp (steps : List LeaseStep) (client : List ℕ) (a : ℕ)
    (x : Exchange) : Type 0 where
  pub step : LeaseStep
  pub is : IsSomeStep steps x step
  pub gives_up : GivesUp step client a

-- the client asked for the address again and got it for fewer seconds, and that lease has ended by
-- this time
pub record IsShortened (steps : List LeaseStep) (client : List ℕ) (a seconds moment : ℕ)
    (x : Exchange) : Type 0 where
  pub step : LeaseStep
  pub is : IsSomeStep steps x step
  pub fewer : ℕ
  pub renews : Renews step client a fewer
  pub shorter : fewer < seconds
  pub past : now_of step + fewer ≤ moment

-- no two replies of openings overlap, by these steps: if an ACK leased an address to a client for
-- some seconds, and a later OFFER or ACK gives it to another, then these seconds have passed, in the
-- server's time; or in between the client gave the address up, or asked for it again and got it for
-- fewer seconds, which have passed
abbrev pub NeverOverlapBy : List Opening → List LeaseStep → Type 0
NeverOverlapBy life steps =
    (client : List ℕ) (a seconds now later : ℕ) (between : List Exchange)
    → GivesTwice life client a seconds now later between
    → (now + seconds ≤ later)
    ⊎ (IsAmong (IsGivenUp steps client a) between
    ⊎ IsAmong (IsShortened steps client a seconds later) between)

-- no two replies of openings overlap, by the steps of their history: each is an event of an opening,
-- under its configuration and from the rows that the one before it left
abbrev pub NeverOverlap : List Opening → Type 0
NeverOverlap life =
    (steps : List LeaseStep) × LeaseHistory (first_rows life) steps × AreStepsOfAll life steps
    × NeverOverlapBy life steps

-- whatever came in the openings of a life, no two of its replies overlap
abbrev pub NoReplyOverlaps : Type 0
NoReplyOverlaps = (life : List Opening) → Life life → NeverOverlap life
