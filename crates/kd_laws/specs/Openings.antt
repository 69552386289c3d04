-- What a command does with a server over a store: one opening of it, whose calls are those of the
-- datagrams that came, or of the lines that were read.
use Rattle.std.specs.Prelude.{◌≡◌, ◌⊎◌, ℕ, List, [], Option, Ok, option_map, string_bytes}
use Rattle.kd_config.specs.Configuration.{Configuration}
use Rattle.kd_keeps.specs.declared.keeps.Keeps.{Ghosts}
use Rattle.kd_laws.specs.Calls.{IsReplayOf, IsTrafficOf}
use Rattle.kd_laws.specs.Lives.{Call, IsDone}
use Rattle.kd_program.specs.Running.{GivesJournal, HasNoJournal, HasNoLine, HasNoSocket, IsNotServed, ServesWork, ports_asked}
use Rattle.kd_program.specs.Streams.{At, With}
use Rattle.kd_program.specs.declared.host.Host.{Ghosts as Hosts}
use Rattle.kd_commands.specs.declared.orders.Service.{Service}
use Rattle.kd_commands.specs.declared.orders.Work.{Work}
use Rattle.kd_commands.specs.declared.orders.Work.TheVariants as works
use Rattle.kd_loops.specs.Serving.{contents_in}
use Rattle.kd_loops.specs.declared.ends.Sink.{Ghosts as Sinks}
use Rattle.kd_loops.specs.declared.link.Link.{Ghosts as Links}

-- over a host, its sockets and its records
module _ {H N U L R : Type 0} (h : Hosts H N U L R) (l : Links L) (r : Sinks R) where
  -- the calls of a service are those of the traffic of a socket that the host gave, of its record
  -- and of standard output
  pub record AreCallsOfService (service : Service) (calls : List Call)
      (before after : At H) : Type 0 where
    pub link : L
    pub bound : H
    pub given : h.binds before.host service.listening (Ok link) bound
    pub journal : Option R
    pub records : GivesJournal h r bound (option_map string_bytes service.journal) (Ok journal)
        after.host
    pub rest : L
    pub recorded : Option R
    pub traffic : IsTrafficOf calls
        (record {
          trace = l.trace link;
          recorded = contents_in r journal;
          written = before.streams.output.bytes;
        })
        (record {
          trace = l.trace rest;
          recorded = contents_in r recorded;
          written = after.streams.output.bytes;
        })

-- over a store of leases too
module _ {H N U L R S : Type 0} (h : Hosts H N U L R) (l : Links L) (r : Sinks R)
    (g : Ghosts S) where
  -- a service did not begin: the host gave no socket or no record, or memory ran out for the line
  -- that reports what is served
  abbrev pub HasNotBegun : Service → At H → At H → ℕ → Type 0
  HasNotBegun service before after status =
      HasNoSocket h l r g service.listening before after status
      ⊎ (HasNoJournal h l r g service before after status
      ⊎ HasNoLine h l r g service before after status)

  -- the calls of work with a server: a replay makes those of its lines, a service those of its
  -- traffic, and other work makes none
  abbrev pub AreCallsOfWork : Work → List Call → At H → At H → ℕ → Type 0
  AreCallsOfWork works.Replay calls before after status =
      IsReplayOf calls before.streams.input.bytes before.streams.output.bytes
      after.streams.output.bytes
  AreCallsOfWork (works.Explain number) calls before after status = calls ≡ []
  AreCallsOfWork (works.Show view at live) calls before after status = calls ≡ []
  AreCallsOfWork (works.Serve service) calls before after status =
      AreCallsOfService h l r service calls before after
      ⊎ ((calls ≡ []) × HasNotBegun service before after status)

  -- the calls of a command: those of its work; none if no server could be opened
  abbrev pub AreCallsOf : Work → Configuration → With S H → With S H → ℕ → List Call → Type 0
  AreCallsOf work config before after status calls =
      AreCallsOfWork work calls before.at after.at status
      ⊎ ((calls ≡ []) × IsNotServed h l r g config before after status)

  -- whatever a command's work is, what it does with a server over a store is an opening of that
  -- store: these calls of the server, and the store as they left it
  abbrev pub CommandsAreOpenings : Type 0
  CommandsAreOpenings =
      (path : Option (List ℕ)) (work : Work) (config : Configuration)
      (before after : With S H) (status : ℕ)
      → ServesWork h l r g path work config before after status
      → (calls : List Call) × IsDone g config (ports_asked work) calls before.held after.held
      × AreCallsOf work config before after status calls
