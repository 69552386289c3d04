-- A command's work with a server is calls, those of its lines or of its traffic.
use Rattle.std.proofs.Common.{inl, inr, ⊎_elim, ℕ, List, [], Option, refl, subst}
use Rattle.kd_config.specs.Configuration.{Configuration}
use Rattle.kd_keeps.specs.declared.keeps.Keeps.{Ghosts}
use Rattle.kd_laws.specs.Calls.{ReplayingIsCalls, ServingIsCalls}
use Rattle.kd_laws.specs.Lives.{Call, Called}
use Rattle.kd_laws.specs.Openings.{AreCallsOfWork, CommandsAreOpenings}
use Rattle.kd_program.specs.Running.{BeginsServing, Works}
use Rattle.kd_program.specs.Streams.{With}
use Rattle.kd_program.specs.declared.host.Host.{Ghosts as Hosts}
use Rattle.kd_commands.specs.declared.orders.Service.{Service}
use Rattle.kd_commands.specs.declared.orders.Work.{Work}
use Rattle.kd_commands.specs.declared.orders.Work.TheVariants as works
use Rattle.kd_loops.specs.declared.ends.Sink.{Ghosts as Sinks}
use Rattle.kd_loops.specs.declared.link.Link.{Ghosts as Links}
use Rattle.kd_server.specs.Server.{IsUnopened, ServerState}

module _ {H N U L R S : Type 0} (h : Hosts H N U L R) (l : Links L) (r : Sinks R) (g : Ghosts S) (replaying : ReplayingIsCalls g) (serving : ServingIsCalls g) where
  -- the calls of work, on the server that it is done with
  abbrev Makes : Work → With (ServerState S) H → With (ServerState S) H → ℕ → Type 0
  Makes work before after status = (calls : List Call) × Called g before.held calls after.held × AreCallsOfWork h l r g work calls before.at after.at status

  begun : (path : Option (List ℕ)) (service : Service) (before after : With (ServerState S) H) (status : ℕ) → BeginsServing h l r g path service before after status → Makes (works.Serve service) before after status
  begun path service before after status b =
      let calls = serving service.max_ahead b.receives.result service.count before.held after.held _ _ b.receives.served in (
        calls.0,
        calls.1,
        inl (record { link = b.link; bound = b.bound; given = b.given; journal = b.journal; records = b.records; rest = b.rest; recorded = b.recorded; traffic = calls.2 }),
      )

  made : (path : Option (List ℕ)) (work : Work) (before after : With (ServerState S) H) (status : ℕ) → Works h l r g path work before after status → Makes work before after status
  made path works.Replay before after status w =
      replaying after.at.streams.input.failed w.1.result before.held after.held before.at.streams.input.bytes after.at.streams.input.bytes before.at.streams.output.bytes after.at.streams.output.bytes w.1.replayed
  made path (works.Explain number) before after status w = ([], w.1.0, refl)
  made path (works.Show view at live) before after status w = ([], w.1.0, refl)
  made path (works.Serve service) before after status w = ⊎_elim (begun path service before after status) (λ n. ([], n.0, inr (refl, n.1))) w

  pub openings : CommandsAreOpenings h l r g
  openings path work config before after status (inl s) =
      let calls = made path work _ _ status s.worked in (
        calls.0,
        inl (record { first = s.server; last = s.left; opens = s.opened; called = calls.1; left_is = s.closed }),
        inl calls.2,
      )
  openings path work config before after status (inr n) = (
    [],
    inr (record { fault = n.fault; unopened = subst (λ (c : Configuration). IsUnopened g config before.held n.fault c after.held) n.refused.config_is n.refused; none = refl }),
    inr (refl, n),
  )
