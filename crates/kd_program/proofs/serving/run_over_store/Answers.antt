use Rattle.std.proofs.Common.{rules, refl, subst, inl, inr}
use Rattle.kd_server.specs.Server.{Opens}
use Rattle.kd_program.specs.Streams.{written_to}
use Rattle.kd_program.proofs.Told.{told_own}
use Rattle.kd_program.proofs.serving.run_over_store.Goals as goal
use Rattle.kd_program.proofs.serving.run_over_store.Goals.{in-Replay, in-Explain, in-Show, in-Serve}

pub returns-in-Err : goal.returns-in-Err
returns-in-Err g c = inr (record {
  fault = c.in-Err.fault;
  same = c.in-Err.field-0-1;
  refused = c.in-Err.ensures.refused;
  stays = refl;
  told = (
    refl,
    told_own _ _ _ (written_to g.E.Sink c.args.ends.now.faults) _ c.number.ensures
        c.refuse-status.ensures,
  );
})

pub returns : goal.returns
returns g c = inl (record {
  server = c.in-Ok.server;
  opened = subst (λ ports. Opens g.S.Keeps ports c.args.config c.args.opened.store c.in-Ok.server) c.ports_of.ensures c.in-Ok.ensures.opened;
  left = c.match-work.server;
  worked = elim c.match-work.branch [
    | in-Replay w ↦ rw (w.host-is, w.ends-is, w.server-is, w.status-is, w.in-Replay.is) (refl, w.replay_input-status.ensures)
    | in-Explain w ↦ rw (w.host-is, w.ends-is, w.server-is, w.status-is, w.in-Explain.is) (search rules)
    | in-Show w ↦ rw (w.host-is, w.ends-is, w.server-is, w.status-is, w.in-Show.is) (search rules)
    | in-Serve w ↦ rw (w.host-is, w.ends-is, w.server-is, w.status-is, w.in-Serve.is) w.serve_link-status.ensures
  ];
  closed = c.close-store.ensures.store;
})
