use Rattle.std.proofs.Common.{IfErr, refl, rules, subst, sym, ◌∙◌}
use Rattle.kd_config.specs.Configuration.{Configuration}
use Rattle.kd_event.specs.declared.event.Event.{Event}
use Rattle.kd_lease.specs.Change.{after}
use Rattle.kd_server.specs.Server.{ServerState, Refuses}
use Rattle.kd_server.proofs.Stepped.{step_to}
use Rattle.kd_server.proofs.Stopping.{refused_if}
use Rattle.kd_server.proofs.server.Server.handle.Goals as goal

pub returns-in_err-keep-clause-failed : goal.returns-in_err-keep-clause-failed
returns-in_err-keep-clause-failed g c =
    let ports = c.self.inside.ports in
    let config = c.self.inside.leases.config in
    let rows = c.self.inside.leases.table.rows in
    let event : Event = record { moment = c.args.moment; bytes = c.args.bytes.now } in
    let old : ServerState _ = record { ports = ports; config = config; rows = rows; store = c.self.inside.store } in
    let new : Configuration → ServerState _ = λ k. record { ports = ports; config = k; rows = c.keep.new.leases.table.rows; store = c.keep.new.store } in
    subst (λ (k : ServerState _). IfErr c.from_residual-in_err-keep.result (λ fault. Refuses g.S.Keeps k event fault (new c.keep.new.leases.config))) c.self.view_is
    (subst (λ (k : Configuration). IfErr c.from_residual-in_err-keep.result (λ fault. Refuses g.S.Keeps old event fault (new k))) (sym c.keep.ensures.config)
    (refused_if g.S.Keeps old event c.in_ok-row.row c.in_ok-row.handled c.from_residual-in_err-keep.result c.keep.new.leases.table.rows c.keep.new.store
    (sym c.failed.ensures ∙ c.if-failed.false)
    (step_to _ config ports _ rows (after rows c.in_ok-row.row) event c.in_ok-row.handled c.in_ok-row.row c.ground.ensures.config c.ground.ensures.rows refl c.in_ok-row.ensures.steps)
    (search rules)))
