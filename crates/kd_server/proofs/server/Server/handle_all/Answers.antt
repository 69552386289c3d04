use Rattle.std.proofs.Common.{Some, subst, sym, ◌∙◌}
use Rattle.kd_loops.specs.declared.fault.ServeFault.TheVariants as faults
use Rattle.kd_server.specs.Batch.{IsCommitted}
use Rattle.kd_server.specs.Server.{ServerState}
use Rattle.kd_server.proofs.Batches.{not_begun_is}
use Rattle.kd_server.proofs.server.Server.handle_all.Goals as goal

pub returns-in_default-clause-batch : goal.returns-in_default-clause-batch
returns-in_default-clause-batch g c =
    let old : ServerState _ = record { ports = c.self.inside.ports; config = c.self.inside.leases.config; rows = c.self.inside.leases.table.rows; store = c.self.inside.store } in
    subst (λ (k : ServerState _). IsCommitted g.S.Keeps k c.args.events.now c.new-in_default.result.items (Some faults.Memory) k) c.self.view_is
    (not_begun_is g.S.Keeps old c.args.events.now c.new-in_default.result.items (sym c.failed.ensures ∙ c.if-failed.false) c.new-in_default.ensures.items)
