use Rattle.std.proofs.Common.{◌≡◌, ◌≤◌, length, take, vec_len, vec_capacity}
use Rattle.std.specs.List.{All}
use Rattle.kd_loops.specs.History.{History}
use Rattle.kd_loops.specs.Text.{IsSmall}
use Rattle.kd_rows.specs.Row.{IsInRange}
use Rattle.kd_rows.specs.Table.{with_rows}
use Rattle.kd_server.specs.Server.{StepsTo}
use Rattle.kd_server.proofs.Batches.{Moved}
use Rattle.kd_server.proofs.batching.handle_each.Given as goal

abbrev pub invariant-loop-event : goal.invariant-loop-event
invariant-loop-event l =
    let steps = StepsTo l.fn.leases.config l.ports in
    record {
      config : l.leases.config ≡ l.fn.leases.config;
      count : vec_len l.list ≡ l.event-index;
      room : length l.events ≤ vec_capacity l.list;
      history : History steps l.fn.leases.table.rows (take l.event-index l.events) l.list.items l.leases.table.rows;
      small : All (λ handled. IsSmall handled.response) l.list.items;
      sets : with_rows l.set.items l.fn.leases.table.rows ≡ l.leases.table.rows;
      ranges : All IsInRange l.set.items;
      moved : Moved steps l.events l.fn.leases.table.rows l.leases.table.rows l.set.items;
    }
