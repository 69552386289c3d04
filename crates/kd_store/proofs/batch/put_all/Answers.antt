use Rattle.sqlite.specs.Held.{state}
use Rattle.kd_rows.specs.Table.{with_rows}
use Rattle.kd_store.proofs.Batches.{failed_stands, together_leaves, together_stands}
use Rattle.kd_store.proofs.States.{leaves_one}
use Rattle.kd_store.proofs.batch.put_all.Goals as goal

pub returns-in-Ok-clause-put : goal.returns-in-Ok-clause-put
returns-in-Ok-clause-put g c clean table h =
    let new = c.execute_all.new.conn in
    let rows = c.args.rows.now in
    let stands = together_stands g.S.Store rows c.args.conn.now new table h (c.in-Ok.ensures.set clean) in
    record {
      done = stands;
      settled = leaves_one (state g.S.Store new) (with_rows rows table) (g.met.S.Store.settled new.store) stands;
      failed = tt;
      crash = together_leaves g.S.Store rows c.args.conn.now new table h (g.met.S.Store.settled c.args.conn.now.store) clean c.execute_all.ensures.survives;
    }

pub returns-in-Err-clause-put : goal.returns-in-Err-clause-put
returns-in-Err-clause-put g c clean table h =
    let new = c.execute_all.new.conn in
    let rows = c.args.rows.now in
    record {
      done = tt;
      settled = tt;
      failed = failed_stands g.S.Store rows c.args.conn.now new table h c.in-Err.error (c.in-Err.ensures.failed clean);
      crash = together_leaves g.S.Store rows c.args.conn.now new table h (g.met.S.Store.settled c.args.conn.now.store) clean c.execute_all.ensures.survives;
    }
