use Rattle.sqlite.specs.Held.{state}
use Rattle.kd_rows.specs.Table.{with_row}
use Rattle.kd_store.proofs.States.{put_stands, put_leaves, after_error, leaves_one, stands_rests}
use Rattle.kd_store.specs.Lease.{put_text, columns_of}
use Rattle.kd_store.proofs.statement.put.Goals as goal

pub returns-in-Ok-clause-put : goal.returns-in-Ok-clause-put
returns-in-Ok-clause-put g c clean table h =
    let old = state g.S.Store c.args.conn.now in
    let new = state g.S.Store c.execute_put.new.conn in
    let row = c.args.row.now in
    let stands = put_stands old new row c.in-Ok.field-0 table h (c.in-Ok.ensures.runs clean) in
    record {
      done = stands;
      settled = leaves_one new (with_row row table) (g.met.S.Store.settled c.execute_put.new.conn.store) stands;
      failed = tt;
      crash = put_leaves old new row table (g.met.S.Store.settled c.args.conn.now.store) clean h c.execute_put.ensures.survives;
    }

pub returns-in-Err-clause-put : goal.returns-in-Err-clause-put
returns-in-Err-clause-put g c clean table h =
    let old = state g.S.Store c.args.conn.now in
    let new = state g.S.Store c.execute_put.new.conn in
    let row = c.args.row.now in
    record {
      done = tt;
      settled = tt;
      failed = stands_rests old new table h (after_error old new put_text (columns_of row) c.in-Err.error (c.in-Err.ensures.runs clean));
      crash = put_leaves old new row table (g.met.S.Store.settled c.args.conn.now.store) clean h c.execute_put.ensures.survives;
    }
