use Rattle.std.proofs.Common.{List, suc, sym, subst, take, drop, ◌∙◌, arith}
use Rattle.sqlite.specs.Held.{state}
use Rattle.sqlite.proofs.StateLemmas.{survives_then}
use Rattle.kd_rows.specs.declared.row.Row.{Row}
use Rattle.kd_store.specs.Batch.{SetsEach}
use Rattle.kd_store.proofs.Batches.{each_push, inside_each, one_more, parted}
use Rattle.kd_store.proofs.batch.put_each.Goals as goal

pub returns-in-Err-clause-refused : goal.returns-in-Err-clause-refused
returns-in-Err-clause-refused g c clean inside =
    let first = c.args.tx.now.conn.now in
    let mid = c.loop-row.tx.conn.now in
    let rows = c.args.rows.now in
    let i = c.loop-row.row-index in
    let row = c.row-item.result in
    let set = c.loop-row.invariant.2 (omega (arith, c.execute_inside.ensures.survives.clean, clean)) inside in
    record {
      done = take i rows;
      row = row;
      more = drop (suc i) rows;
      all = parted rows i row (omega (arith, c.loop-row-test.true)) c.row-item.is;
      mid = mid;
      set = set;
      refused = c.in-Err.ensures.runs clean (inside_each g.S.Store (take i rows) first mid inside set);
    }

pub loop-row-preserved : goal.loop-row-preserved
loop-row-preserved g c =
    let first = c.args.tx.now.conn.now in
    let mid = c.loop-row.tx.conn.now in
    let last = c.execute_inside.new.tx.conn.now in
    let rows = c.args.rows.now in
    let i = c.loop-row.row-index in
    let row = c.row-item.result in (
      c.execute_inside.ensures.same_reference ∙ c.loop-row.invariant.0,
      survives_then (state g.S.Store first) (state g.S.Store mid) (state g.S.Store last) _ _ _ (λ _ db none. none) (λ _ db none. none) c.loop-row.invariant.1 c.execute_inside.ensures.survives,
      λ clean inside.
          let set = c.loop-row.invariant.2 (omega (arith, c.execute_inside.ensures.survives.clean, clean)) inside in
          let ran = c.in_default.ensures.runs clean (inside_each g.S.Store (take i rows) first mid inside set) in
          subst (λ (l : List Row). SetsEach g.S.Store l first last) (sym (one_more rows i row (omega (arith, c.loop-row-test.true)) c.row-item.is))
          (each_push g.S.Store (take i rows) row first mid last c.in_default.field-0 set ran),
    )
