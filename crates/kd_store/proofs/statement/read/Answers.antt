use Rattle.std.proofs.Common.{[], inl, rules, arith}
use Rattle.sqlite.specs.Held.{state}
use Rattle.sqlite.specs.State.{FailsToQuery, HasCleanDisk, Survives, CommitsShowing}
use Rattle.kd_store.specs.Lease.{rows_text}
use Rattle.kd_store.proofs.Streaming.{all_read, rows_survive, rows_survive_all}
use Rattle.kd_store.proofs.statement.read.Goals as goal

pub returns-in-Ok-clause-read : goal.returns-in-Ok-clause-read
returns-in-Ok-clause-read g c clean =
    let mid = c.in-Ok.shown.conn.now in
    let held = c.gather.new.shown.conn.now in
    let late : HasCleanDisk (state g.S.Store held) = search rules in
    let begun = c.in-Ok.ensures.begun (omega (arith, c.gather.ensures.survives.clean, late)) in
    let is = all_read g.S.Store (λ rows. rows.items) c.gather.result c.args.conn.now mid held begun c.in-Ok.ensures.survives (c.gather.ensures.read late) in
    search rules

pub returns-in-Ok-clause-survives : goal.returns-in-Ok-clause-survives
returns-in-Ok-clause-survives g c =
    let old = state g.S.Store c.args.conn.now in
    let held = c.gather.new.shown.conn.now in
    let survives = rows_survive_all old (state g.S.Store c.in-Ok.shown.conn.now) (state g.S.Store held) c.in-Ok.ensures.survives c.gather.ensures.survives in
    search rules

pub returns-in-Err-clause-read : goal.returns-in-Err-clause-read
returns-in-Err-clause-read g c clean =
    let old = state g.S.Store c.args.conn.now in
    let new = state g.S.Store c.query.follows.lender-at-none in
    let held = c.query.follows.holds-at-none in
    let failed : FailsToQuery rows_text [] old new c.in-Err.error = (rw c.in-Err.is at held).err clean in
    inl (c.in-Err.error, c.fault_of_reading.ensures, failed)

pub returns-in-Err-clause-survives : goal.returns-in-Err-clause-survives
returns-in-Err-clause-survives g c =
    let old = state g.S.Store c.args.conn.now in
    let new = state g.S.Store c.query.follows.lender-at-none in
    let held = c.query.follows.holds-at-none in
    let kept : Survives old new (CommitsShowing rows_text [] old) = search rules in
    rows_survive old new kept
