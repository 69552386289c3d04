use Rattle.std.proofs.Common.{inl, inr, rules, arith}
use Rattle.sqlite.specs.Held.{state}
use Rattle.sqlite.specs.State.{HasCleanDisk, Survives}
use Rattle.kd_store.specs.Batch.{FailsTogether}
use Rattle.kd_store.specs.Staging.{CommitsTogether, SetsTogether}
use Rattle.kd_store.proofs.Batches.{given_back, set_within, stop_within, survives_together}
use Rattle.kd_store.proofs.batch.execute_all.Goals as goal

pub returns-in-Err-clause-failed : goal.returns-in-Err-clause-failed
returns-in-Err-clause-failed g c clean =
    let old = c.args.conn.now in
    let mid = c.put_each.new.tx.conn.now in
    let new = c.drop-tx.new.self.0 in
    let rows = c.args.rows.now in
    let error = c.in-Err.error in
    let late : HasCleanDisk (state g.S.Store new) = search rules in
    let stop = stop_within g.S.Store rows old c.transaction-tx.result.conn.now mid c.transaction-tx.ensures.begun error (c.in-Err.ensures.refused (omega (arith, c.drop-tx.ensures.survives.clean, late))) in
    let failed : FailsTogether g.S.Store rows old new error = inr (mid, inl (stop, c.drop-tx.ensures.undone late)) in
    given_back (λ h. FailsTogether g.S.Store rows old h error) new _ failed (search rules)

pub returns-in-Ok-clause-set : goal.returns-in-Ok-clause-set
returns-in-Ok-clause-set g c clean =
    let old = c.args.conn.now in
    let mid = c.put_each.new.tx.conn.now in
    let new = c.commit.new.self.0 in
    let rows = c.args.rows.now in
    let late : HasCleanDisk (state g.S.Store new) = search rules in
    let set = set_within g.S.Store rows old c.transaction-tx.result.conn.now mid c.transaction-tx.ensures.begun (c.in_default.ensures.set (omega (arith, c.commit.ensures.survives.clean, late))) in
    let ended = c.in-Ok.ensures.ok late in
    let done : SetsTogether g.S.Store rows old new = record { mid = mid; set = set; committed = (ended.1, ended.2, ended.3) } in
    given_back (SetsTogether g.S.Store rows old) new _ done (search rules)

pub returns-in-Ok-clause-survives : goal.returns-in-Ok-clause-survives
returns-in-Ok-clause-survives g c =
    let old = c.args.conn.now in
    let mid = c.put_each.new.tx.conn.now in
    let new = state g.S.Store c.commit.new.self.0 in
    let rows = c.args.rows.now in
    let survives : Survives (state g.S.Store old) new (CommitsTogether g.S.Store rows old) =
    survives_together g.S.Store rows old c.transaction-tx.result.conn.now mid c.transaction-tx.ensures.begun new c.in_default.ensures.set c.put_each.ensures.survives c.commit.ensures.survives in
    search rules

pub returns-in-Err-commit-clause-failed : goal.returns-in-Err-commit-clause-failed
returns-in-Err-commit-clause-failed g c clean =
    let old = c.args.conn.now in
    let mid = c.put_each.new.tx.conn.now in
    let new = c.commit.new.self.0 in
    let rows = c.args.rows.now in
    let error = c.in-Err-commit.error in
    let late : HasCleanDisk (state g.S.Store new) = search rules in
    let set = set_within g.S.Store rows old c.transaction-tx.result.conn.now mid c.transaction-tx.ensures.begun (c.in_default.ensures.set (omega (arith, c.commit.ensures.survives.clean, late))) in
    let failed : FailsTogether g.S.Store rows old new error = inr (mid, inr (set, c.in-Err-commit.ensures.err late)) in
    given_back (λ h. FailsTogether g.S.Store rows old h error) new _ failed (search rules)

pub returns-in-Err-commit-clause-survives : goal.returns-in-Err-commit-clause-survives
returns-in-Err-commit-clause-survives g c =
    let old = c.args.conn.now in
    let mid = c.put_each.new.tx.conn.now in
    let new = state g.S.Store c.commit.new.self.0 in
    let rows = c.args.rows.now in
    let survives : Survives (state g.S.Store old) new (CommitsTogether g.S.Store rows old) =
    survives_together g.S.Store rows old c.transaction-tx.result.conn.now mid c.transaction-tx.ensures.begun new c.in_default.ensures.set c.put_each.ensures.survives c.commit.ensures.survives in
    search rules
