use Rattle.std.proofs.Common.{arith}
use Rattle.kd_database.proofs.Counting.{no_fault, none_refused}
use Rattle.kd_database.proofs.tail.left_out.Goals as goal

pub unreachable-requires : goal.unreachable-requires
unreachable-requires c =
    let log = none_refused c.new.result c.probe_page_size.new.files.log c.new.ensures.fresh c.in-Err.ensures.log in
    let db = none_refused c.new-2.result c.probe_page_size.new.files.db c.new-2.ensures.fresh c.in-Err.ensures.db in
    no_fault _ _ (omega (arith, c.new.ensures.fresh, c.new-2.ensures.fresh)) (omega (arith, log, db)) c.in-Err.ensures.faults.0
