use Rattle.std.proofs.Common.{[]}
use Rattle.std.proofs.lemmas.Result.{IfOk-weaker}
use Rattle.sqlite.proofs.Callers.{memory_is_clean}
use Rattle.kd_database.proofs.Opening.{at_none, ok_both}
use Rattle.kd_database.proofs.stores.store_in_memory.Goals as goal

pub returns-in-Ok-clause-stands : goal.returns-in-Ok-clause-stands
returns-in-Ok-clause-stands c = IfOk-weaker c.store_over.result _ _ (λ it opens. at_none c.in-Ok.conn it.store.conn c.in-Ok.ensures.empty opens.1) c.store_over.ensures.opened

pub returns-in-Ok-clause-none : goal.returns-in-Ok-clause-none
returns-in-Ok-clause-none c =
    ok_both c.store_over.result _ _ _ (λ it opens read. (read.table (memory_is_clean it.store.conn) [] (at_none c.in-Ok.conn it.store.conn c.in-Ok.ensures.empty opens.1)).0) c.store_over.ensures.opened c.store_over.ensures.rows
