use Rattle.std.proofs.Common.{inr}
use Rattle.std.proofs.lemmas.Result.{IfErr-weaker, IfOk-weaker}
use Rattle.sqlite_wal.specs.Files.{image_at}
use Rattle.kd_database.proofs.Opening.{as_held, as_new, opened_on}
use Rattle.kd_database.proofs.stores.store_from.Goals as goal

pub returns-in-Ok-clause-opened : goal.returns-in-Ok-clause-opened
returns-in-Ok-clause-opened g c =
    let on = opened_on (image_at g.F.Start) c.in-Ok.conn c.in-Ok.ensures.opened c.in-Ok.ensures.found c.in-Ok.ensures.sums in
    IfOk-weaker c.store_over.result _ _ (λ it opens. record { opened = c.in-Ok.conn; on = on; opens = opens.1 }) c.store_over.ensures.opened

pub returns-in-Ok-clause-held : goal.returns-in-Ok-clause-held
returns-in-Ok-clause-held g c = IfOk-weaker c.store_over.result _ _ (λ it is. as_held (image_at g.F.Start) it.store is) (returns-in-Ok-clause-opened g c)

pub returns-in-Ok-clause-new : goal.returns-in-Ok-clause-new
returns-in-Ok-clause-new g c = IfOk-weaker c.store_over.result _ _ (λ it is. as_new (image_at g.F.Start) it.store is) (returns-in-Ok-clause-opened g c)

pub returns-in-Ok-clause-refused : goal.returns-in-Ok-clause-refused
returns-in-Ok-clause-refused g c =
    let on = opened_on (image_at g.F.Start) c.in-Ok.conn c.in-Ok.ensures.opened c.in-Ok.ensures.found c.in-Ok.ensures.sums in
    IfErr-weaker c.store_over.result _ _ (λ fault back. inr (c.in-Ok.conn, back.0, on, back.1)) (c.store_over.ensures.refused c.in-Ok.ensures.fresh.autocommit)
