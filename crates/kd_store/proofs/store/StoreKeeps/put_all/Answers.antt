use Rattle.std.proofs.Common.{sym, subst}
use Rattle.sqlite.specs.Held.{state}
use Rattle.kd_store.specs.Kept.{Kept}
use Rattle.kd_store.specs.Stands.{Stands}
use Rattle.kd_store.proofs.store.StoreKeeps.put_all.Goals as goal

pub returns-clause-put : goal.returns-clause-put
returns-clause-put g c clean table s = c.put_all-kept.ensures.put clean table (subst (λ (k : Kept _). Stands (state g.S.Store k.conn) table) (sym c.self.view_is) s)
