use Rattle.std.proofs.Common.{sym, subst}
use Rattle.sqlite.specs.Held.{state}
use Rattle.kd_store.specs.Stands.{Stands}
use Rattle.kd_store.specs.Kept.{Kept}
use Rattle.kd_store.proofs.Reading.{reading_finds, reading_moves}
use Rattle.kd_store.proofs.store.StoreKeeps.rows.Goals as goal

pub returns-clause-found : goal.returns-clause-found
returns-clause-found g c clean table s =
    reading_finds (λ rows. rows.items) (state g.S.Store c.self.inside.conn) (state g.S.Store c.read-found.new.conn) table (g.met.S.Store.settled c.self.inside.conn.store)
    (g.met.S.Store.settled c.read-found.new.conn.store) clean (subst (λ (k : Kept _). Stands (state g.S.Store k.conn) table) (sym c.self.view_is) s) c.read-found.ensures.survives c.read-found.result (c.read-found.ensures.read clean) c.read-found.ensures.rise

pub returns-clause-stays : goal.returns-clause-stays
returns-clause-stays g c clean table s =
    reading_moves (λ rows. rows.items) (state g.S.Store c.self.inside.conn) (state g.S.Store c.read-found.new.conn) table (g.met.S.Store.settled c.self.inside.conn.store)
    (g.met.S.Store.settled c.read-found.new.conn.store) clean (subst (λ (k : Kept _). Stands (state g.S.Store k.conn) table) (sym c.self.view_is) s) c.read-found.ensures.survives c.read-found.result (c.read-found.ensures.read clean)
