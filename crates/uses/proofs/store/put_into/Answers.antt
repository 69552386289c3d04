use Rattle.std.proofs.Common.{rules, ◌≡◌, None, Ok}
use Rattle.sqlite.specs.Held.{state}
use Rattle.sqlite.specs.State.{HasCleanDisk}
use Rattle.kd_rows.specs.Table.{with_row}
use Rattle.kd_store.specs.Opening.{OpensAt}
use Rattle.kd_store.specs.Stands.{Stands}
use Rattle.uses.proofs.Results.{fact_of_ok, fact_of_some}
use Rattle.uses.proofs.store.put_into.Goals as goal

pub returns : goal.returns
returns g c clean table found =
    let closed : HasCleanDisk (state g.S.Store c.put-put.new.self.conn) = rw c.close-conn.ensures at clean in
    let opens : OpensAt (state g.S.Store c.args.conn) (state g.S.Store c.in_ok-store.store.conn) =
    (fact_of_some (λ store. (store.fault ≡ None) × OpensAt (state g.S.Store c.args.conn) (state g.S.Store store.conn)) c.open.result c.in_ok-store.store c.in_ok-store.ensures.value c.open.ensures.opened).1 in
    let stands = opens.stands (c.put-put.ensures.clean closed) table found in
    let moves = c.put-put.ensures.put closed table stands in
    let ok : c.put-put.result ≡ Ok c.in_ok-ok.field-0 = search rules in
    let put : Stands (state g.S.Store c.put-put.new.self.conn) (with_row c.args.row.now table) = fact_of_ok c.put-put.result c.in_ok-ok.field-0 ok moves.done in
    rw c.close-conn.ensures put
