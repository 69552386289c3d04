use Rattle.std.proofs.Common.{◌<◌, length, subst, sym}
use Rattle.kd_rows.specs.Index.{client_of, key_at}
use Rattle.kd_rows.proofs.Keys.{left_within, moved_to, row_here}
use Rattle.kd_rows.proofs.put.give_client.Goals as goal

pub move_key-requires-clause-from : goal.move_key-requires-clause-from
move_key-requires-clause-from c =
    (row_here client_of c.args.rows.now.rows c.args.rows.now.index c.as_slice.result.now c.args.address c.args.place c.key_place-from.result c.row.result.now c.requires.indexed c.requires.at c.row.ensures c.as_slice.ensures c.key_place-from.ensures).0

pub move_key-requires-clause-to : goal.move_key-requires-clause-to
move_key-requires-clause-to c =
    let here = row_here client_of c.args.rows.now.rows c.args.rows.now.index c.as_slice.result.now c.args.address c.args.place c.key_place-from.result c.row.result.now c.requires.indexed c.requires.at c.row.ensures c.as_slice.ensures c.key_place-from.ensures in
    subst (λ to. to < length c.args.rows.now.index) (sym c.place_without-to.ensures) (left_within (length c.args.rows.now.index) c.key_place-from.result c.key_place.result here.0 c.key_place.ensures.in_range)

pub returns-clause-moved : goal.returns-clause-moved
returns-clause-moved c =
    let here = row_here client_of c.args.rows.now.rows c.args.rows.now.index c.as_slice.result.now c.args.address c.args.place c.key_place-from.result c.row.result.now c.requires.indexed c.requires.at c.row.ensures c.as_slice.ensures c.key_place-from.ensures in
    moved_to (key_at c.args.rows.now.rows) c.args.rows.now.index c.move_key.new.self.index c.args.client.now c.args.address c.key_place-from.result c.key_place.result c.place_without-to.result here c.key_place.ensures c.place_without-to.ensures c.move_key.ensures.index
