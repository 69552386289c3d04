use Rattle.std.proofs.Common.{sym}
use Rattle.kd_rows.proofs.Listed.{listed_here, listed_past}
use Rattle.kd_rows.proofs.addresses.is_among.Goals as goal

pub returns-then-place-addresses : goal.returns-then-place-addresses
returns-then-place-addresses c = sym (listed_here c.args.addresses.now c.args.address c.place_in-place.result c.at.result c.requires c.place_in-place.ensures c.if-place-addresses.true c.at.ensures)

pub returns-else-place-addresses : goal.returns-else-place-addresses
returns-else-place-addresses c = sym (listed_past c.args.addresses.now c.args.address c.place_in-place.result c.requires c.place_in-place.ensures c.if-place-addresses.false)
