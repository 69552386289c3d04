use Rattle.std.proofs.Common.{rules, ◌<◌, ◌^◌}
use Rattle.hex.specs.Hex.{IsBytes}
use Rattle.kd_rows.specs.Row.{IsInRange}
use Rattle.kd_log.proofs.leases.lease.lease_of_line.Goals as goal

pub returns-clause-found : goal.returns-clause-found
returns-clause-found c =
    let range : IsInRange c.in-Some.lease.row = search rules in
    let low : c.in-Some.lease.row.address < 2 ^ 32 = search rules in
    let bytes : IsBytes c.in-Some.lease.row.client = search rules in
    record { printed = c.in_ok-prints.ensures.0 c.if-not-branch.false; storable = record { range = range; address = low; client = bytes } }
