use Rattle.std.proofs.Common.{ap, ◌∙◌, is_some}
use Rattle.std.specs.BTreeMap.{insert_entry, is_at}
use Rattle.std.specs.Map.{lookup}
use Rattle.std.specs.Ordering.{nat_cmp}
use Rattle.kd_log.proofs.Addressed.{found_by_address, put_by_address}
use Rattle.kd_log.proofs.leases.table.put_row.Goals as goal

pub returns : goal.returns
returns c = λ rows is.
    let row = c.args.row in
    let e = c.in_ok-insert.ensures in
    let had = ap is_some (e.old ∙ ap (lookup (is_at (nat_cmp row.address))) is ∙ found_by_address row.address rows) in
    (e.entries ∙ ap (λ es. insert_entry nat_cmp es row.address row) is ∙ put_by_address row rows, cc had)
