use Rattle.std.proofs.Common.{◌≡◌, not, is_some, take}
use Rattle.std.specs.List.{filter}
use Rattle.kd_rows.specs.Table.{row_at}
use Rattle.kd_rows.proofs.addresses.without_rows.Given as goal

abbrev pub invariant-loop-i : goal.invariant-loop-i
invariant-loop-i l = l.bare.items ≡ filter (λ a. not (is_some (row_at l.rows.rows a))) (take l.i l.addresses.items)
