use Rattle.std.proofs.Common.{◌≡◌, take}
use Rattle.kd_rows.specs.Heads.{row_addresses}
use Rattle.kd_rows.proofs.heads.addresses_by_slot.Given as goal

abbrev pub invariant-loop-i : goal.invariant-loop-i
invariant-loop-i l = l.addresses.items ≡ row_addresses (take l.i l.rows.items)
