use Rattle.std.proofs.Common.{◌≡◌, ◌++◌, map, take}
use Rattle.kd_keys.specs.RecordRows.{record_in}
use Rattle.kd_keys.proofs.definition.push_records.Given as goal

abbrev pub invariant-loop-row : goal.invariant-loop-row
invariant-loop-row l = l.out.items ≡ l.fn.out.items ++ map record_in (take l.row-index l.records)
