use Rattle.std.proofs.Common.{◌≡◌, drop}
use Rattle.std.specs.Map.{lookup}
use Rattle.std.specs.Str.{bytes_eq}
use Rattle.kd_keys.specs.Rows.{rows_of}
use Rattle.kd_keys.proofs.keys.rule_in.Given as goal

abbrev pub invariant-loop-table : goal.invariant-loop-table
invariant-loop-table l =
    lookup (bytes_eq l.key) (rows_of l.tables)
    ≡ lookup (bytes_eq l.key) (rows_of (drop l.table-index l.tables))
