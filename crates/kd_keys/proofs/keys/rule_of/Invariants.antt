use Rattle.std.proofs.Common.{◌≡◌, drop, map}
use Rattle.std.specs.Map.{lookup}
use Rattle.std.specs.Str.{bytes_eq}
use Rattle.kd_keys.specs.Rows.{row_of}
use Rattle.kd_keys.proofs.keys.rule_of.Given as goal

abbrev pub invariant-loop-name : goal.invariant-loop-name
invariant-loop-name l =
    lookup (bytes_eq l.key) (map row_of l.table)
    ≡ lookup (bytes_eq l.key) (map row_of (drop l.name-index l.table))
