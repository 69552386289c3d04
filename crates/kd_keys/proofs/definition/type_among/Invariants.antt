use Rattle.std.proofs.Common.{◌≡◌, drop, map}
use Rattle.std.specs.Map.{lookup}
use Rattle.std.specs.Str.{bytes_eq}
use Rattle.kd_keys.proofs.definition.type_among.Given as goal

abbrev pub invariant-loop-other : goal.invariant-loop-other
invariant-loop-other l =
    lookup (bytes_eq l.name) (map (λ row. (row.0.now, row.1)) l.table)
    ≡ lookup (bytes_eq l.name) (map (λ row. (row.0.now, row.1)) (drop l.other-index l.table))
