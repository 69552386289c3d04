use Rattle.std.proofs.Common.{◌≡◌, drop, map}
use Rattle.std.specs.List.{list_any}
use Rattle.serde_json.specs.View.{view}
use Rattle.kd_keys.specs.Keys.{is_plain}
use Rattle.kd_keys.specs.Rows.{plain_of}
use Rattle.kd_keys.proofs.keys.is_among.Given as goal

abbrev pub invariant-loop-usual : goal.invariant-loop-usual
invariant-loop-usual l =
    list_any (λ plain. is_plain plain (view l.value)) (map plain_of l.values)
    ≡ list_any (λ plain. is_plain plain (view l.value)) (map plain_of (drop l.usual-index l.values))
