use Rattle.std.proofs.Common.{◌≡◌, ◌++◌, drop}
use Rattle.serde_json.specs.View.{items_view}
use Rattle.kd_keys.specs.Definitions.{kea_definition}
use Rattle.kd_keys.specs.Alone.{each_described}
use Rattle.kd_keys.proofs.definition.right_among.Given as goal

abbrev pub invariant-loop-value : goal.invariant-loop-value
invariant-loop-value l =
    l.found.items ++ each_described (kea_definition l.reader.in_class) (items_view (drop l.value-index l.values))
    ≡ each_described (kea_definition l.reader.in_class) (items_view l.values)
