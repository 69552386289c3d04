use Rattle.std.proofs.Common.{◌≡◌, drop}
use Rattle.serde_json.specs.View.{items_view}
use Rattle.kd_keys.specs.Keys.{word}
use Rattle.kd_keys.specs.Values.{has_plain}
use Rattle.kd_keys.proofs.host_kinds.has_text.Given as goal

abbrev pub invariant-loop-value : goal.invariant-loop-value
invariant-loop-value l =
    has_plain (word l.text) (items_view l.values)
    ≡ has_plain (word l.text) (items_view (drop l.value-index l.values))
