use Rattle.std.proofs.Common.{◌≡◌, drop}
use Rattle.serde_json.specs.View.{items_view}
use Rattle.kd_kea.specs.Lifetimes.{is_key_among}
use Rattle.kd_kea.proofs.objects.lifetimes.is_given_among.Given as goal

abbrev pub invariant-loop-value : goal.invariant-loop-value
invariant-loop-value l =
    is_key_among l.key (items_view l.values)
    ≡ is_key_among l.key (items_view (drop l.value-index l.values))
