use Rattle.std.proofs.Common.{◌≡◌, [], drop}
use Rattle.serde_json.specs.View.{items_view}
use Rattle.kd_json.specs.Options.{options_behind}
use Rattle.kd_json.proofs.objects.options.options_in.Given as goal

abbrev pub invariant-loop-i : goal.invariant-loop-i
invariant-loop-i l = options_behind [] (items_view l.values) ≡ options_behind l.list.items (items_view (drop l.i l.values))
