use Rattle.std.proofs.Common.{◌≡◌, drop}
use Rattle.serde_json.specs.View.{items_view}
use Rattle.kd_keys.specs.Hooks.{are_quiet}
use Rattle.kd_keys.proofs.hooks.are_all_quiet.Given as goal

abbrev pub invariant-loop-hook : goal.invariant-loop-hook
invariant-loop-hook l =
    are_quiet (items_view l.hooks) ≡ are_quiet (items_view (drop l.hook-index l.hooks))
