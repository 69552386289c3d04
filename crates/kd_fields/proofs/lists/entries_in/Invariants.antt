use Rattle.std.proofs.Common.{◌≡◌, ◌++◌, Some, drop}
use Rattle.std.specs.Prelude.{option_and_then}
use Rattle.serde_json.specs.View.{items_view}
use Rattle.kd_fields.specs.Lists.{all_of}
use Rattle.kd_fields.proofs.lists.entries_in.Given as goal

abbrev pub invariant-loop-i : goal.invariant-loop-i
invariant-loop-i g l =
    let means = g.R.EntryReader.means l.reader in
    all_of means (items_view l.values)
    ≡ option_and_then (λ xs. Some (l.list.items ++ xs)) (all_of means (items_view (drop l.i l.values)))
