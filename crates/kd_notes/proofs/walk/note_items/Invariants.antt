use Rattle.std.proofs.Common.{◌≡◌, ◌++◌, drop}
use Rattle.serde_json.specs.View.{items_view}
use Rattle.kd_notes.specs.Notes.{item_notes}
use Rattle.kd_notes.proofs.walk.note_items.Given as goal

abbrev pub invariant-loop-i : goal.invariant-loop-i
invariant-loop-i g l =
    let noted = g.K.NotedObject.noted l.kind in
    l.notes ++ item_notes noted l.path l.i (items_view (drop l.i l.items))
    ≡ l.fn.notes ++ item_notes noted l.path 0 (items_view l.items)
