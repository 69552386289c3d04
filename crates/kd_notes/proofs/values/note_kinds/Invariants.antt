use Rattle.std.proofs.Common.{◌≡◌, ◌++◌, drop}
use Rattle.std.specs.List.{flat_map}
use Rattle.serde_json.specs.View.{view}
use Rattle.kd_keys.specs.HostKinds.{is_found_if_given, kind_key}
use Rattle.kd_notes.specs.Notes.{kind_notes, note_unless}
use Rattle.kd_notes.specs.declared.notes.NoteKind.TheVariants.{Unknown}
use Rattle.kd_notes.proofs.values.note_kinds.Given as goal

abbrev pub invariant-loop-kind : goal.invariant-loop-kind
invariant-loop-kind l =
    l.notes
    ++ flat_map (λ kind. note_unless (is_found_if_given l.kinds (view l.host) kind) Unknown l.path (kind_key kind))
    (drop l.kind-index l.order)
    ≡ l.fn.notes ++ kind_notes l.kinds l.path (view l.host)
