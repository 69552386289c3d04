use Rattle.std.proofs.Common.{◌≡◌, ◌++◌, map}
use Rattle.std.specs.Prelude.{string_bytes}
use Rattle.serde_json.specs.View.{members_view, view}
use Rattle.kd_notes.specs.Notes.{key_notes, member_keys}
use Rattle.kd_keys.specs.Tables.{key_table}
use Rattle.kd_notes.proofs.objects.note_members.Given as goal

abbrev pub invariant-loop-key : goal.invariant-loop-key
invariant-loop-key l =
    l.notes ++ key_notes (key_table l.kind) l.path (view l.object) (map string_bytes l.key-iterator)
    ≡ l.fn.notes ++ key_notes (key_table l.kind) l.path (view l.object) (member_keys (members_view l.members.entries))
