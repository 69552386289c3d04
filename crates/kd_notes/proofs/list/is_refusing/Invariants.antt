use Rattle.std.proofs.Common.{◌≡◌, drop, map}
use Rattle.kd_notes.specs.Notes.{have_refused, note_of}
use Rattle.kd_notes.proofs.list.is_refusing.Given as goal

abbrev pub invariant-loop-note : goal.invariant-loop-note
invariant-loop-note l =
    have_refused (map note_of l.notes) ≡ have_refused (map note_of (drop l.note-index l.notes))
