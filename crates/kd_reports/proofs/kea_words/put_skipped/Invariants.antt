use Rattle.std.proofs.Common.{◌≡◌, ◌++◌, map, string_bytes, take}
use Rattle.kd_notes.specs.Notes.{note_of}
use Rattle.kd_reports.specs.KeaWords.{skipped_lines}
use Rattle.kd_reports.proofs.kea_words.put_skipped.Given as goal

abbrev pub invariant-loop-note : goal.invariant-loop-note
invariant-loop-note l =
    string_bytes l.words ≡ string_bytes l.initial.words ++ skipped_lines l.name (map note_of (take l.note-index l.notes))
