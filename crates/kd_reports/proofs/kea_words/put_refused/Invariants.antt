use Rattle.std.proofs.Common.{◌≡◌, ◌≤◌, ◌++◌, length, string_bytes, take}
use Rattle.kd_reports.proofs.Keys.{paths_in, places}
use Rattle.kd_reports.proofs.kea_words.put_refused.Given as goal

abbrev pub invariant-loop-note : goal.invariant-loop-note
invariant-loop-note l = record {
  shown : string_bytes l.words
      ≡ string_bytes l.initial.words ++ places l.texts.name.now l.texts.written.now l.texts.plain.now (paths_in (take l.note-index l.notes));
  counted : l.count ≡ length (paths_in (take l.note-index l.notes));
  few : l.count ≤ 64;
}
