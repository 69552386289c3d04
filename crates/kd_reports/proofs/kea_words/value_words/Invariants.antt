use Rattle.std.proofs.Common.{◌≡◌, ◌≤◌, length, string_bytes, take}
use Rattle.kd_reports.specs.KeaWords.{AreSaidOfValues, is_wrong_beside}
use Rattle.kd_reports.proofs.Keys.{paths_by}
use Rattle.kd_reports.proofs.kea_words.value_words.Given as goal

abbrev pub invariant-loop-note : goal.invariant-loop-note
invariant-loop-note l = record {
  said : AreSaidOfValues l.texts.name.now l.texts.written.now l.texts.plain.now (paths_by (is_wrong_beside l.fault) (take l.note-index l.notes)) (string_bytes l.words);
  counted : l.count ≡ length (paths_by (is_wrong_beside l.fault) (take l.note-index l.notes));
  few : l.count ≤ 64;
}
