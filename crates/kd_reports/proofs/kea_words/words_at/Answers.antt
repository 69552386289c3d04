use Rattle.std.proofs.Common.{◌≡◌, ◌∙◌, map, string_bytes, sym, true, false}
use Rattle.kd_check.specs.Located.{IsLocatedValue}
use Rattle.kd_notes.specs.Notes.{note_of}
use Rattle.kd_reports.specs.KeaWords.{IsSaidAt, is_refused_at}
use Rattle.kd_reports.proofs.Keys.{noted_same}
use Rattle.kd_reports.proofs.Said.{nothing_said, so, value_said}
use Rattle.kd_reports.proofs.kea_words.words_at.Goals as goal

pub returns-then-is_noted : goal.returns-then-is_noted
returns-then-is_noted c =
    let notes = map note_of c.args.notes.now in
    let texts = c.args.texts.now in
    let refused : is_refused_at c.args.path.now notes ≡ true =
    sym (noted_same c.args.path.now c.args.notes.now) ∙ sym c.is_noted.ensures ∙ c.if-is_noted.true in
    nothing_said texts.name.now texts.written.now texts.plain.now notes (c.args.path.now, c.args.what.now) (string_bytes c.new.result) refused
    c.new.ensures.bytes

pub returns : goal.returns
returns c =
    let notes = map note_of c.args.notes.now in
    let texts = c.args.texts.now in
    let other : is_refused_at c.args.path.now notes ≡ false =
    sym (noted_same c.args.path.now c.args.notes.now) ∙ sym c.is_noted.ensures ∙ c.if-is_noted.false in
    so (λ words. IsLocatedValue texts.name.now texts.plain.now texts.written.now c.args.path.now c.args.what.now words)
    (λ words. IsSaidAt texts.name.now texts.written.now texts.plain.now notes (c.args.path.now, c.args.what.now) words) c.located_value_report.result
    (λ words report. value_said texts.name.now texts.written.now texts.plain.now notes (c.args.path.now, c.args.what.now) words other report)
    c.located_value_report.ensures
