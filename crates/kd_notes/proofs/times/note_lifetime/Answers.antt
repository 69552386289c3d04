use Rattle.std.proofs.lemmas.Result.{on_ok_weaker}
use Rattle.kd_notes.proofs.Noted.{three_joined}
use Rattle.kd_notes.specs.Notes.{lifetime_notes}
use Rattle.kd_notes.proofs.times.note_lifetime.Goals as goal

pub returns : goal.returns
unfolding lifetime_notes
returns c =
    on_ok_weaker c.note_seconds-3.result
    (three_joined _ _ _ _ _ _ _ c.in_ok-note_seconds.ensures c.in_ok-note_seconds-2.ensures)
    c.note_seconds-3.ensures
