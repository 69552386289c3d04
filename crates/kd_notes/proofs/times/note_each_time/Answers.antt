use Rattle.std.proofs.lemmas.Result.{on_ok_weaker}
use Rattle.kd_notes.proofs.Noted.{three_joined}
use Rattle.kd_notes.proofs.times.note_each_time.Goals as goal

pub returns : goal.returns
returns c =
    on_ok_weaker c.note_number-2.result
    (three_joined _ _ _ _ _ _ _ c.in_ok-note_server_term.ensures c.in_ok-note_number.ensures)
    c.note_number-2.ensures
