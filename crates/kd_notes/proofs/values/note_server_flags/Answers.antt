use Rattle.std.proofs.lemmas.Result.{on_ok_weaker}
use Rattle.kd_notes.proofs.Noted.{four_joined}
use Rattle.kd_notes.specs.Notes.{server_flags}
use Rattle.kd_notes.proofs.values.note_server_flags.Goals as goal

pub returns : goal.returns
unfolding server_flags
returns c =
    on_ok_weaker c.note_boot.result
    (four_joined _ _ _ _ _ _ _ _ _ c.in_ok-note_flag.ensures c.in_ok-note_flag-2.ensures c.in_ok-note_flag-3.ensures)
    c.note_boot.ensures
