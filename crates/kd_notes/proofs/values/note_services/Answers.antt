use Rattle.std.proofs.lemmas.Result.{on_ok_weaker}
use Rattle.kd_notes.proofs.Noted.{four_joined}
use Rattle.kd_notes.specs.Notes.{service_notes}
use Rattle.kd_notes.proofs.values.note_services.Goals as goal

pub returns : goal.returns
unfolding service_notes
returns c =
    on_ok_weaker c.note_value-3.result
    (four_joined _ _ _ _ _ _ _ _ _ c.in_ok-note_value.ensures c.in_ok-note_value-2.ensures (rw c.has_identifiers.ensures at c.in_ok-note_failed.ensures))
    c.note_value-3.ensures
