use Rattle.std.proofs.lemmas.Result.{on_ok_weaker}
use Rattle.kd_notes.proofs.Noted.{two_joined}
use Rattle.kd_notes.specs.Notes.{all_subnet_notes}
use Rattle.kd_notes.proofs.objects.note_all_subnets.Goals as goal

pub returns : goal.returns
unfolding all_subnet_notes
returns c =
    on_ok_weaker c.note_list-2.result (two_joined _ _ _ _ _ c.in_ok-note_list.ensures)
    c.note_list-2.ensures
