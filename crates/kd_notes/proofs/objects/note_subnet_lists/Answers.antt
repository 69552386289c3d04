use Rattle.std.proofs.lemmas.Result.{on_ok_weaker}
use Rattle.kd_notes.proofs.Noted.{four_joined}
use Rattle.kd_notes.specs.Notes.{subnet_lists}
use Rattle.kd_notes.proofs.objects.note_subnet_lists.Goals as goal

pub returns : goal.returns
unfolding subnet_lists
returns c =
    on_ok_weaker c.note_value.result
    (four_joined _ _ _ _ _ _ _ _ _ c.in_ok-note_part_options.ensures c.in_ok-note_list.ensures c.in_ok-note_hosts.ensures)
    c.note_value.ensures
