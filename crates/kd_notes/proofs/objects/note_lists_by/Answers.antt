use Rattle.std.proofs.lemmas.Result.{on_ok_weaker}
use Rattle.kd_notes.proofs.Noted.{four_joined}
use Rattle.kd_notes.specs.Notes.{lists_by}
use Rattle.kd_notes.proofs.objects.note_lists_by.Goals as goal

pub returns : goal.returns
unfolding lists_by
returns c =
    on_ok_weaker c.note_all_subnets.result
    (four_joined _ _ _ _ _ _ _ _ _ c.in_ok-note_definitions.ensures c.in_ok-note_all_options.ensures c.in_ok-note_list.ensures)
    c.note_all_subnets.ensures
