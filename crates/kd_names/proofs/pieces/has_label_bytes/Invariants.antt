use Rattle.std.proofs.Common.{◌≡◌, drop}
use Rattle.std.specs.List.{list_all}
use Rattle.kd_names.specs.Pieces.{is_label_byte}
use Rattle.kd_names.proofs.pieces.has_label_bytes.Given as goal

abbrev pub invariant-loop-b : goal.invariant-loop-b
invariant-loop-b l = list_all is_label_byte (drop l.b-index l.label) ≡ list_all is_label_byte l.label
