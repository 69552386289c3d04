use Rattle.std.proofs.Common.{◌≡◌, drop, false, take}
use Rattle.kd_values.specs.Fields.{parts_behind}
use Rattle.kd_values.proofs.Commas.{prefixed}
use Rattle.kd_values.proofs.fields.first_field_part.Given as goal

abbrev pub invariant-loop-at : goal.invariant-loop-at
invariant-loop-at l = prefixed (take l.at l.text) (parts_behind l.escaped (drop l.at l.text)) ≡ parts_behind false l.text
