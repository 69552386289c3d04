use Rattle.std.proofs.Common.{◌≡◌, ◌++◌, false, length, option_map}
use Rattle.kd_values.specs.Fields.{parts_behind, parts_spelled}
use Rattle.kd_values.proofs.fields.values_of_fields.Given as goal

abbrev pub invariant-parts : goal.invariant-parts
invariant-parts l = option_map (λ w. l.values.items ++ w) (parts_spelled l.field l.fields l.repeats (parts_behind false l.left)) ≡ parts_spelled l.fn.first l.others l.repeats (parts_behind false l.text)

abbrev pub decreases-parts : goal.decreases-parts
decreases-parts l = length l.left
