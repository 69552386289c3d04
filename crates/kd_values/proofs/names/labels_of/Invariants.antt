use Rattle.std.proofs.Common.{◌≡◌, ◌++◌, length, option_map}
use Rattle.std.specs.List.{slice_split}
use Rattle.memchr.specs.Find.{is_byte}
use Rattle.kd_values.specs.Names.{label_spelled}
use Rattle.kd_values.specs.Parts.{values_in}
use Rattle.kd_values.proofs.names.labels_of.Given as goal

abbrev pub invariant-labels : goal.invariant-labels
invariant-labels l = option_map (λ w. l.labels.items ++ w) (values_in label_spelled (slice_split (is_byte 46) l.left)) ≡ values_in label_spelled (slice_split (is_byte 46) l.text)

abbrev pub decreases-labels : goal.decreases-labels
decreases-labels l = length l.left
