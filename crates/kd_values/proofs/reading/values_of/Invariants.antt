use Rattle.std.proofs.Common.{◌≡◌, ◌++◌, length, option_map}
use Rattle.std.specs.List.{slice_split}
use Rattle.memchr.specs.Find.{is_byte}
use Rattle.kd_values.specs.Parts.{trimmed, values_in}
use Rattle.kd_values.specs.Spelled.{one_spelled}
use Rattle.kd_values.proofs.reading.values_of.Given as goal

abbrev pub invariant-parts : goal.invariant-parts
invariant-parts l = option_map (λ w. l.values.items ++ w) (values_in (λ part. one_spelled l.kind (trimmed part)) (slice_split (is_byte 44) l.left)) ≡ values_in (λ part. one_spelled l.kind (trimmed part)) (slice_split (is_byte 44) l.text)

abbrev pub decreases-parts : goal.decreases-parts
decreases-parts l = length l.left
