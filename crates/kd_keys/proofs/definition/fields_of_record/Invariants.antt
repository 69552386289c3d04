use Rattle.std.proofs.Common.{◌≡◌, ◌++◌, length, option_map}
use Rattle.std.specs.List.{slice_split}
use Rattle.memchr.specs.Find.{is_byte}
use Rattle.kd_keys.specs.Definitions.{types_in}
use Rattle.kd_keys.proofs.definition.fields_of_record.Given as goal

abbrev pub invariant-names : goal.invariant-names
invariant-names l =
    option_map (λ w. l.fields.items ++ w) (types_in (slice_split (is_byte 44) l.left))
    ≡ types_in (slice_split (is_byte 44) l.names)

abbrev pub decreases-names : goal.decreases-names
decreases-names l = length l.left
