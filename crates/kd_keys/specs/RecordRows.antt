-- The table of standard records of the code as that of `Definitions.antt`: helpers of private contracts
-- only.
use Rattle.std.specs.Prelude.{ℕ, Bool, List}
use Rattle.std.specs.Borrow.{Bor}
use Rattle.kd_keys.specs.Definitions.{record_option}
use Rattle.kd_keys.specs.declared.definition.DefinedOption.{DefinedOption}
use Rattle.kd_values.specs.declared.field_type.FieldType.{FieldType}

-- the definition of a row
abbrev pub record_in : ℕ × Bor (List ℕ) × Bor (List FieldType) × Bool → DefinedOption
record_in row = record_option row.0 row.1.now row.2.now row.3
