-- The tables of the code as those of `Tables.antt`: helpers of private contracts only.
use Rattle.std.specs.Prelude.{ℕ, List, map}
use Rattle.std.specs.Borrow.{Bor}
use Rattle.std.specs.List.{flat_map}
use Rattle.kd_keys.specs.Keys.{KeyUse, Plain, flag, fraction, no_list, served, skipped, usual, whole, word}
use Rattle.kd_keys.specs.declared.keys.KeyRule.{KeyRule}
use Rattle.kd_keys.specs.declared.keys.KeyRule.TheVariants as rules
use Rattle.kd_keys.specs.declared.keys.UsualValue.{UsualValue}
use Rattle.kd_keys.specs.declared.keys.UsualValue.TheVariants as values

-- a value as the definitions have it
abbrev pub plain_of : UsualValue → Plain
plain_of (values.Flag b) = flag b
plain_of (values.Number n) = whole n
plain_of (values.Fraction x) = fraction x
plain_of (values.Text text) = word text.now
plain_of values.EmptyList = no_list

-- a rule as the definitions have it
abbrev pub use_of : KeyRule → KeyUse
use_of rules.Served = served
use_of rules.Skipped = skipped
use_of (rules.Usual list) = usual (map plain_of list.now)

-- a row as the definitions have it
abbrev pub row_of : Bor (List ℕ) × KeyRule → List ℕ × KeyUse
row_of row = (row.0.now, use_of row.1)

-- the rows of several tables, one table after another
abbrev pub rows_of : List (Bor (List (Bor (List ℕ) × KeyRule))) → List (List ℕ × KeyUse)
rows_of tables = flat_map (λ table. map row_of table.now) tables
