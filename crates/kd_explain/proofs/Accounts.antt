-- A text that is that of an explanation.
use Rattle.std.specs.Prelude.{ℕ, List, Result, Ok, Err, IfOk}
use Rattle.kd_config.specs.Configuration.{Configuration}
use Rattle.kd_options.specs.Message.{Seen}
use Rattle.kd_rows.specs.declared.row.Row.{Row}
use Rattle.kd_explain.specs.Account.{IsExplanation, IsTextOf}
use Rattle.kd_explain.specs.Explaining.{Explains}
use Rattle.kd_explain.specs.declared.explaining.Explanation.{Explanation}

-- the text of an explanation of a message explains the message
pub explained_by : {T F : Type 0} (bytes : T → List ℕ) (config : Configuration) (rows : List Row) (m : Seen) (now : ℕ) (e : Explanation) (r : Result T F) → Explains config rows m now e
    → IfOk r (λ text. IsTextOf config rows m now e (bytes text)) → IfOk r (λ text. IsExplanation config rows m now (bytes text))
explained_by bytes config rows m now e (Ok text) explains is = record { explanation = e; explains = explains; text_is = is }
explained_by bytes config rows m now e (Err fault) explains is = tt
