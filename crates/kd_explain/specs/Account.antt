-- What there is to say of a datagram: the lines about each part of its message.
use Rattle.std.specs.Prelude.{◌≡◌, ◌≢◌, ◌++◌, ◌⊎◌, ℕ, List, codes, decimal}
use Rattle.kd_config.specs.Configuration.{Configuration}
use Rattle.kd_lease.specs.Change.{asked_for}
use Rattle.kd_options.specs.Faults.{read_fault_number}
use Rattle.kd_options.specs.Message.{IsFirstFault, Reads, Seen}
use Rattle.kd_options.specs.declared.fault.ReadFault.{ReadFault}
use Rattle.kd_options.specs.declared.fault.ReadFault.TheVariants as reading
use Rattle.kd_rows.specs.declared.row.Row.{Row}
use Rattle.kd_explain.specs.CheckLines.{TellsChecks, TellsClient}
use Rattle.kd_explain.specs.Explaining.{Explains}
use Rattle.kd_explain.specs.FoundLines.{found_text}
use Rattle.kd_explain.specs.OutcomeLines.{IsEndText, set_line}
use Rattle.kd_explain.specs.declared.explaining.Explanation.{Explanation}

-- a text tells the checks of a message at a time over rows, from an explanation of it
abbrev pub IsCheckedText : Configuration → List Row → Seen → ℕ → Explanation → List ℕ → Type 0
IsCheckedText config rows m now e text =
    TellsChecks e.decision.answer m
    (TellsClient (asked_for config rows e.names m now) e.decision.row e.client) text

-- a text is that of an explanation of a message at a time: what the message is and what is found
-- for it, what is checked, how it ends, and the row that it sets
pub record IsTextOf (config : Configuration) (rows : List Row) (m : Seen) (now : ℕ)
    (e : Explanation) (text : List ℕ) : Type 0 where
  pub checked : List ℕ
  pub tells : IsCheckedText config rows m now e checked
  pub ends : List ℕ
  pub outcome : IsEndText config m e e.decision.answer ends
  pub is : text ≡ found_text config m now e ++ (checked ++ (ends ++ set_line e.decision.row))

-- a text explains a message at a time, over a configuration and rows
pub record IsExplanation (config : Configuration) (rows : List Row) (m : Seen) (now : ℕ)
    (text : List ℕ) : Type 0 where
  pub explanation : Explanation
  pub explains : Explains config rows m now explanation
  pub text_is : IsTextOf config rows m now explanation text

-- a text says that a datagram is no message, because of its first fault
pub record IsNoMessage (bytes text : List ℕ) : Type 0 where
  pub fault : ReadFault
  pub first : IsFirstFault fault bytes
  pub not_memory : fault ≢ reading.Memory
  pub name : List ℕ
  pub is : text
      ≡ codes "unreadable: fault " ++ decimal (read_fault_number fault) ++ codes " " ++ name
      ++ codes "\n"

-- what is said of a datagram at a time: the explanation of its message, or that it is no message
abbrev pub IsAccount : Configuration → List Row → ℕ → List ℕ → List ℕ → Type 0
IsAccount config rows now bytes text =
    ((m : Seen) × Reads bytes m × IsExplanation config rows m now text) ⊎ IsNoMessage bytes text
