-- What is true of every explanation: the checks that it tells are those that decide the message.
use Rattle.std.specs.Prelude.{◌≡◌, ℕ, Bool, true, false, ◌⊎◌, List, [], ◌∷◌, ◌++◌, Option}
use Rattle.std.specs.List.{list_all}
use Rattle.kd_lease.specs.Change.{AnswersTo}
use Rattle.kd_lease.specs.Choice.{Asking}
use Rattle.kd_lease.specs.Plan.{Outcome}
use Rattle.kd_lease.specs.Rules.{Makes, checks_in, end_by, ending, holds_at, rule_of}
use Rattle.kd_lease.specs.declared.rule.Check.{Check}
use Rattle.kd_lease.specs.declared.rule.Ending.{Ending}
use Rattle.kd_lease.specs.declared.rule.Rule.{Rule}
use Rattle.kd_rows.specs.declared.row.Row.{Row}
use Rattle.kd_explain.specs.CheckLines.{TellsRule, made}

-- a message about this address passes the checks of all these lines
abbrev pub passes_all : Asking → Option ℕ → List (Check × Ending) → Bool
passes_all q a lines = list_all (λ line. holds_at q a line.0) lines

-- all checks of a rule are made, the message passes them, and it ends as the rule does
pub record EndsAsRule (q : Asking) (a : Option ℕ) (rule : Rule) : Type 0 where
  pub all : made q a (checks_in rule) ≡ checks_in rule
  pub passed : passes_all q a (checks_in rule) ≡ true
  pub ends : ending q a rule ≡ end_by rule

-- the message passes all the checks that are made but the last, and ends as the line of that says
pub record EndsAtCheck (q : Asking) (a : Option ℕ) (rule : Rule) : Type 0 where
  pub before : List (Check × Ending)
  pub last : Check × Ending
  pub all : made q a (checks_in rule) ≡ before ++ last ∷ []
  pub passed : passes_all q a before ≡ true
  pub failed : holds_at q a last.0 ≡ false
  pub ends : ending q a rule ≡ last.1

-- the checks that are told of a client's message are why it ends as it does, and what is decided
-- for it is what that end makes
abbrev pub Explained : Type 0
Explained =
    (q : Asking) (set : Option Row) (got : Outcome) (text : List ℕ) (told : TellsRule q set text)
    (answers : AnswersTo q set got)
    → (EndsAsRule q told.address (rule_of q told.type)
    ⊎ EndsAtCheck q told.address (rule_of q told.type))
    × Makes q told.address (ending q told.address (rule_of q told.type)) answers.row
    answers.outcome
