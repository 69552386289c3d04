-- What is true of every run, whatever the program, the message and the held names.
use Rattle.std.specs.Prelude.{◌≡◌, ℕ, List}
use Rattle.kd_machine.specs.Run.{EndsWithin, Run}
use Rattle.kd_machine.specs.declared.run.Outcome.{Outcome}
use Rattle.kd_options.specs.Message.{IsMessage, Seen}
use Rattle.kd_token.specs.Accepts.{Accepts}
use Rattle.kd_token.specs.File.{Code, HasFile}

-- every accepted program has a run over every message and every list of held names, within what it
-- declares
abbrev pub AcceptedEnds : Type 0
AcceptedEnds =
    (p : Code) (message : Seen) (held : List (List ℕ)) → HasFile p → Accepts p → IsMessage message
    → EndsWithin p message held

-- all runs of a program over the same message and held names have the same outcome
abbrev pub HasOneEnd : Type 0
HasOneEnd =
    (p : Code) (message : Seen) (held : List (List ℕ)) (o r : Outcome)
    → Run p message held o → Run p message held r → o ≡ r
