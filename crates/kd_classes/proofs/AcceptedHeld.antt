-- Definitions with accepted tests give every message the names of its classes.
use Rattle.std.proofs.Common.{ℕ, List, [], ◌∷◌, Some, None, refl}
use Rattle.std.specs.Prelude.{Option, if◌then◌else◌}
use Rattle.std.specs.List.{AllByRecursion}
use Rattle.kd_classes.specs.HeldSet.{HeldSet, IsAccepted, IsAcceptedTest, JoinInOrder, JoinsBy}
use Rattle.kd_classes.specs.declared.definition.ClassDef.{ClassDef}
use Rattle.kd_machine.specs.Held.{base_names, with_name}
use Rattle.kd_machine.specs.Laws.{AcceptedEnds}
use Rattle.kd_options.specs.Joined.{value_of}
use Rattle.kd_options.specs.Message.{IsMessage, Seen}
use Rattle.kd_token.specs.File.{Code}

one_step : AcceptedEnds → (test : Option Code) (message : Seen) (name : List ℕ) (held : List (List ℕ)) → IsMessage message → IsAcceptedTest test → (more : List (List ℕ)) × JoinsBy test message name held more
one_step accepted_ends None message name held is accepted = (held, refl)
one_step accepted_ends (Some p) message name held is accepted =
    let end = accepted_ends p message held accepted.0 accepted.1 is in
    ((if end.0.value then with_name name held else held), (end.0.value, (end.0, refl, end.1.0), refl))

in_order : AcceptedEnds → (defs : List ClassDef) (message : Seen) (held : List (List ℕ)) → IsMessage message → AllByRecursion IsAccepted defs → (names : List (List ℕ)) × JoinInOrder message defs held names
in_order accepted_ends [] message held is accepted = (held, refl)
in_order accepted_ends (def ∷ defs) message held is accepted =
    let first = one_step accepted_ends def.test message def.name held is accepted.0 in
    let rest = in_order accepted_ends defs message first.0 is accepted.1 in
    (rest.0, (first.0, first.1, rest.1))

pub accepted_held : AcceptedEnds → (message : Seen) (defs : List ClassDef) → IsMessage message → AllByRecursion IsAccepted defs → (names : List (List ℕ)) × HeldSet message defs names
accepted_held accepted_ends message defs is accepted = in_order accepted_ends defs message (base_names (value_of 60 message.options)) is accepted
