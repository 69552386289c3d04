-- The walk of clap over the arguments after a subcommand, whichever it is.
use Rattle.std.proofs.Common.{◌≡◌, ◌∙◌, ap, false, true, List, [], ◌∷◌}
use Rattle.std.specs.Prelude.{fold}
use Rattle.clap.specs.Words.{App, Kinds, Row, Shape, Text}
use Rattle.clap.specs.Kinds.{or_else}
use Rattle.clap.specs.Walk.{Walk, finished, nothing_held, settled, walk_from, walked}
use Rattle.clap.specs.Simple.{built_leaf, inherited, marked_built, with_leaf_noted}
use Rattle.clap.specs.Faults.{check_fault, defaults_fault, settle_fault, turn_fault, walk_fault}
use Rattle.kd_commands.specs.Order.{command_line}
use Rattle.kd_commands.proofs.Flags.{neither}

-- a subcommand as clap builds it
abbrev pub leaf : App → Shape
leaf a = built_leaf (inherited (with_leaf_noted (marked_built command_line.top)) a.top)

-- before the first argument, and after `--`
abbrev pub start : Walk
start = walk_from nothing_held

abbrev pub dashed : Walk
dashed = record start { is_trailing = true }

-- the faults of the arguments from here on
abbrev pub after : Shape → Walk → Kinds
after s w = or_else (settle_fault s.rules s.args_override_self w.held)
    (or_else (defaults_fault (settled s.rules w.held).rows s.rules) (check_fault s (finished s.rules w.held) false))

abbrev pub level : Shape → Walk → List Text → Kinds
level s w rest = or_else (walk_fault s [] w rest) (after s (fold (walked s.rules []) w rest))

-- what is found by the end of the arguments from here on
abbrev pub found : Shape → Walk → List Text → List Row
found s w rest = finished s.rules (fold (walked s.rules []) w rest).held

-- arguments pass where the first does and those after it do
pub step_down : (s : Shape) (w : Walk) (a : Text) (rest : List Text) → level s w (a ∷ rest) ≡ []
    → (turn_fault s [] w a ≡ []) × (level s (walked s.rules [] w a) rest ≡ [])
unfolding walk_fault
step_down s w a rest none =
    let whole = neither (or_else (turn_fault s [] w a) (walk_fault s [] (walked s.rules [] w a) rest)) (after s (fold (walked s.rules []) (walked s.rules [] w a) rest)) none in
    let first = neither (turn_fault s [] w a) (walk_fault s [] (walked s.rules [] w a) rest) whole.0 in
    (first.0, ap (λ x. or_else x (after s (fold (walked s.rules []) (walked s.rules [] w a) rest))) first.1 ∙ whole.1)

pub step_up : (s : Shape) (w v : Walk) (a : Text) (rest : List Text) → turn_fault s [] w a ≡ [] → walked s.rules [] w a ≡ v
    → level s v rest ≡ [] → level s w (a ∷ rest) ≡ []
unfolding walk_fault
step_up s w v a rest turn to none =
    ap (λ x. or_else (or_else x (walk_fault s [] (walked s.rules [] w a) rest)) (after s (fold (walked s.rules []) (walked s.rules [] w a) rest))) turn
    ∙ ap (λ x. level s x rest) to ∙ none
