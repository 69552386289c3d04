-- What a command has once an argument or a subcommand is added to it.
use Rattle.std.proofs.Common.{◌≡◌, ◌∙◌, ℕ, ◌+◌, ◌<◌, ◌++◌, ap, ap₂, refl, false, List, [], ◌∷◌, get_or, length, map, take}
use Rattle.std.specs.Prelude.{fold}
use Rattle.std.proofs.lemmas.List.{map-append, take_more}
use Rattle.std.proofs.Math.Bool.{or-false}
use Rattle.clap.specs.Words.{AddsArg, AddsSubcommand, App, Rule, Text, app_of, new_app, rule_of, with_rule, with_subcommand}
use Rattle.clap.specs.Simple.{on_top}
use Rattle.clap.specs.declared.builder.arg.Arg.{Arg}
use Rattle.kd_commands.specs.Arguments.{entry_of, parameter_of}
use Rattle.kd_commands.specs.Order.{parameter_rule, subcommand_line, with_entry}
use Rattle.kd_commands.specs.declared.argument.Argument.{Argument}
use Rattle.kd_commands.specs.declared.line.Subcommand.{Subcommand}
use Rattle.clap.specs.declared.builder.command.Command.{Command}
use Rattle.clap.specs.declared.builder.command.Command.TheViews.{out-Command}

-- an argument that is not global adds its rule
pub argument_added : (old : Command) (arg : Arg) (new : Command) (a : App) (r : Rule) → AddsArg old arg new → arg.global ≡ false
    → app_of old ≡ a → rule_of arg ≡ r → app_of new ≡ with_rule a r
argument_added old arg new a r adds local is rule = adds.shape local ∙ ap₂ with_rule is rule

-- and leaves as many global ones
pub no_more_globals : (old : Command) (arg : Arg) (new : Command) → AddsArg old arg new → arg.global ≡ false
    → (out-Command new).has_globals ≡ (out-Command old).has_globals
no_more_globals old arg new adds local = adds.globals ∙ rw (local, or-false) refl

-- a subcommand with no global argument adds its shape
pub subcommand_added : (old sub new : Command) (a s : App) → AddsSubcommand old sub new → (out-Command sub).has_globals ≡ false
    → app_of old ≡ a → app_of sub ≡ s → app_of new ≡ with_subcommand a s.top
subcommand_added old sub new a s adds local is shape = adds.shape local ∙ ap₂ with_subcommand is (ap (λ x. x.top) shape)

-- ---- one more of a list

fold_push : {X Y : Type 0} (f : Y → X → Y) (a : Y) (xs : List X) (x : X) → fold f a (xs ++ x ∷ []) ≡ f (fold f a xs) x
fold_push f a [] x = refl
fold_push f a (y ∷ xs) x = fold_push f (f a y) xs x

pub one_more : (a : App) (xs : List Subcommand) (i : ℕ) (d : Subcommand) → i < length xs
    → fold with_entry a (map entry_of (take (i + 1) xs)) ≡ with_entry (fold with_entry a (map entry_of (take i xs))) (entry_of (get_or xs i d))
one_more a xs i d less =
    ap (λ l. fold with_entry a (map entry_of l)) (take_more xs i d less)
    ∙ ap (fold with_entry a) (map-append entry_of (take i xs) (get_or xs i d ∷ []))
    ∙ fold_push with_entry a (map entry_of (take i xs)) (entry_of (get_or xs i d))

pub one_rule_more : (name : Text) (xs : List Argument) (i : ℕ) (d : Argument) → i < length xs
    → subcommand_line (name, map parameter_of (take (i + 1) xs))
    ≡ with_rule (subcommand_line (name, map parameter_of (take i xs))) (parameter_rule (parameter_of (get_or xs i d)))
one_rule_more name xs i d less =
    ap (λ l. subcommand_line (name, l)) (ap (map parameter_of) (take_more xs i d less) ∙ map-append parameter_of (take i xs) (get_or xs i d ∷ []))
    ∙ ap (λ rules. on_top (λ s. record s { rules = rules }) (new_app name)) (map-append parameter_rule (map parameter_of (take i xs)) (parameter_of (get_or xs i d) ∷ []))
