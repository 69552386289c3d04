-- From what clap says of a parse to the order that the arguments give.
use Rattle.std.proofs.Common.{◌≡◌, ◌⊎◌, ◌∙◌, sym, ap, ap₂, refl, subst, inl, inr, true, List, [], ◌∷◌, map, Option, Some, None, Result, Ok, Err}
use Rattle.std.proofs.Math.Path.{fun_ext}
use Rattle.std.specs.Result.{IfErr, IfOk}
use Rattle.std.specs.Prelude.{Box, String, option_map}
use Rattle.std.specs.List.{All}
use Rattle.std.specs.Str.{IsUtf8}
use Rattle.std.proofs.lemmas.List.Elements.{All-cons, All-nil}
use Rattle.std.proofs.lemmas.Str.{IsUtf8-string_bytes}
use Rattle.std.specs.Box.{box_value}
use Rattle.std.specs.String.{string_bytes}
use Rattle.clap.specs.Words.{found_of, first_value, rows_of, App, HasMatchesOf, IsAmong, Kinds, Row, Text, fault_of, first_of, is_simple, is_simple_and_free, subcommand_name_of, subcommand_of, subcommand_rows, subcommand_rows_of}
use Rattle.clap.specs.declared.error.kind.ErrorKind.{ErrorKind}
use Rattle.clap.specs.declared.error.kind.ErrorKind.TheVariants.{DisplayHelp, DisplayVersion, OutOfMemory}
use Rattle.clap.specs.declared.parser.matches.ArgMatches.{ArgMatches}
use Rattle.clap.specs.declared.parser.matches.ArgMatches.TheViews.{out-ArgMatches, out-SubCommand}
use Rattle.clap.specs.declared.parser.matches.SubCommand.{SubCommand}
use Rattle.clap.proofs.WalkLemmas.{first_value-rows}
use Rattle.clap.proofs.OnLiterals.{clap_on_literals}
use Rattle.kd_commands.specs.Order.{Asked, Asks, AsksFor, AsksGiven, GivesUnlessFull, HasFault, HelpsUnlessFull, IsVersionUnlessFull, asked_by, asked_of, command_line, given_by}
use Rattle.kd_commands.proofs.Lines.{one_asked}
use Rattle.kd_commands.specs.Steps.{AnswersKind, GivesIfThere}
use Rattle.kd_commands.specs.declared.fault.LineFault.{LineFault}
use Rattle.kd_commands.specs.declared.fault.LineFault.TheVariants.{CommandLine, Memory}
use Rattle.kd_commands.specs.declared.orders.Order.{Order}
use Rattle.kd_commands.specs.declared.orders.Order.TheVariants.{Help, Version, Show, Expr, Compile, Verify, Eval, EvalText, Check, Events, Import, Over, Test}

-- clap reports the matches of this command line, and the kinds of its faults
is_told : is_simple command_line ≡ true
unfolding clap_on_literals
is_told = refl

is_free : is_simple_and_free command_line ≡ true
unfolding clap_on_literals
is_free = refl

-- what a result must say of the arguments
pub record Answers (ws : List Text) (r : Result Order LineFault) : Type 0 where
  pub order : IfOk r (AsksFor ws)
  pub fault : IfErr r (HasFault ws)
  pub only : (asked : Asked) → Asks ws asked → GivesUnlessFull asked r
  pub help : fault_of command_line ws ≡ DisplayHelp ∷ [] → HelpsUnlessFull r
  pub version : fault_of command_line ws ≡ DisplayVersion ∷ [] → IsVersionUnlessFull r

-- a text is UTF-8
pub are_texts : {Z : Type 0} (ws : List (String Z)) → All IsUtf8 (map string_bytes ws)
are_texts [] = All-nil IsUtf8
are_texts (w ∷ ws) = All-cons IsUtf8 (string_bytes w) (map string_bytes ws) (IsUtf8-string_bytes w) (are_texts ws)

-- an order gives what the arguments ask for
asks_for : (ws : List Text) (order : Order) (asked : Asked) → given_by order ≡ Some asked → Asks ws asked → AsksFor ws order
asks_for ws (Help text) asked gives h = cc
asks_for ws Version asked gives h = cc
asks_for ws (Show hex names) asked gives h = subst (AsksGiven ws) (sym gives) h
asks_for ws (Expr text) asked gives h = subst (AsksGiven ws) (sym gives) h
asks_for ws (Compile text) asked gives h = subst (AsksGiven ws) (sym gives) h
asks_for ws (Verify hex) asked gives h = subst (AsksGiven ws) (sym gives) h
asks_for ws (Eval program datagram) asked gives h = subst (AsksGiven ws) (sym gives) h
asks_for ws (EvalText text datagram) asked gives h = subst (AsksGiven ws) (sym gives) h
asks_for ws (Over files work) asked gives h = subst (AsksGiven ws) (sym gives) h
asks_for ws (Import store) asked gives h = subst (AsksGiven ws) (sym gives) h
asks_for ws (Events mac address) asked gives h = subst (AsksGiven ws) (sym gives) h
asks_for ws (Test files) asked gives h = subst (AsksGiven ws) (sym gives) h
asks_for ws (Check files place) asked gives h = subst (AsksGiven ws) (sym gives) h

-- if memory runs out
memory_answers : (ws : List Text) → Answers ws (Err Memory)
memory_answers ws = record { order = tt; fault = tt; only = λ asked h. tt; help = λ h. tt; version = λ h. tt }

-- if clap finds no fault
pub at_matches : (ws : List Text) (o : Option Asked) (r : Result Order LineFault) → All IsUtf8 ws → fault_of command_line ws ≡ []
    → asked_of (subcommand_of command_line ws) ≡ o → GivesIfThere o r → Answers ws r
at_matches ws None (Ok order) texts none is gives = absurd gives
at_matches ws None (Err CommandLine) texts none is gives = record {
  order = tt;
  fault = inr (record { whole = none; entered = is });
  only = λ asked h. let bad : Some asked ≡ None = sym h.entered ∙ is in cc;
  help = λ h. let bad : DisplayHelp ∷ [] ≡ [] = sym h ∙ none in cc;
  version = λ h. let bad : DisplayVersion ∷ [] ≡ [] = sym h ∙ none in cc;
}
at_matches ws None (Err Memory) texts none is gives = memory_answers ws
at_matches ws (Some asked) (Ok order) texts none is gives =
    let here : Asks ws asked = record { whole = none; entered = is } in
    record {
      order = asks_for ws order asked gives here;
      fault = tt;
      only = λ other h. gives ∙ ap (λ x. Some x) (one_asked ws asked other here h);
      help = λ h. let bad : DisplayHelp ∷ [] ≡ [] = sym h ∙ none in cc;
      version = λ h. let bad : DisplayVersion ∷ [] ≡ [] = sym h ∙ none in cc;
    }
at_matches ws (Some asked) (Err CommandLine) texts none is gives = absurd gives
at_matches ws (Some asked) (Err Memory) texts none is gives = memory_answers ws

-- no kind is in an empty list
none_among : (k : ErrorKind) (ks : Kinds) → ks ≡ [] → IsAmong k ks → ⊥
none_among k ks is h = rw is at h

-- a lone kind is the only one
one_among : (k only : ErrorKind) (ks : Kinds) → ks ≡ only ∷ [] → IsAmong k ks → k ≡ only
one_among k only ks is h = elim (subst (IsAmong k) is h) [ inl same ↦ same | inr never ↦ absurd never ]

-- if clap's fault has this kind
pub at_kind : (ws : List Text) (k : ErrorKind) (r : Result Order LineFault)
    → ((k ≡ OutOfMemory) ⊎ IsAmong k (fault_of command_line ws)) → AnswersKind k r → Answers ws r
at_kind ws k (Ok (Help text)) (inl full) answers = let bad : DisplayHelp ≡ OutOfMemory = sym answers ∙ full in cc
at_kind ws k (Ok (Help text)) (inr among) answers = record {
  order = subst (λ x. IsAmong x (fault_of command_line ws)) answers among;
  fault = tt;
  only = λ asked h. absurd (none_among k (fault_of command_line ws) h.whole among);
  help = λ h. tt;
  version = λ h. let bad : DisplayHelp ≡ DisplayVersion = sym answers ∙ one_among k DisplayVersion (fault_of command_line ws) h among in cc;
}
at_kind ws k (Ok Version) (inl full) answers = let bad : DisplayVersion ≡ OutOfMemory = sym answers ∙ full in cc
at_kind ws k (Ok Version) (inr among) answers = record {
  order = subst (λ x. IsAmong x (fault_of command_line ws)) answers among;
  fault = tt;
  only = λ asked h. absurd (none_among k (fault_of command_line ws) h.whole among);
  help = λ h. let bad : DisplayVersion ≡ DisplayHelp = sym answers ∙ one_among k DisplayHelp (fault_of command_line ws) h among in cc;
  version = λ h. tt;
}
at_kind ws k (Ok order) h answers = absurd answers
at_kind ws k (Err CommandLine) (inl full) answers = absurd (answers.2 full)
at_kind ws k (Err CommandLine) (inr among) answers = record {
  order = tt;
  fault = inl (k, among, answers.0, answers.1);
  only = λ asked h. none_among k (fault_of command_line ws) h.whole among;
  help = λ h. answers.0 (one_among k DisplayHelp (fault_of command_line ws) h among);
  version = λ h. answers.1 (one_among k DisplayVersion (fault_of command_line ws) h among);
}
at_kind ws k (Err Memory) h answers = memory_answers ws

-- ---- the same, from a parse of a command line that is ours

pub from_matches : (a : App) (ws : List Text) (m : ArgMatches) (r : Result Order LineFault) → All IsUtf8 ws → a ≡ command_line
    → HasMatchesOf a ws m → (is_simple_and_free a ≡ true → fault_of a ws ≡ [])
    → GivesIfThere (asked_of (subcommand_rows_of m)) r → Answers ws r
from_matches a ws m r texts is matches none gives =
    let ours : HasMatchesOf command_line ws m = subst (λ x. HasMatchesOf x ws m) is matches in
    let whole : fault_of command_line ws ≡ [] = subst (λ x. is_simple_and_free x ≡ true → fault_of x ws ≡ []) is none is_free in
    at_matches ws (asked_of (subcommand_rows_of m)) r texts whole (sym (ap asked_of (ours is_told).1)) gives

pub from_error : (a : App) (ws : List Text) (k : ErrorKind) (r : Result Order LineFault) → a ≡ command_line
    → (is_simple_and_free a ≡ true → (k ≡ OutOfMemory) ⊎ IsAmong k (fault_of a ws))
    → AnswersKind k r → Answers ws r
from_error a ws k r is fails answers =
    at_kind ws k r (subst (λ x. is_simple_and_free x ≡ true → (k ≡ OutOfMemory) ⊎ IsAmong k (fault_of x ws)) is fails is_free) answers

-- ---- the subcommand

-- a parse names its subcommand as its rows do
names_in : {Z : Type 0} (o : Option (Box SubCommand Z))
    → option_map (λ p. p.0) (subcommand_rows o) ≡ option_map (λ b. (out-SubCommand (box_value b)).name.now) o
names_in None = refl
names_in (Some b) = refl

names : (m : ArgMatches) → option_map (λ p. p.0) (subcommand_rows_of m) ≡ subcommand_name_of m
names m = names_in (out-ArgMatches m).subcommand

-- what the subcommand that was entered asks for
pub at_entered : (m inner : ArgMatches) (name : Text) (r : Result Order LineFault) → Some name ≡ subcommand_name_of m
    → Some (rows_of (found_of inner)) ≡ option_map (λ p. p.1) (subcommand_rows_of m)
    → GivesIfThere (asked_by name (λ n. first_value (found_of inner) n)) r → GivesIfThere (asked_of (subcommand_rows_of m)) r
at_entered m inner name r named has gives =
    subst (λ o. GivesIfThere o r) (sym (go (subcommand_rows_of m) (named ∙ sym (names m)) has)) gives
  where
    go : (o : Option (Text × List Row)) → Some name ≡ option_map (λ p. p.0) o → Some (rows_of (found_of inner)) ≡ option_map (λ p. p.1) o
        → asked_of o ≡ asked_by name (λ n. first_value (found_of inner) n)
    go None n h = cc
    go (Some p) n h =
        let is_name : p.0 ≡ name = let same : Some name ≡ Some p.0 = n in cc in
        let is_rows : p.1 ≡ rows_of (found_of inner) = let same : Some (rows_of (found_of inner)) ≡ Some p.1 = h in cc in
        let text : (n : Text) → first_of n p.1 ≡ first_value (found_of inner) n = λ n. ap (first_of n) is_rows ∙ sym (first_value-rows (found_of inner) n) in
        ap₂ asked_by is_name (fun_ext text)
