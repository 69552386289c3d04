-- Which arguments are a line of the program.
use Rattle.std.proofs.Common.{◌≡◌, ◌∙◌, sym, ap, subst, inl, inr, List, [], ◌∷◌, Some}
use Rattle.std.proofs.Math.Path.{fun_ext}
use Rattle.std.specs.List.{All}
use Rattle.std.specs.Str.{IsUtf8}
use Rattle.std.proofs.lemmas.List.Elements.{All-tail}
use Rattle.clap.specs.Words.{Text, fault_of, first_of, subcommand_of}
use Rattle.clap.specs.declared.error.kind.ErrorKind.TheVariants.{DisplayHelp, DisplayVersion}
use Rattle.kd_commands.specs.Line.{IsHelpLine, IsOneOf, IsLine, IsVersionLine, required_names, text_in}
use Rattle.kd_commands.specs.Order.{Asked, Asks, Parameter, asked_by, asked_of, command_line, subcommand_table}
use Rattle.kd_commands.proofs.Gives.{Passes, all_there, giving_passes, passing_gives}
use Rattle.kd_commands.proofs.Held.{Value}
use Rattle.kd_commands.proofs.Level.{level, start}
use Rattle.kd_commands.proofs.Rules.{AreTheRules, rules_from, text_found, the_rules}
use Rattle.kd_commands.proofs.Top.{IsSub, begins, entry_sound, entry_sub, helps_first, helps_second, line_fault, line_found, name_is_entry, sub_built, versions_first}

-- arguments ask for one thing
pub one_asked : (ws : List Text) (a b : Asked) → Asks ws a → Asks ws b → a ≡ b
one_asked ws a b x y = let same : Some a ≡ Some b = sym x.entered ∙ y.entered in cc

module _ (name : Text) (ps : List Parameter) (one : IsOneOf (name, ps) subcommand_table) where
  own_rules : AreTheRules ps (rules_from 1 ps)
  own_rules = the_rules ps (entry_sound name ps one)

  sub : IsSub name (sub_built (name, ps))
  sub = entry_sub name ps one

  -- what is asked for, from what is found
  asked_is : (behind : List Text) (given : List (Text × Value)) → Passes name ps (rules_from 1 ps) own_rules start behind given
      → asked_of (subcommand_of command_line (name ∷ behind)) ≡ asked_by name (text_in ps given)
  asked_is behind given passes =
      ap asked_of (line_found name (sub_built (name, ps)) behind sub)
      ∙ ap (λ rows. asked_by name (λ n. first_of n rows)) passes.rows
      ∙ ap (asked_by name) (fun_ext (text_found 1 ps given))

-- by clap, a line asks for what it asks for in plain words
pub clap_from_line : (ws : List Text) (asked : Asked) → IsLine ws asked → Asks ws asked
clap_from_line ws asked line =
    let name = line.name in
    let ps = line.parameters in
    let own = own_rules name ps line.listed in
    let passes = giving_passes name ps (rules_from 1 ps) own line.behind line.given line.once line.required line.gives in
    subst (λ x. Asks x asked) (sym line.words_are) (record {
      whole = line_fault name (sub_built (name, ps)) line.behind (sub name ps line.listed) ∙ passes.whole;
      entered = asked_is name ps line.listed line.behind line.given passes ∙ line.asks;
    })

-- arguments ask in plain words for what they ask for by clap
pub line_from_clap : (ws : List Text) (asked : Asked) → All IsUtf8 ws → Asks ws asked → IsLine ws asked
line_from_clap ws asked texts h =
    let first = begins ws texts h.whole in
    let name = first.0 in
    let rest = first.1 in
    let entry = name_is_entry name subcommand_table first.2 in
    let ps = entry.0 in
    let own = own_rules name ps entry.1 in
    let utf8 = All-tail IsUtf8 name rest (subst (All IsUtf8) first.3 texts) in
    let here : Asks (name ∷ rest) asked = subst (λ x. Asks x asked) first.3 h in
    let whole : level (sub_built (name, ps)) start rest ≡ [] = sym (line_fault name (sub_built (name, ps)) rest (sub name ps entry.1)) ∙ here.whole in
    let read = passing_gives name ps (rules_from 1 ps) own rest utf8 whole in
    let among = all_there (required_names ps) read.given read.enough in
    let passes = giving_passes name ps (rules_from 1 ps) own rest read.given read.apart among read.gives in
    record {
      name = name;
      parameters = ps;
      behind = rest;
      given = read.given;
      listed = entry.1;
      words_are = first.3;
      gives = read.gives;
      once = read.apart;
      required = among;
      asks = sym (asked_is name ps entry.1 rest read.given passes) ∙ here.entered;
    }

-- arguments that ask for help at the start fail only by that
pub help_line : (ws : List Text) → IsHelpLine ws → fault_of command_line ws ≡ DisplayHelp ∷ []
help_line [] h = absurd h
help_line (w ∷ []) h = helps_first w [] h
help_line (w ∷ next ∷ rest) (inl h) = helps_first w (next ∷ rest) h
help_line (w ∷ next ∷ rest) (inr h) = helps_second w next rest h.0 h.1

-- and those that ask for the version
pub version_line : (ws : List Text) → IsVersionLine ws → fault_of command_line ws ≡ DisplayVersion ∷ []
version_line [] h = absurd h
version_line (w ∷ rest) h = versions_first w rest h
