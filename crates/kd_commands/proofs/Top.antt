-- clap's walk over the arguments from the first on: which subcommand the first argument names, and
-- that a line fails as the arguments after the subcommand do.
use Rattle.std.proofs.Common.{◌≡◌, ◌⊎◌, ◌∙◌, ◌++◌, sym, ap, ap₂, refl, subst, inl, inr, true, false, Bool, List, [], ◌∷◌, codes, Option, Some, None, append_assoc, is_some, map}
use Rattle.std.specs.Prelude.{find, fold, option_map}
use Rattle.std.specs.List.{All, IsDistinct, list_all}
use Rattle.std.specs.Str.{bytes_eq, IsUtf8}
use Rattle.std.proofs.lemmas.List.{append-nil}
use Rattle.std.proofs.lemmas.List.Elements.{All-head}
use Rattle.std.proofs.lemmas.Slice.Eq.{bytes_eq-Decides}
use Rattle.clap.specs.Words.{Kinds, Rule, Shape, Text, built, fault_of, subcommand_of}
use Rattle.clap.specs.Kinds.{or_else}
use Rattle.clap.specs.Walk.{Names, Walk, answers_to, arg_by_long, arg_by_short, finished, idle, nothing_held, settled, subcommand_met, subcommand_or_other, walked}
use Rattle.clap.specs.Simple.{built_leaf, entered, filled_from, help_rule, help_shape, label_of, names_of}
use Rattle.clap.specs.Faults.{check_fault, defaults_fault, entered_fault, other_fault, settle_fault, step_fault, turn_fault, walk_fault}
use Rattle.clap.specs.declared.error.kind.ErrorKind.TheVariants.{DisplayHelp, DisplayVersion, InvalidSubcommand, MissingSubcommand, UnknownArgument}
use Rattle.clap.proofs.FaultLemmas.{stopped_fault}
use Rattle.clap.proofs.OnLiterals.{clap_on_literals}
use Rattle.std.specs.Map.{keys_of}
use Rattle.kd_commands.specs.Line.{IsHelpFlag, IsOneOf, IsVersionFlag, is_flag}
use Rattle.kd_commands.specs.Order.{Parameter, command_line, parameter_rule, subcommand_table}
use Rattle.kd_commands.proofs.Apart.{flips, one_has}
use Rattle.kd_commands.proofs.Gives.{shape_with}
use Rattle.kd_commands.proofs.Rules.{IsSound, are_built, are_distinct, help_long, help_short, is_sound, rules_from, same, sound_is}
use Rattle.kd_commands.proofs.Flags.{FlagsFail, both_fail, help_built, neither, no_dashes, no_flag, no_long, no_short, then_none}
use Rattle.kd_commands.proofs.Level.{dashed, found, level, start}

abbrev top : Shape
top = (built command_line).top

abbrev names : Names
names = names_of (built command_line)

top_flags : FlagsFail top.rules
top_flags = both_fail top.rules (λ name. refl) (λ x. refl)

-- the faults of the command line, from those of the walk and from where it ends
abbrev in_all : Kinds → Walk → Kinds
in_all ks w = or_else ks (or_else (entered_fault (built command_line) w.stopped)
    (or_else (settle_fault top.rules false w.held)
    (or_else (defaults_fault (settled top.rules w.held).rows top.rules)
    (check_fault top (finished top.rules w.held) (is_some (entered (built command_line) w.stopped))))))

-- ---- a line of a subcommand

-- the subcommand of this name, as clap builds it
pub record IsSub (name : Text) (s : Shape) : Type 0 where
  pub met : subcommand_met names idle name ≡ Some name
  pub ours : bytes_eq name (codes "help") ≡ false
  pub found : find (λ x. answers_to name (label_of x)) (built command_line).subs ≡ Some s

abbrev stop : Text → List Text → Walk
stop name rest = record start { stopped = Some (name, rest) }

-- the walk over the arguments after a subcommand only keeps them
stopped_walk : (rest : List Text) (p : Text × List Text)
    → fold (walked top.rules names) (stop p.0 p.1) rest ≡ stop p.0 (p.1 ++ rest)
unfolding walked
stopped_walk [] p = ap (λ xs. stop p.0 xs) (sym (append-nil p.1))
stopped_walk (x ∷ rest) p = stopped_walk rest (p.0, p.1 ++ x ∷ []) ∙ ap (λ xs. stop p.0 xs) (append_assoc p.1 (x ∷ []) rest)

-- the walk stops at the name
to_stop : (name : Text) (s : Shape) → IsSub name s → walked top.rules names start name ≡ stop name []
unfolding walked
to_stop name s sub = rw sub.met refl

at_stop : (name : Text) (s : Shape) → IsSub name s → turn_fault top names start name ≡ []
at_stop name s sub = rw (sub.met, sub.ours) refl

to_end : (name : Text) (s : Shape) (rest : List Text) → IsSub name s
    → fold (walked top.rules names) start (name ∷ rest) ≡ stop name rest
to_end name s rest sub = ap (λ w. fold (walked top.rules names) w rest) (to_stop name s sub) ∙ stopped_walk rest (name, [])

passes_by : (name : Text) (s : Shape) (rest : List Text) → IsSub name s → walk_fault top names start (name ∷ rest) ≡ []
unfolding walk_fault
passes_by name s rest sub =
    ap₂ or_else (at_stop name s sub) (ap (λ w. walk_fault top names w rest) (to_stop name s sub) ∙ stopped_fault top names start (name, []) rest)

-- a line of the subcommand fails as the arguments after the name do
pub line_fault : (name : Text) (s : Shape) (rest : List Text) → IsSub name s → fault_of command_line (name ∷ rest) ≡ level s start rest
unfolding defaults_fault
line_fault name s rest sub =
    let at_end : in_all [] (stop name rest) ≡ or_else (level s start rest) [] = rw sub.found refl in
    ap₂ in_all (passes_by name s rest sub) (to_end name s rest sub) ∙ at_end ∙ then_none (level s start rest)

-- and has what is found there
pub line_found : (name : Text) (s : Shape) (rest : List Text) → IsSub name s
    → subcommand_of command_line (name ∷ rest) ≡ Some (s.name, found s start rest)
line_found name s rest sub =
    let at_end : entered (built command_line) (Some (name, rest)) ≡ Some (s.name, found s start rest) = rw sub.found refl in
    ap (λ w. entered (built command_line) w.stopped) (to_end name s rest sub) ∙ at_end

-- ---- the first argument

-- which of these names an argument is
abbrev met_of : List Text → Text → Option Text
met_of ns w = option_map (λ s. s.0) (find (answers_to w) (map (λ n. (n, [])) ns))

met : (ns : List Text) (w : Text) → (met_of ns w ≡ None) ⊎ ((met_of ns w ≡ Some w) × IsOneOf w ns)
met [] w = inl refl
met (n ∷ ns) w = go (bytes_eq n w) refl (met ns w)
  where
    go : (t : Bool) → bytes_eq n w ≡ t → (met_of ns w ≡ None) ⊎ ((met_of ns w ≡ Some w) × IsOneOf w ns)
        → (met_of (n ∷ ns) w ≡ None) ⊎ ((met_of (n ∷ ns) w ≡ Some w) × IsOneOf w (n ∷ ns))
    go true e more =
        let is : n ≡ w = (bytes_eq-Decides n w).0 e in
        inr (rw e (ap (λ x. Some x) is), inl (sym is))
    go false e (inl none) = inl (rw e none)
    go false e (inr one) = inr (rw e one.0, inr one.1)

-- the last of some names, or one before it
but_last : (ns : List Text) (last w : Text) → IsOneOf w (ns ++ last ∷ []) → IsOneOf w ns ⊎ (w ≡ last)
but_last [] last w (inl is) = inr is
but_last [] last w (inr never) = absurd never
but_last (n ∷ ns) last w (inl is) = inl (inl is)
but_last (n ∷ ns) last w (inr more) = elim (but_last ns last w more) [
  | inl before ↦ inl (inr before)
  | inr is ↦ inr is
]

-- the faults of a first argument that names this subcommand
abbrev turn_by : Text → Option Text → Kinds
turn_by w m = or_else (other_fault top m w nothing_held)
    (step_fault top 1 (subcommand_or_other top.rules m idle 1 w nothing_held).0 (subcommand_or_other top.rules m idle 1 w nothing_held).1)

stray_first : (w : Text) → is_flag w ≡ false → turn_by w None ≡ UnknownArgument ∷ InvalidSubcommand ∷ []
stray_first w h = rw (no_dashes w h, no_long w h, no_short w h) refl

-- `--` first, and no argument after it passes
dashes_fail : (rest : List Text) → in_all (walk_fault top names dashed rest) (fold (walked top.rules names) dashed rest) ≡ [] → ⊥
unfolding walk_fault defaults_fault
dashes_fail [] none = let bad : MissingSubcommand ∷ [] ≡ [] = none in cc
dashes_fail (x ∷ rest) none =
    let bad : UnknownArgument ∷ InvalidSubcommand ∷ [] ≡ [] = none in
    cc

first_dashes : (rest : List Text) → fault_of command_line (codes "--" ∷ rest) ≡ [] → ⊥
unfolding walk_fault defaults_fault walked
first_dashes rest none = dashes_fail rest none

-- arguments that do not fail begin with the name of a subcommand
pub begins : (ws : List Text) → All IsUtf8 ws → fault_of command_line ws ≡ [] → (w : Text) × (rest : List Text) × IsOneOf w (keys_of subcommand_table) × (ws ≡ w ∷ rest)
unfolding walk_fault defaults_fault
begins [] text none = let bad : MissingSubcommand ∷ [] ≡ [] = none in cc
begins (w ∷ rest) text none =
    let parts = neither (or_else (turn_fault top names start w) (walk_fault top names (walked top.rules names start w) rest)) _ none in
    let turns : turn_by w (subcommand_met names idle w) ≡ [] =
    (neither (turn_fault top names start w) (walk_fault top names (walked top.rules names start w) rest) parts.0).0 in
    elim (met (keys_of subcommand_table ++ codes "help" ∷ []) w) [
      | inl other ↦
          let turn : turn_by w None ≡ [] = sym (ap (turn_by w) other) ∙ turns in
          elim (no_flag top.rules top_flags w nothing_held refl (All-head IsUtf8 w rest text) (neither _ _ turn).0) [
            | inl dashes ↦ absurd (first_dashes rest (subst (λ x. fault_of command_line (x ∷ rest) ≡ []) dashes none))
            | inr plain ↦
                let bad : UnknownArgument ∷ InvalidSubcommand ∷ [] ≡ [] = sym (stray_first w plain) ∙ turn in
                cc
          ]
      | inr named ↦ elim (but_last (keys_of subcommand_table) (codes "help") w named.1) [
        | inl ours ↦ (w, rest, ours, refl)
        | inr help ↦
            let here : turn_by w (Some (codes "help")) ≡ [] = sym (ap (turn_by w) (named.0 ∙ ap (λ x. Some x) help)) ∙ turns in
            let bad : DisplayHelp ∷ InvalidSubcommand ∷ [] ≡ [] = here in
            cc
      ]
    ]

-- ---- the subcommands of the table

-- a subcommand of the table, as clap builds it
abbrev pub sub_built : Text × List Parameter → Shape
sub_built e = shape_with e.0 (rules_from 1 e.1)

abbrev sub_filled : Text × List Parameter → Shape
sub_filled e = shape_with e.0 (filled_from 1 (map parameter_rule e.1 ++ help_rule ∷ []))

filled_is : (e : Text × List Parameter) → sub_filled e ≡ sub_built e
filled_is e = ap (shape_with e.0) (are_built 1 e.1)

all_filled : (es : List (Text × List Parameter)) → map sub_filled es ≡ map sub_built es
all_filled [] = refl
all_filled (e ∷ es) = ap₂ (λ x l. x ∷ l) (filled_is e) (all_filled es)

abbrev help_sub : Shape
help_sub = built_leaf help_shape

subs_are : (built command_line).subs ≡ map sub_filled subcommand_table ++ help_sub ∷ []
subs_are = refl

entry_is_name : (e : Text × List Parameter) (es : List (Text × List Parameter)) → IsOneOf e es → IsOneOf e.0 (keys_of es)
entry_is_name e [] one = one
entry_is_name e (f ∷ es) (inl is) = inl (ap (λ x. x.0) is)
entry_is_name e (f ∷ es) (inr later) = inr (entry_is_name e es later)

-- a name of the table is that of one of its subcommands
pub name_is_entry : (w : Text) (es : List (Text × List Parameter)) → IsOneOf w (keys_of es) → (ps : List Parameter) × IsOneOf (w, ps) es
name_is_entry w [] one = absurd one
name_is_entry w (f ∷ es) (inl is) = (f.1, inl (ap (λ x. (x, f.1)) is))
name_is_entry w (f ∷ es) (inr later) =
    let more = name_is_entry w es later in
    (more.0, inr more.1)

find_entry : (e : Text × List Parameter) (es : List (Text × List Parameter)) (others : List Shape) → IsDistinct bytes_eq (keys_of es) → IsOneOf e es
    → find (λ x. answers_to e.0 (label_of x)) (map sub_built es ++ others) ≡ Some (sub_built e)
unfolding IsDistinct
find_entry e [] others apart one = absurd one
find_entry e (f ∷ es) others apart (inl is) =
    let own : find (λ x. answers_to f.0 (label_of x)) (map sub_built (f ∷ es) ++ others) ≡ Some (sub_built f) = rw (same f.0) refl in
    subst (λ x. find (λ y. answers_to x.0 (label_of y)) (map sub_built (f ∷ es) ++ others) ≡ Some (sub_built x)) (sym is) own
find_entry e (f ∷ es) others apart (inr later) =
    let other = one_has (λ y. bytes_eq f.0 y ≡ false) e.0 (keys_of es) apart.0 (entry_is_name e es later) in
    rw other (find_entry e es others apart.1 later)

-- the names of the table differ, also from `help`
table_apart : IsDistinct bytes_eq (codes "help" ∷ keys_of subcommand_table)
table_apart = are_distinct (codes "help" ∷ keys_of subcommand_table) refl

met_some : (ns : List Text) (w : Text) → IsOneOf w ns → met_of ns w ≡ Some w
met_some [] w one = absurd one
met_some (n ∷ ns) w one = go (bytes_eq n w) refl one (met_some ns w)
  where
    go : (t : Bool) → bytes_eq n w ≡ t → IsOneOf w (n ∷ ns) → (IsOneOf w ns → met_of ns w ≡ Some w) → met_of (n ∷ ns) w ≡ Some w
    go true e any more = rw e (ap (λ x. Some x) ((bytes_eq-Decides n w).0 e))
    go false e (inl is) more = let bad : true ≡ false = sym ((bytes_eq-Decides n w).1 (sym is)) ∙ e in cc
    go false e (inr later) more = rw e (more later)

one_left : (w : Text) (ns ms : List Text) → IsOneOf w ns → IsOneOf w (ns ++ ms)
one_left w [] ms one = absurd one
one_left w (n ∷ ns) ms (inl is) = inl is
one_left w (n ∷ ns) ms (inr later) = inr (one_left w ns ms later)

pub entry_sub : (name : Text) (ps : List Parameter) → IsOneOf (name, ps) subcommand_table → IsSub name (sub_built (name, ps))
unfolding IsDistinct
entry_sub name ps one =
    let listed = entry_is_name (name, ps) subcommand_table one in
    let all : (built command_line).subs ≡ map sub_built subcommand_table ++ help_sub ∷ [] = subs_are ∙ ap (λ l. l ++ help_sub ∷ []) (all_filled subcommand_table) in
    record {
      met = met_some (keys_of subcommand_table ++ codes "help" ∷ []) name (one_left name (keys_of subcommand_table) (codes "help" ∷ []) listed);
      ours = flips (codes "help") name (one_has (λ y. bytes_eq (codes "help") y ≡ false) name (keys_of subcommand_table) table_apart.0 listed);
      found = ap (λ l. find (λ x. answers_to name (label_of x)) l) all ∙ find_entry (name, ps) subcommand_table (help_sub ∷ []) table_apart.1 one;
    }

abbrev all_sound : List (Text × List Parameter) → Bool
all_sound es = list_all (λ e. is_sound e.1) es

table_sound : all_sound subcommand_table ≡ true
table_sound = refl

sound_entry : (e : Text × List Parameter) (es : List (Text × List Parameter)) → all_sound es ≡ true → IsOneOf e es → is_sound e.1 ≡ true
sound_entry e [] sound one = absurd one
sound_entry e (f ∷ es) sound one = go (is_sound f.1) refl one (sound_entry e es)
  where
    go : (b : Bool) → is_sound f.1 ≡ b → IsOneOf e (f ∷ es) → (all_sound es ≡ true → IsOneOf e es → is_sound e.1 ≡ true) → is_sound e.1 ≡ true
    go true h (inl is) more = ap (λ x. is_sound x.1) is ∙ h
    go true h (inr later) more =
        let rest : all_sound es ≡ true = rw h at sound in
        more rest later
    go false h any more = let bad : false ≡ true = rw h at sound in cc

pub entry_sound : (name : Text) (ps : List Parameter) → IsOneOf (name, ps) subcommand_table → IsSound ps
entry_sound name ps one = sound_is ps (sound_entry (name, ps) subcommand_table table_sound one)

-- ---- help and version

-- a first argument that asks for help
pub helps_first : (w : Text) (rest : List Text) → IsHelpFlag w → fault_of command_line (w ∷ rest) ≡ DisplayHelp ∷ []
unfolding clap_on_literals
helps_first w rest (inl is) = ap (λ x. fault_of command_line (x ∷ rest)) is
helps_first w rest (inr is) = ap (λ x. fault_of command_line (x ∷ rest)) is

-- and one that asks for the version
pub versions_first : (w : Text) (rest : List Text) → IsVersionFlag w → fault_of command_line (w ∷ rest) ≡ DisplayVersion ∷ []
unfolding clap_on_literals
versions_first w rest (inl is) = ap (λ x. fault_of command_line (x ∷ rest)) is
versions_first w rest (inr is) = ap (λ x. fault_of command_line (x ∷ rest)) is

-- a line that goes on with a flag for help fails only by that
asks_long : (name : Text) (c : List Rule) (rest : List Text) → arg_by_long c (codes "help") ≡ Some help_built
    → level (shape_with name c) start (codes "--help" ∷ rest) ≡ DisplayHelp ∷ []
unfolding clap_on_literals
asks_long name c rest has = rw has refl

asks_short : (name : Text) (c : List Rule) (rest : List Text) → arg_by_short c 104 ≡ Some help_built
    → level (shape_with name c) start (codes "-h" ∷ rest) ≡ DisplayHelp ∷ []
unfolding clap_on_literals
asks_short name c rest has = rw has refl

pub helps_second : (name next : Text) (rest : List Text) → IsOneOf name (keys_of subcommand_table) → IsHelpFlag next
    → fault_of command_line (name ∷ next ∷ rest) ≡ DisplayHelp ∷ []
helps_second name next rest one flag =
    let entry = name_is_entry name subcommand_table one in
    let ps = entry.0 in
    let sub = entry_sub name ps entry.1 in
    let sound = entry_sound name ps entry.1 in
    line_fault name (sub_built (name, ps)) (next ∷ rest) sub ∙ (elim flag [
      | inl is ↦ ap (λ x. level (sub_built (name, ps)) start (x ∷ rest)) is ∙ asks_long name (rules_from 1 ps) rest (help_long 1 ps sound.no_help)
      | inr is ↦ ap (λ x. level (sub_built (name, ps)) start (x ∷ rest)) is ∙ asks_short name (rules_from 1 ps) rest (help_short 1 ps)
    ])
