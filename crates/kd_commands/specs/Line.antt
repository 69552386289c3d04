-- The command lines of the program in plain words: a subcommand of the table, and what the
-- arguments behind it give to the names of its parameters.
--
-- An option is `--name value`, where the value is no flag, or `--name=value`; a flag is `--name`. A
-- text that is no flag is for the next parameter that needs a text. These come in any order; from
-- `--` on all arguments are texts. No name is given twice, each one that is required is given, and
-- there are as many texts as parameters that need one.
use Rattle.std.specs.Prelude.{◌≡◌, ◌⊎◌, ◌==◌, Bool, false, List, [], ◌∷◌, ◌++◌, Option, Some, None, codes, if◌then◌else◌, unwrap_or}
use Rattle.std.specs.List.{AllByRecursion, IsDistinct, list_any}
use Rattle.std.specs.Map.{keys_of}
use Rattle.std.specs.Str.{bytes_eq}
use Rattle.clap.specs.Words.{Text}
use Rattle.kd_commands.specs.Order.{Asked, Parameter, asked_by, needs_text, needs_value, subcommand_table, takes_flag, takes_value}

-- a flag is a hyphen followed by more characters
abbrev pub is_flag : Text → Bool
is_flag [] = false
is_flag (b ∷ []) = false
is_flag (b ∷ c ∷ rest) = b == 45

-- it is one of these
abbrev pub IsOneOf : {A : Type 0} → A → List A → Type 0
IsOneOf it [] = ⊥
IsOneOf it (one ∷ others) = (it ≡ one) ⊎ IsOneOf it others

-- the arguments begin with this name: without a value, or with one in the same argument or in the
-- next, which must then not be a flag
abbrev pub BeginWith : Text → Option Text → List Text → List Text → Type 0
BeginWith name None words behind = words ≡ (codes "--" ++ name) ∷ behind
BeginWith name (Some value) words behind =
    (words ≡ (codes "--" ++ name ++ codes "=" ++ value) ∷ behind)
    ⊎ ((words ≡ (codes "--" ++ name) ∷ value ∷ behind) × (is_flag value ≡ false))

-- ---- the names of a subcommand's parameters

-- those that need a text, in the order of the texts
abbrev pub text_names : List Parameter → List Text
text_names [] = []
text_names (needs_text name ∷ parameters) = name ∷ text_names parameters
text_names (parameter ∷ parameters) = text_names parameters

-- those of options
abbrev pub value_names : List Parameter → List Text
value_names [] = []
value_names (takes_value name ∷ parameters) = name ∷ value_names parameters
value_names (needs_value name ∷ parameters) = name ∷ value_names parameters
value_names (parameter ∷ parameters) = value_names parameters

-- those of flags
abbrev pub flag_names : List Parameter → List Text
flag_names [] = []
flag_names (takes_flag name ∷ parameters) = name ∷ flag_names parameters
flag_names (parameter ∷ parameters) = flag_names parameters

-- those that are required
abbrev pub required_names : List Parameter → List Text
required_names [] = []
required_names (needs_text name ∷ parameters) = name ∷ required_names parameters
required_names (needs_value name ∷ parameters) = name ∷ required_names parameters
required_names (parameter ∷ parameters) = required_names parameters

-- ---- what the arguments behind a subcommand give

-- the first argument is a text for the first of these names
pub record FillsText (names words : List Text) (name : Text) (value : Option Text) : Type 0 where
  pub text : Text
  pub later : List Text
  pub behind : List Text
  pub first : names ≡ name ∷ later
  pub words_are : words ≡ text ∷ behind
  pub value_is : value ≡ Some text

-- the arguments are one text for each of these names, in turn
abbrev pub GiveTexts : List Text → List Text → List (Text × Option Text) → Type 0
GiveTexts names words [] = (names ≡ []) × (words ≡ [])
GiveTexts names words ((name, value) ∷ given) =
    (text : FillsText names words name value) × GiveTexts text.later text.behind given

-- an option of this name has a value, and a flag none
abbrev pub IsNamed : List Parameter → Text → Option Text → Type 0
IsNamed parameters name (Some value) = IsOneOf name (value_names parameters)
IsNamed parameters name None = IsOneOf name (flag_names parameters)

-- the arguments give these names their values, in this order, where these names still need a text:
-- first an option or a flag, or a text that is no flag; or `--` is first, and all after it are
-- texts
abbrev pub Give : List Parameter → List Text → List Text → List (Text × Option Text) → Type 0
Give parameters names words [] =
    (names ≡ []) × ((words ≡ []) ⊎ (words ≡ codes "--" ∷ []))
Give parameters names words ((name, value) ∷ given) =
    (IsNamed parameters name value
    × ((behind : List Text) × BeginWith name value words behind × Give parameters names behind given))
    ⊎ (((text : FillsText names words name value) × (is_flag text.text ≡ false)
    × Give parameters text.later text.behind given)
    ⊎ ((behind : List Text) × (words ≡ codes "--" ∷ behind)
    × GiveTexts names behind ((name, value) ∷ given)))

-- the value that is given to a name, if any
abbrev pub value_given : Text → List (Text × Option Text) → Option (Option Text)
value_given name [] = None
value_given name (g ∷ given) = if bytes_eq g.0 name then Some g.1 else value_given name given

-- the text of a name by its value, or a standard text if it has none
abbrev pub text_or : Option Text → Option (Option Text) → Option Text
text_or standard None = standard
text_or standard (Some value) = Some (unwrap_or value (codes "true"))

-- the text of a name: its value, `true` for a flag that is given, `false` for a flag that is not
abbrev pub text_in : List Parameter → List (Text × Option Text) → Text → Option Text
text_in parameters given name = text_or
    (if list_any (λ flag. bytes_eq flag name) (flag_names parameters) then Some (codes "false")
    else None)
    (value_given name given)

-- the arguments are a line that asks for this
pub record IsLine (words : List Text) (asked : Asked) : Type 0 where
  pub name : Text
  pub parameters : List Parameter
  pub behind : List Text
  pub given : List (Text × Option Text)
  pub listed : IsOneOf (name, parameters) subcommand_table
  pub words_are : words ≡ name ∷ behind
  pub gives : Give parameters (text_names parameters) behind given
  pub once : IsDistinct bytes_eq (keys_of given)
  pub required : AllByRecursion (λ it. IsOneOf it (keys_of given)) (required_names parameters)
  pub asks : asked_by name (text_in parameters given) ≡ Some asked

-- ---- help and the version

-- the flag that asks for help
abbrev pub IsHelpFlag : Text → Type 0
IsHelpFlag word = (word ≡ codes "--help") ⊎ (word ≡ codes "-h")

-- the arguments ask for help at the start, for the whole program or for a subcommand, whatever
-- follows
abbrev pub IsHelpLine : List Text → Type 0
IsHelpLine [] = ⊥
IsHelpLine (word ∷ []) = IsHelpFlag word
IsHelpLine (word ∷ next ∷ behind) = IsHelpFlag word ⊎ (IsOneOf word (keys_of subcommand_table) × IsHelpFlag next)

-- the flag that asks for the version
abbrev pub IsVersionFlag : Text → Type 0
IsVersionFlag word = (word ≡ codes "--version") ⊎ (word ≡ codes "-V")

-- the arguments ask for the version at the start, whatever follows
abbrev pub IsVersionLine : List Text → Type 0
IsVersionLine [] = ⊥
IsVersionLine (word ∷ behind) = IsVersionFlag word
