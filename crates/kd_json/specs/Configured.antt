-- The configuration that a text describes, together with token files (our own format): its settings
-- and, for each class's test, a program that its text compiles to or that its token file contains.
use Rattle.std.specs.Prelude.{◌≡◌, ℕ, List, [], ◌∷◌, bytes_eq, Option, Some, None, option_map, Ok}
use Rattle.std.specs.List.{find}
use Rattle.kd_classes.specs.Order.{AreInOrder}
use Rattle.kd_classes.specs.declared.definition.ClassDef.{ClassDef}
use Rattle.kd_compile.specs.Compiled.{IsCompiled, first_over}
use Rattle.kd_config.specs.Configuration.{Configuration}
use Rattle.kd_json.specs.Document.{accepted_settings}
use Rattle.kd_json.specs.declared.objects.class.ClassEntry.{ClassEntry}
use Rattle.kd_json.specs.declared.objects.class.TestSource.{TestSource}
use Rattle.kd_json.specs.declared.objects.class.TestSource.TheVariants as sources
use Rattle.kd_json.specs.declared.objects.settings.Settings.{Settings}
use Rattle.kd_json.specs.declared.token_file.TokenFile.{TokenFile}
use Rattle.kd_expr.specs.Grammar.{Parses}
use Rattle.kd_expr.specs.Tree.{Tree}
use Rattle.kd_expr.specs.Typing.{test_type}
use Rattle.kd_token.specs.Accepts.{Accepts}
use Rattle.kd_token.specs.File.{Code, IsFileOf}

-- a program of a class test: the tree is a truth value, exceeds no limit, and compiles to the
-- program
pub record IsProgramOf (tree : Tree) (program : Code) : Type 0 where
  pub typed : test_type tree ≡ Ok tt
  pub within : first_over tree ≡ None
  pub compiled : IsCompiled tree program

-- a program of a text: it is a program of the tree that the text spells
pub record IsTextTest (text : List ℕ) (program : Code) : Type 0 where
  pub tree : Tree
  pub spelled : Parses text tree
  pub program_of : IsProgramOf tree program

-- the bytes of the first of these files with a name
abbrev pub file_by_name : List ℕ → List TokenFile → Option (List ℕ)
file_by_name name files =
    option_map (λ file. file.bytes) (find (λ file. bytes_eq name file.name) files)

-- the program of a token file: the first file with this name spells it, and it is accepted
pub record IsFileTest (files : List TokenFile) (name : List ℕ) (program : Code) : Type 0 where
  pub bytes : List ℕ
  pub named : file_by_name name files ≡ Some bytes
  pub spelled : IsFileOf bytes program
  pub accepted : Accepts program

-- a program of a class's test, or none if the class has no test
abbrev pub IsTest : List TokenFile → TestSource → Option Code → Type 0
IsTest files sources.Nothing None = Unit {0}
IsTest files sources.Nothing (Some program) = ⊥
IsTest files (sources.Expression text) None = ⊥
IsTest files (sources.Expression text) (Some program) = IsTextTest text program
IsTest files (sources.TokenFile name) None = ⊥
IsTest files (sources.TokenFile name) (Some program) = IsFileTest files name program

-- a definition of a class as the text gives it: its name, its options, its boot fields, its
-- lifetime, and a program of its test
pub record IsDefinition (files : List TokenFile) (entry : ClassEntry)
    (def : ClassDef) : Type 0 where
  pub name : def.name ≡ entry.name
  pub test : IsTest files entry.source def.test
  pub options : def.options ≡ entry.options
  pub boot : def.boot ≡ entry.boot
  pub lifetime : def.lifetime ≡ entry.lifetime

-- definitions of classes as the text gives them, one for each class in order
abbrev pub AreDefinitions : List TokenFile → List ClassEntry → List ClassDef → Type 0
AreDefinitions files [] [] = Unit {0}
AreDefinitions files [] (def ∷ defs) = ⊥
AreDefinitions files (entry ∷ entries) [] = ⊥
AreDefinitions files (entry ∷ entries) (def ∷ defs) =
    IsDefinition files entry def × AreDefinitions files entries defs

-- the configuration of settings, together with token files
pub record IsConfigOf (settings : Settings) (files : List TokenFile)
    (c : Configuration) : Type 0 where
  pub server : c.server ≡ settings.server
  pub times : c.times ≡ settings.times
  pub extensions : c.extensions ≡ settings.extensions
  pub options : c.options ≡ settings.options
  pub subnets : c.subnets ≡ settings.subnets
  pub classes : AreDefinitions files settings.classes c.classes
  pub ordered : AreInOrder c.classes

-- the configuration that a text describes, together with token files
pub record IsConfigured (text : List ℕ) (files : List TokenFile) (c : Configuration) : Type 0 where
  pub settings : Settings
  pub written : accepted_settings text ≡ Some settings
  pub made : IsConfigOf settings files c
