-- Definitions of entries, one after another.
use Rattle.std.proofs.Common.{◌≡◌, List, [], ◌∷◌, ◌++◌, refl, sym, ap, subst, ◌∙◌}
use Rattle.std.specs.List.{AllByRecursion}
use Rattle.kd_classes.specs.HeldSet.{IsAccepted}
use Rattle.kd_classes.specs.declared.definition.ClassDef.{ClassDef}
use Rattle.kd_json.proofs.Alike.{alike_behind}
use Rattle.kd_json.specs.Alike.{AskAlike, AsksAlike}
use Rattle.kd_json.specs.Configured.{AreDefinitions, IsDefinition}
use Rattle.kd_json.specs.declared.objects.class.ClassEntry.{ClassEntry}
use Rattle.kd_json.specs.declared.token_file.TokenFile.{TokenFile}

-- definitions of some entries and of one after them
record AreParts (files : List TokenFile) (entries : List ClassEntry) (entry : ClassEntry) (rest : List ClassEntry) (defs : List ClassDef) : Type 0 where
  before : List ClassDef
  def : ClassDef
  behind : List ClassDef
  parts : defs ≡ before ++ def ∷ behind
  first : AreDefinitions files entries before
  here : IsDefinition files entry def
  last : AreDefinitions files rest behind

parts_of : (files : List TokenFile) (entries : List ClassEntry) (entry : ClassEntry) (rest : List ClassEntry) (defs : List ClassDef) → AreDefinitions files (entries ++ entry ∷ rest) defs → AreParts files entries entry rest defs
parts_of files [] entry rest [] h = absurd h
parts_of files [] entry rest (d ∷ defs) h = record { before = []; def = d; behind = defs; parts = refl; first = tt; here = h.0; last = h.1 }
parts_of files (e ∷ entries) entry rest [] h = absurd h
parts_of files (e ∷ entries) entry rest (d ∷ defs) h =
    let k = parts_of files entries entry rest defs h.1 in
    record { before = d ∷ k.before; def = k.def; behind = k.behind; parts = ap (λ ds. d ∷ ds) k.parts; first = (h.0, k.first); here = k.here; last = k.last }

-- one more definition
pub defined_behind : (files : List TokenFile) (entries : List ClassEntry) (entry : ClassEntry) (defs : List ClassDef) (def : ClassDef) → AreDefinitions files entries defs → IsDefinition files entry def → AreDefinitions files (entries ++ entry ∷ []) (defs ++ def ∷ [])
defined_behind files [] entry [] def h k = (k, tt)
defined_behind files [] entry (d ∷ defs) def h k = absurd h
defined_behind files (e ∷ entries) entry [] def h k = absurd h
defined_behind files (e ∷ entries) entry (d ∷ defs) def h k = (h.0, defined_behind files entries entry defs def h.1 k)

-- one more definition with an accepted test
pub accepted_behind : (defs : List ClassDef) (def : ClassDef) → AllByRecursion IsAccepted defs
    → IsAccepted def → AllByRecursion IsAccepted (defs ++ def ∷ [])
accepted_behind [] def h k = (k, tt)
accepted_behind (d ∷ defs) def h k = (h.0, accepted_behind defs def h.1 k)

none_behind : (files : List TokenFile) (defs : List ClassDef) → AreDefinitions files [] defs → defs ≡ []
none_behind files [] h = refl
none_behind files (d ∷ defs) h = absurd h

-- if definitions of entries ask alike, they also do with one more
pub alike_defined : (files : List TokenFile) (entries : List ClassEntry) (entry : ClassEntry) (defs : List ClassDef) (def : ClassDef)
    → ((others : List ClassDef) → AreDefinitions files entries others → AskAlike others defs) → ((other : ClassDef) → IsDefinition files entry other → AsksAlike other def)
    → (others : List ClassDef) → AreDefinitions files (entries ++ entry ∷ []) others → AskAlike others (defs ++ def ∷ [])
alike_defined files entries entry defs def first here others h =
    let k = parts_of files entries entry [] others h in
    let all : others ≡ k.before ++ k.def ∷ [] = k.parts ∙ ap (λ ds. k.before ++ k.def ∷ ds) (none_behind files k.behind k.last) in
    subst (λ ds. AskAlike ds (defs ++ def ∷ [])) (sym all) (alike_behind k.before defs k.def def (first k.before k.first) (here k.def k.here))

-- if an entry has no definition, a list with it has none
pub undefined_with : (files : List TokenFile) (entries : List ClassEntry) (entry : ClassEntry) (rest all : List ClassEntry) → entries ++ entry ∷ rest ≡ all
    → ((def : ClassDef) → IsDefinition files entry def → ⊥) → (defs : List ClassDef) → AreDefinitions files all defs → ⊥
undefined_with files entries entry rest all e none defs h =
    let k = parts_of files entries entry rest defs (subst (λ xs. AreDefinitions files xs defs) (sym e) h) in none k.def k.here
