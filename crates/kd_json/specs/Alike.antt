-- Helpers of private contracts: class definitions that do not differ in anything that decides
-- whether they are in order.
use Rattle.std.specs.Prelude.{◌≡◌, List, [], ◌∷◌}
use Rattle.kd_classes.specs.Order.{asked}
use Rattle.kd_classes.specs.declared.definition.ClassDef.{ClassDef}

-- two definitions have the same name and ask for the same names
pub record AsksAlike (a b : ClassDef) : Type 0 where
  pub name : a.name ≡ b.name
  pub asks : asked a ≡ asked b

-- so do two lists of definitions, pairwise
abbrev pub AskAlike : List ClassDef → List ClassDef → Type 0
AskAlike [] [] = Unit {0}
AskAlike [] (b ∷ ys) = ⊥
AskAlike (a ∷ xs) [] = ⊥
AskAlike (a ∷ xs) (b ∷ ys) = AsksAlike a b × AskAlike xs ys
