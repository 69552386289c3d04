-- The tree of a class test (Kea Administrator Reference Manual, chapter Client Classification),
-- without memory. Each node begins with the place of its first byte.
use Rattle.std.specs.Prelude.{ℕ, ℤ, List, Option}
use Rattle.kd_wire.specs.declared.field.Field.{Field}

-- a node with its place and what it holds
pub data Tree : Type 0 where
  Literal : ℕ → List ℕ → Tree
  Int : ℕ → ℕ → Tree
  OptionValue : ℕ → ℕ → Tree
  RelayValue : ℕ → ℕ → Tree
  FieldValue : ℕ → Field → Tree
  OptionExists : ℕ → ℕ → Tree
  RelayExists : ℕ → ℕ → Tree
  Member : ℕ → List ℕ → Tree
  Equal : ℕ → Tree → Tree → Tree
  Not : ℕ → Tree → Tree
  And : ℕ → Tree → Tree → Tree
  Or : ℕ → Tree → Tree → Tree
  Group : ℕ → Tree → Tree
  Concat : ℕ → Tree → Tree → Tree
  IfElse : ℕ → Tree → Tree → Tree → Tree
  Substring : ℕ → Tree → ℤ → Option ℤ → Tree
  HexString : ℕ → Tree → Tree → Tree
  Lower : ℕ → Tree → Tree
  Upper : ℕ → Tree → Tree
  IntToText : ℕ → Tree → Tree

-- the place of a node
abbrev pub at_of : Tree → ℕ
at_of (Literal at bytes) = at
at_of (Int at value) = at
at_of (OptionValue at code) = at
at_of (RelayValue at code) = at
at_of (FieldValue at field) = at
at_of (OptionExists at code) = at
at_of (RelayExists at code) = at
at_of (Member at name) = at
at_of (Equal at left right) = at
at_of (Not at operand) = at
at_of (And at left right) = at
at_of (Or at left right) = at
at_of (Group at operand) = at
at_of (Concat at left right) = at
at_of (IfElse at test a b) = at
at_of (Substring at operand start len) = at
at_of (HexString at operand separator) = at
at_of (Lower at operand) = at
at_of (Upper at operand) = at
at_of (IntToText at operand) = at
