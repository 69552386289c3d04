-- The number of nodes in an expression.
use Rattle.std.specs.Prelude.{ℕ, ◌+◌}
use Rattle.kd_expr.specs.Tree.{Tree, Literal, Int, OptionValue, RelayValue, FieldValue, OptionExists, RelayExists, Member, Equal, Not, And, Or, Group, Concat, IfElse, Substring, HexString, Lower, Upper, IntToText}

-- the number of nodes in a tree; the numbers of a substring are not nodes
abbrev pub node_count : Tree → ℕ
node_count (Literal at bytes) = 1
node_count (Int at value) = 1
node_count (OptionValue at code) = 1
node_count (RelayValue at code) = 1
node_count (FieldValue at field) = 1
node_count (OptionExists at code) = 1
node_count (RelayExists at code) = 1
node_count (Member at name) = 1
node_count (Equal at a b) = 1 + node_count a + node_count b
node_count (Not at a) = 1 + node_count a
node_count (And at a b) = 1 + node_count a + node_count b
node_count (Or at a b) = 1 + node_count a + node_count b
node_count (Group at a) = 1 + node_count a
node_count (Concat at a b) = 1 + node_count a + node_count b
node_count (IfElse at t a b) = 1 + node_count t + node_count a + node_count b
node_count (Substring at a start len) = 1 + node_count a
node_count (HexString at a b) = 1 + node_count a + node_count b
node_count (Lower at a) = 1 + node_count a
node_count (Upper at a) = 1 + node_count a
node_count (IntToText at a) = 1 + node_count a
