-- What joins two operands, and what the grammar has for it. No public contract cites it.
use Rattle.std.specs.Prelude.{ℕ, codes, Option}
use Rattle.kd_expr.specs.Lexical.{Lexeme}
use Rattle.kd_expr.specs.Reading.{Reader, Deeper, sign_at, word_at, or_of, and_of, sum_of, and_at, not_at, sum_at, primary_at}
use Rattle.kd_expr.specs.Tree.{Tree, Equal, at_of}
use Rattle.kd_expr.specs.declared.parser.Joint.{Joint}
use Rattle.kd_expr.specs.declared.parser.Joint.TheVariants as joints

-- the place of the joint
abbrev pub joint_at : Joint → Lexeme → Option ℕ
joint_at joints.Or = word_at (codes "or")
joint_at joints.And = word_at (codes "and")
joint_at joints.Equals = sign_at 61
joint_at joints.Plus = sign_at 43

-- an operand of the joint
abbrev pub operand_at : Joint → Deeper → Reader Tree
operand_at joints.Or = and_at
operand_at joints.And = not_at
operand_at joints.Equals = sum_at
operand_at joints.Plus = primary_at

-- two operands joined, at the place of the first
abbrev pub tree_joined : Joint → Tree → Tree → Tree
tree_joined joints.Or = or_of
tree_joined joints.And = and_of
tree_joined joints.Equals = λ a b. Equal (at_of a) a b
tree_joined joints.Plus = sum_of
