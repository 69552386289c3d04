-- The chains of the grammar, as their joints have them.
use Rattle.std.proofs.Common.{◌≡◌, ◌≤◌, ◌-◌, ℕ, zero, suc, List, refl, arith}
use Rattle.kd_expr.specs.Joints.{joint_at, operand_at, tree_joined}
use Rattle.kd_expr.specs.Lexical.{Lexeme}
use Rattle.kd_expr.specs.Reading.{below, chain, or_at}
use Rattle.kd_expr.specs.declared.parser.Joint.TheVariants as joints

pub any_is : (depth at end : ℕ) (ts : List Lexeme) → 1 ≤ depth → (below depth).any at end ts ≡ chain (joint_at joints.Or) (operand_at joints.Or (below (depth - 1))) (tree_joined joints.Or) end ts
unfolding below or_at
any_is zero at end ts least = absurd (omega (arith, least))
any_is (suc n) at end ts least = let e : suc n - 1 ≡ n = omega arith in rw e refl
