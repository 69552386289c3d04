use Rattle.std.proofs.Common.{◌≡◌, ◌≤◌, ◌*◌, ◌+◌, ℕ, length}
use Rattle.kd_expr.specs.Joints.{joint_at, operand_at, tree_joined}
use Rattle.kd_expr.specs.Reading.{below, chain, operands_joined}
use Rattle.kd_expr.specs.View.{lexemes, tree_of}
use Rattle.kd_expr.proofs.Ranks.{rank}
use Rattle.kd_expr.proofs.+parser.Given as goal

abbrev pub decreases-parser::chain_of : goal.decreases-parser::chain_of
decreases-parser::chain_of l = 20 * l.depth + rank l.joint + 2

abbrev pub decreases-parser::joined_to : goal.decreases-parser::joined_to
decreases-parser::joined_to l = 20 * l.depth + rank l.joint + 1

abbrev pub decreases-parser::operand_of : goal.decreases-parser::operand_of
decreases-parser::operand_of l = 20 * l.depth + rank l.joint

abbrev pub decreases-parser::not_of : goal.decreases-parser::not_of
decreases-parser::not_of l = 20 * l.depth + 13

abbrev pub decreases-parser::compare_of : goal.decreases-parser::compare_of
decreases-parser::compare_of l = 20 * l.depth + 12

abbrev pub decreases-parser::primary_of : goal.decreases-parser::primary_of
decreases-parser::primary_of l = 20 * l.depth + 6

abbrev pub decreases-forms::named_of : goal.decreases-forms::named_of
decreases-forms::named_of l = 20 * l.depth + 5

abbrev pub decreases-forms::form_of : goal.decreases-forms::form_of
decreases-forms::form_of l = 20 * l.depth + 4

abbrev pub decreases-forms::substring_of : goal.decreases-forms::substring_of
decreases-forms::substring_of l = 20 * l.depth + 3

abbrev pub decreases-forms::ifelse_of : goal.decreases-forms::ifelse_of
decreases-forms::ifelse_of l = 20 * l.depth + 3

abbrev pub decreases-forms::one_operand : goal.decreases-forms::one_operand
decreases-forms::one_operand l = 20 * l.depth + 3

abbrev pub decreases-forms::two_operands : goal.decreases-forms::two_operands
decreases-forms::two_operands l = 20 * l.depth + 3

abbrev pub decreases-forms::two_before : goal.decreases-forms::two_before
decreases-forms::two_before l = 20 * l.depth + 2

abbrev pub decreases-forms::operand_before : goal.decreases-forms::operand_before
decreases-forms::operand_before l = 20 * l.depth + 1

abbrev pub decreases-parser::group_of : goal.decreases-parser::group_of
decreases-parser::group_of l = 20 * l.depth + 2

abbrev pub decreases-parser::any_deeper : goal.decreases-parser::any_deeper
decreases-parser::any_deeper l = 20 * l.depth

abbrev pub decreases-parser::operand_deeper : goal.decreases-parser::operand_deeper
decreases-parser::operand_deeper l = 20 * l.depth

abbrev pub invariant-parser::chain_of-loop-after : goal.invariant-parser::chain_of-loop-after
invariant-parser::chain_of-loop-after l = record {
  shorter : length l.rest ≤ length l.fn.tokens;
  same : (k : ℕ) × (length l.rest ≤ k) × (chain (joint_at l.joint) (operand_at l.joint (below l.depth)) (tree_joined l.joint) l.source.end (lexemes l.fn.tokens) ≡ operands_joined (joint_at l.joint) (operand_at l.joint (below l.depth)) (tree_joined l.joint) k (tree_of l.first) l.source.end (lexemes l.rest));
}

abbrev pub decreases-parser::chain_of-loop-after : goal.decreases-parser::chain_of-loop-after
decreases-parser::chain_of-loop-after l = length l.rest
