use Rattle.std.proofs.Common.{◌+◌, ◌*◌}
use Rattle.kd_expr.specs.Size.{node_count}
use Rattle.kd_expr.specs.View.{tree_of}
use Rattle.kd_expr.proofs.typing.+typing.Given as goal

abbrev pub decreases-type_of_node : goal.decreases-type_of_node
decreases-type_of_node l = 3 * node_count (tree_of l.node.now)

abbrev pub decreases-type_over_bytes : goal.decreases-type_over_bytes
decreases-type_over_bytes l = 3 * (node_count (tree_of l.left.now) + node_count (tree_of l.right.now)) + 2

abbrev pub decreases-bool_operand : goal.decreases-bool_operand
decreases-bool_operand l = 3 * node_count (tree_of l.node.now) + 1

abbrev pub decreases-bytes_operand : goal.decreases-bytes_operand
decreases-bytes_operand l = 3 * node_count (tree_of l.node.now) + 1

abbrev pub decreases-int_operand : goal.decreases-int_operand
decreases-int_operand l = 3 * node_count (tree_of l.node.now) + 1
