use Rattle.std.proofs.Common.{◌+◌, ◌*◌}
use Rattle.kd_expr.specs.Size.{node_count}
use Rattle.kd_expr.specs.View.{tree_of}
use Rattle.kd_compile.proofs.emit.+code.Given as goal

abbrev pub decreases-put_code : goal.decreases-put_code
decreases-put_code l = 3 * node_count (tree_of l.node.now)

abbrev pub decreases-put_bytes : goal.decreases-put_bytes
decreases-put_bytes l = 3 * node_count (tree_of l.node.now) + 1

abbrev pub decreases-put_then : goal.decreases-put_then
decreases-put_then l = 3 * node_count (tree_of l.operand.now) + 1

abbrev pub decreases-put_bytes_then : goal.decreases-put_bytes_then
decreases-put_bytes_then l = 3 * node_count (tree_of l.operand.now) + 2

abbrev pub decreases-put_both : goal.decreases-put_both
decreases-put_both l = 3 * (node_count (tree_of l.left.now) + node_count (tree_of l.right.now)) + 2

abbrev pub decreases-put_choice : goal.decreases-put_choice
decreases-put_choice l = 3 * (node_count (tree_of l.test.now) + node_count (tree_of l.yes.now) + node_count (tree_of l.no.now)) + 2
