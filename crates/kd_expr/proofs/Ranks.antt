-- How many calls deep the parser goes at most, at one depth of nesting, to read an operand of a joint.
use Rattle.std.proofs.Common.{ℕ}
use Rattle.kd_expr.specs.declared.parser.Joint.{Joint}
use Rattle.kd_expr.specs.declared.parser.Joint.TheVariants as joints

abbrev pub rank : Joint → ℕ
rank joints.Or = 17
rank joints.And = 14
rank joints.Equals = 10
rank joints.Plus = 7
