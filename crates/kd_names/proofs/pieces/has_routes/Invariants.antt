use Rattle.std.proofs.Common.{◌≡◌, length}
use Rattle.std.specs.List.{list_all}
use Rattle.kd_names.specs.Pieces.{is_route, routes_of}
use Rattle.kd_names.proofs.pieces.has_routes.Given as goal

abbrev pub invariant-loop-left : goal.invariant-loop-left
invariant-loop-left l = list_all is_route (routes_of l.left) ≡ list_all is_route (routes_of l.value)

abbrev pub decreases-loop-left : goal.decreases-loop-left
decreases-loop-left l = length l.left
