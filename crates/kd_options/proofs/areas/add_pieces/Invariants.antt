use Rattle.std.proofs.Common.{◌≡◌, ◌++◌, List}
use Rattle.kd_wire.specs.Area.{Piece}
use Rattle.kd_options.specs.Joining.{JoinsPieces, entries_of}
use Rattle.kd_options.proofs.areas.add_pieces.Given as goal

abbrev pub invariant-loop-code : goal.invariant-loop-code
invariant-loop-code l =
    (done : List Piece) × (l.fn.list ≡ done ++ l.code-iterator)
    × JoinsPieces done (entries_of l.fn.options.entries) (entries_of l.options.entries)
