use Rattle.std.proofs.Common.{List, arith, ◌∙◌, sym, subst, refl}
use Rattle.kd_wire.specs.Area.{Piece, IsArea, pad, piece}
use Rattle.kd_wire.specs.Walk.{pieces_from}
use Rattle.kd_wire.proofs.Areas.{passed_more, area_of_passed, whole_area, walk_area, not_cut, cut_of_passed}
use Rattle.kd_wire.proofs.area.pieces.Goals as goal

pub pieces_over-requires : goal.pieces_over-requires
pieces_over-requires c =
    whole_area _ _ (area_of_passed _ _ _ c.loop-rest.invariant c.in-End.ensures)

pub returns-in-End-clause-found : goal.returns-in-End-clause-found
returns-in-End-clause-found c =
    let is : IsArea c.args.area.now (pieces_from 0 c.args.area.now) = area_of_passed _ _ _ c.loop-rest.invariant c.in-End.ensures in
    let P : List Piece → Type 0 = λ x. IsArea c.args.area.now x in subst P (sym c.pieces_over.ensures) is

pub returns-in-End-clause-only : goal.returns-in-End-clause-only
returns-in-End-clause-only c = λ list a. c.pieces_over.ensures ∙ walk_area _ list a

pub loop-rest-preserved-in-Pad : goal.loop-rest-preserved-in-Pad
loop-rest-preserved-in-Pad c =
    passed_more _ _ _ _ 1 pad c.loop-rest.invariant tt c.in-Pad.ensures refl

pub loop-rest-preserved : goal.loop-rest-preserved
loop-rest-preserved c =
    passed_more _ _ _ _ _ (piece c.in-Piece.field-0 c.in-Piece.value.now) c.loop-rest.invariant c.in-Piece.ensures.0 c.in-Piece.ensures.1
    (omega arith)

pub returns-in-Cut-clause-only : goal.returns-in-Cut-clause-only
returns-in-Cut-clause-only c =
    λ list a. not_cut _ _ list (cut_of_passed _ _ _ c.loop-rest.invariant c.in-Cut.ensures) a
