use Rattle.std.proofs.Common.{◌∙◌, sym, ap}
use Rattle.std.proofs.lemmas.Bool.{false≢true}
use Rattle.kd_wire.specs.Walk.{pieces_from, is_whole_from}
use Rattle.kd_wire.proofs.Areas.{pieces_from-end, pieces_from-piece, pieces_from-pad, is_whole_from-pad, is_whole_from-piece, is_whole_from-cut}
use Rattle.kd_wire.proofs.walk.first_piece.Goals as goal

pub returns-in-End : goal.returns-in-End
returns-in-End c = sym c.loop-rest.invariant.0 ∙ pieces_from-end _ c.in-End.ensures

pub unreachable-requires : goal.unreachable-requires
unreachable-requires c = false≢true (sym (is_whole_from-cut _ c.in-Cut.ensures) ∙ c.loop-rest.invariant.1)

pub loop-rest-preserved : goal.loop-rest-preserved
loop-rest-preserved c =
    let is = c.loop-rest.invariant in (
      sym (pieces_from-pad _) ∙ ap (pieces_from 0) (sym c.in-Pad.ensures) ∙ is.0,
      sym (is_whole_from-pad _) ∙ ap (is_whole_from 0) (sym c.in-Pad.ensures) ∙ is.1,
    )

pub returns-in-Piece : goal.returns-in-Piece
returns-in-Piece c =
    let is = c.loop-rest.invariant in
    let code = c.in-Piece.ensures.0 in
    let bytes = c.in-Piece.ensures.1 in (
      sym is.0 ∙ ap (pieces_from 0) bytes ∙ pieces_from-piece _ _ _ code,
      sym (is_whole_from-piece _ _ _ code) ∙ ap (is_whole_from 0) (sym bytes) ∙ is.1,
    )
