use Rattle.std.proofs.Common.{◌∷◌, [], ◌++◌, sym, ap, ◌∙◌, append_assoc}
use Rattle.kd_wire.specs.Area.{Piece}
use Rattle.kd_options.specs.Joining.{joined_into}
use Rattle.kd_options.specs.Joined.{options_of}
use Rattle.kd_options.proofs.Joins.{options_of-append}
use Rattle.kd_options.proofs.areas.add_pieces.Goals as goal

pub loop-code-preserved : goal.loop-code-preserved
loop-code-preserved c =
    let i = c.loop-code.invariant in
    let piece : Piece = (c.in-Some.code, c.in-Some.piece.now) in (
      i.0 ++ piece ∷ [],
      i.1 ∙ ap (λ x. i.0 ++ x) c.in-Some.ensures.steps ∙ sym (append_assoc i.0 (piece ∷ []) c.next.new.self),
      λ before e. c.in_ok-join.ensures ∙ ap (joined_into piece.0 piece.1) (i.2 before e) ∙ sym (options_of-append (before ++ i.0) piece.0 piece.1) ∙ ap options_of (append_assoc before i.0 (piece ∷ [])),
    )
