use Rattle.std.proofs.Common.{◌∙◌, sym}
use Rattle.kd_plain.specs.Output.{span_of}
use Rattle.kd_plain.proofs.Cuts.{cut_comment, cut_off_block, cut_quoted, cut_single}
use Rattle.kd_plain.proofs.span.cut_span.Goals as goal

pub returns-then-first-eq34-clause-first : goal.returns-then-first-eq34-clause-first
returns-then-first-eq34-clause-first c =
    cut_quoted c.args.text.now c.in_ok-first.first.now c.in_ok-first.rest.now c.string_end.result _ _ c.in_ok-first.ensures.cases.0 c.split_at.ensures.front c.split_at.ensures.back c.if-first-eq34.true c.string_end.ensures.size

pub returns-then-is_line_comment-clause-first : goal.returns-then-is_line_comment-clause-first
returns-then-is_line_comment-clause-first c =
    cut_comment c.args.text.now c.in_ok-first.first.now c.in_ok-first.rest.now c.line_end.result _ _ c.in_ok-first.ensures.cases.0 c.split_at-then-is_line_comment.ensures.front c.split_at-then-is_line_comment.ensures.back c.if-first-eq34.false (sym c.is_line_comment.ensures ∙ c.if-is_line_comment.true) c.line_end.ensures.size

pub returns-then-starts_with-clause-first : goal.returns-then-starts_with-clause-first
returns-then-starts_with-clause-first c =
    cut_off_block c.args.text.now c.in_ok-first.first.now c.in_ok-first.rest.now (span_of c.cut_block.result.0) c.cut_block.result.1.now c.in_ok-first.ensures.cases.0 c.if-first-eq34.false (sym c.is_line_comment.ensures ∙ c.if-is_line_comment.false) (sym c.starts_with.ensures.value ∙ c.if-starts_with.true) c.cut_block.ensures.first c.cut_block.ensures.behind

pub returns-else-starts_with-clause-first : goal.returns-else-starts_with-clause-first
returns-else-starts_with-clause-first c =
    cut_single c.args.text.now c.in_ok-first.first.now c.in_ok-first.rest.now c.in_ok-first.ensures.cases.0 c.if-first-eq34.false (sym c.is_line_comment.ensures ∙ c.if-is_line_comment.false) (sym c.starts_with.ensures.value ∙ c.if-starts_with.false)
