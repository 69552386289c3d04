-- The loop over the operands of a chain, and the forms whose last parts are read by a function of
-- their own.
use mir.Syntax.{w32}
use mir.Val.{SFits}
use Rattle.std.proofs.Common.{◌∙◌, length, sym, arith, rules}
use Rattle.std.proofs.lemmas.Int.{to_z-of_z}
use Rattle.std.proofs.lemmas.List.{length-map}
use Rattle.std.proofs.lemmas.Result.{err_from_is_err_and}
use Rattle.kd_expr.specs.Joints.{joint_at, operand_at, tree_joined}
use Rattle.kd_expr.specs.Reading.{below, and_at, sum_at}
use Rattle.kd_expr.specs.Tree.{Substring}
use Rattle.kd_expr.specs.View.{lexeme_of, tree_of}
use Rattle.kd_expr.proofs.Complete.{chain_begins, chain_goes_on, chain_fails, joined_ends}
use Rattle.kd_expr.proofs.Joints.{any_is}
use Rattle.kd_expr.proofs.Operands.{ifelse_read, ifelse_fails, substring_read, substring_fails}
use Rattle.kd_expr.proofs.+parser.Goals as goal

pub parser::chain_of-loop-after-init : goal.parser::chain_of-loop-after-init
parser::chain_of-loop-after-init t c = record {
  shorter = c.in_ok-first.ensures.shorter;
  same = chain_begins (joint_at c.args.joint) (operand_at c.args.joint (below c.args.depth)) (tree_joined c.args.joint) (length c.in_ok-first.rest.now) _ _ _ _
      (omega (arith, length-map c.in_ok-first.rest.now lexeme_of)) c.in_ok-first.ensures.reads;
}

pub parser::chain_of-loop-after-preserved : goal.parser::chain_of-loop-after-preserved
parser::chain_of-loop-after-preserved t c =
    let same = c.loop-after.invariant.same in
    record {
      shorter = omega (arith, c.loop-after.invariant.shorter, c.in-Some.ensures.shorter, c.in_ok-longer.ensures.shorter);
      same = chain_goes_on _ (joint_at c.args.joint) (operand_at c.args.joint (below c.args.depth)) (tree_joined c.args.joint) same.0 (length c.in_ok-longer.behind.now) _ _ _ _ _ _ _
          (omega (arith, same.1, c.in-Some.ensures.shorter, c.in_ok-longer.ensures.shorter)) same.2 (sym c.in-Some.ensures.reads) c.in_ok-longer.ensures.reads;
    }

pub parser::chain_of-returns-in_err-longer-clause-reads : goal.parser::chain_of-returns-in_err-longer-clause-reads
parser::chain_of-returns-in_err-longer-clause-reads t c =
    let p = err_from_is_err_and c.from_residual-in_err-longer.result c.from_residual-in_err-longer.ensures.1 in
    let same = c.loop-after.invariant.same in
    rw (p.1, p.2)
    (λ other. same.2 ∙ chain_fails _ _ _ same.0 _ _ _ _ _ _ (omega (arith, same.1, c.in-Some.ensures.shorter)) (sym c.in-Some.ensures.reads) (c.in_err-longer.ensures.reads other))

pub parser::chain_of-returns-clause-reads : goal.parser::chain_of-returns-clause-reads
parser::chain_of-returns-clause-reads t c =
    let same = c.loop-after.invariant.same in
    same.2 ∙ joined_ends _ _ _ same.0 _ _ _ (sym c.in_default.ensures.reads)

pub forms::ifelse_of-returns-in_err-yes-clause-reads : goal.forms::ifelse_of-returns-in_err-yes-clause-reads
forms::ifelse_of-returns-in_err-yes-clause-reads t c =
    let p = err_from_is_err_and c.from_residual-in_err-yes.result c.from_residual-in_err-yes.ensures.1 in
    rw (p.1, p.2)
    (λ other. ifelse_fails _ _ _ _ _ _ _ _ _ c.in_ok-open.ensures.reads c.in_ok-test.ensures.reads (c.in_err-yes.ensures.reads other))

pub forms::ifelse_of-returns-clause-reads : goal.forms::ifelse_of-returns-clause-reads
forms::ifelse_of-returns-clause-reads t c =
    ifelse_read _ _ _ _ _ _ _ _ _ _ _ c.in_ok-open.ensures.reads c.in_ok-test.ensures.reads c.in_ok-yes.ensures.reads

pub forms::substring_of-returns-in_err-start-clause-reads : goal.forms::substring_of-returns-in_err-start-clause-reads
forms::substring_of-returns-in_err-start-clause-reads t c =
    let p = err_from_is_err_and c.from_residual-in_err-start.result c.from_residual-in_err-start.ensures.1 in
    rw (p.1, p.2)
    (λ other. substring_fails _ _ _ _ _ _ _ _ _ c.in_ok-open.ensures.reads c.in_ok-operand.ensures.reads (c.in_err-start.ensures.reads (Substring c.args.at (tree_of c.in_ok-operand.operand.value)) other))

pub forms::substring_of-returns-clause-reads : goal.forms::substring_of-returns-clause-reads
forms::substring_of-returns-clause-reads t c =
    let fits : SFits w32 c.in_ok-start.start = search rules in
    substring_read _ _ _ _ _ _ _ _ _ _ _ _ (to_z-of_z w32 c.in_ok-start.start fits) c.in_ok-open.ensures.reads c.in_ok-operand.ensures.reads (c.in_ok-start.ensures.reads (Substring c.args.at (tree_of c.in_ok-operand.operand.value)))

pub parser::operand_of-returns-in-Or-clause-reads : goal.parser::operand_of-returns-in-Or-clause-reads
unfolding and_at
parser::operand_of-returns-in-Or-clause-reads t c = rw c.in-Or.is c.chain_of.ensures.reads

pub parser::operand_of-returns-in-Equals-clause-reads : goal.parser::operand_of-returns-in-Equals-clause-reads
unfolding sum_at
parser::operand_of-returns-in-Equals-clause-reads t c = rw c.in-Equals.is c.chain_of-in-Equals.ensures.reads

pub parser::any_deeper-returns-clause-reads : goal.parser::any_deeper-returns-clause-reads
parser::any_deeper-returns-clause-reads t c = rw (any_is c.args.depth c.args.at c.args.source.end _ (omega arith)) c.chain_of.ensures.reads
