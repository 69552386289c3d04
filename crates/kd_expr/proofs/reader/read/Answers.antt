use Rattle.std.proofs.Common.{◌≡◌, ◌⊎◌, ◌∙◌, sym, ap, subst}
use Rattle.kd_expr.specs.FirstFault.{IsTextFault}
use Rattle.kd_expr.specs.Grammar.{Parses}
use Rattle.kd_expr.specs.View.{tree_of}
use Rattle.kd_expr.specs.declared.node.Node.{Node}
use Rattle.kd_expr.specs.declared.fault.ExprFault.{ExprFault}
use Rattle.kd_expr.specs.declared.fault.ExprFault.TheVariants.{Memory, TooLong}
use Rattle.kd_expr.proofs.Firsts.{first_fault}
use Rattle.kd_expr.proofs.TextRead.{same_tree, refused_for_memory}
use Rattle.kd_expr.proofs.Texts.{parse_sound}
use Rattle.kd_expr.proofs.reader.read.Goals as goal

pub expr_of-requires : goal.expr_of-requires
expr_of-requires c = parse_sound c.args.text.now (tree_of c.in-Ok.tree) c.if-text-gt-LONGEST_TEXT.false c.in-Ok.ensures

pub returns-in-Ok-clause-found : goal.returns-in-Ok-clause-found
returns-in-Ok-clause-found c =
    subst (λ (node : Node). Parses c.args.text.now (tree_of node)) (sym c.expr_of.ensures)
    (parse_sound c.args.text.now (tree_of c.in-Ok.tree) c.if-text-gt-LONGEST_TEXT.false c.in-Ok.ensures)

pub returns-in-Ok-clause-only : goal.returns-in-Ok-clause-only
returns-in-Ok-clause-only c tree p =
    ap (λ (node : Node). tree_of node) c.expr_of.ensures ∙ same_tree c.args.text.now tree (tree_of c.in-Ok.tree) c.in-Ok.ensures p

pub returns-in-Err-clause-only : goal.returns-in-Err-clause-only
returns-in-Err-clause-only c tree p =
    refused_for_memory c.args.text.now tree c.seen_outside.result c.in-Err.fault (λ other. c.in-Err.ensures (c.seen_outside.ensures.memory other)) p

pub returns-in-Err-clause-first : goal.returns-in-Err-clause-first
returns-in-Err-clause-first c =
    subst (λ (v : ExprFault). (v ≡ Memory) ⊎ ((v ≡ TooLong) ⊎ IsTextFault c.args.text.now v)) (sym c.seen_outside.ensures.same)
    (first_fault c.args.text.now c.in-Err.fault c.in-Err.ensures)
