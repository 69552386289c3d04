use Rattle.std.proofs.Common.{◌≡◌, None, ap, sym, subst, ◌∙◌, arith}
use Rattle.kd_compile.proofs.Accepting.{accepted}
use Rattle.kd_compile.proofs.Keeping.{has_measures, keeps_in_limits}
use Rattle.kd_compile.proofs.Ranges.{few_tokens, depth_le}
use Rattle.kd_compile.specs.Compiled.{HasMeasures, KeepsMeaning, first_over}
use Rattle.kd_compile.specs.Measures.{token_count, stack_depth}
use Rattle.kd_compile.specs.Tokens.{program_for}
use Rattle.kd_expr.specs.Tree.{Tree}
use Rattle.kd_expr.specs.View.{tree_of}
use Rattle.kd_token.specs.Accepts.{Accepts}
use Rattle.kd_compile.proofs.compiler.compile.Goals as goal

pub tokens-requires : goal.tokens-requires
tokens-requires c =
    let few = few_tokens (tree_of c.args.typed.now) c.tree-tree.ensures.text in
    let same = ap (λ n. token_count (tree_of n)) c.tree-tree.ensures.same in
    omega (arith, few, same)

pub depth-requires : goal.depth-requires
depth-requires c =
    let few = few_tokens (tree_of c.args.typed.now) c.tree-tree.ensures.text in
    let less = depth_le (tree_of c.args.typed.now) in
    let same = ap (λ n. stack_depth (tree_of n)) c.tree-tree.ensures.same in
    omega (arith, few, less, same)

pub returns-in-Ok-clause-measured : goal.returns-in-Ok-clause-measured
returns-in-Ok-clause-measured c =
    let is = c.in-Ok.ensures.accepted ∙ c.in_ok-program.ensures.program ∙ ap (λ n. program_for (tree_of n)) c.tree-tree.ensures.same in
    subst (HasMeasures (tree_of c.args.typed.now)) (sym is) (has_measures (tree_of c.args.typed.now))

pub returns-in-Ok-clause-keeps : goal.returns-in-Ok-clause-keeps
returns-in-Ok-clause-keeps c =
    let same = ap tree_of c.tree-tree.ensures.same in
    let P : Tree → Type 0 = λ t. first_over t ≡ None in
    let within = subst P same c.in_ok-program.ensures.within in
    let is = c.in-Ok.ensures.accepted ∙ c.in_ok-program.ensures.program ∙ ap program_for same in
    let kept = keeps_in_limits c.accepted_ends.ensures c.one_end.ensures (tree_of c.args.typed.now) c.tree-tree.ensures.text c.tree-tree.ensures.typed within in
    subst (KeepsMeaning (tree_of c.args.typed.now)) (sym is) kept

pub returns-in-Ok-clause-exact : goal.returns-in-Ok-clause-exact
returns-in-Ok-clause-exact c =
    let is = c.in-Ok.ensures.accepted ∙ c.in_ok-program.ensures.program in
    is ∙ ap (λ n. program_for (tree_of n)) c.tree-tree.ensures.same

pub unreachable-requires : goal.unreachable-requires
unreachable-requires c =
    let same = ap tree_of c.tree-tree.ensures.same in
    let is = c.in_ok-program.ensures.program ∙ ap program_for same in
    let accepts = accepted (tree_of c.args.typed.now) c.tree-tree.ensures.typed in
    c.in_default.not-Memory (c.in-Err.ensures.only (subst Accepts (sym is) accepts))
