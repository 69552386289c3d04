use Rattle.std.proofs.Common.{◌∙◌, length, sym, refl, ap, arith}
use Rattle.kd_token.specs.Table.{entry_at}
use Rattle.kd_token.proofs.Firsts.{clash_right}
use Rattle.kd_token.proofs.Visits.{accepted, entry_is, no_finish, too_many}
use Rattle.kd_token.proofs.verifier.finish.Goals as goal

pub returns-then-count-from-clause-judged : goal.returns-then-count-from-clause-judged
returns-then-count-from-clause-judged c =
    let here = entry_is c.args.table.now (length c.tokens-end.result.now) c.index-table-end.result (rw c.tokens-end.ensures.tokens (omega (arith, c.requires.passed.size))) c.index-table-end.is in
    let at = ap (λ xs. entry_at c.args.table.now (length xs)) (sym c.tokens-end.ensures.tokens) ∙ here ∙ c.in-Joined.is in
    too_many c.args.program.now c.in-Joined.shape c.in-Joined.count c.args.table.now c.requires.passed at (omega (arith, c.from.ensures, c.steps.ensures, c.if-count-from.true))

pub returns-then-is_bool-clause-judged : goal.returns-then-is_bool-clause-judged
returns-then-is_bool-clause-judged c =
    let here = entry_is c.args.table.now (length c.tokens-end.result.now) c.index-table-end.result (rw c.tokens-end.ensures.tokens (omega (arith, c.requires.passed.size))) c.index-table-end.is in
    let at = ap (λ xs. entry_at c.args.table.now (length xs)) (sym c.tokens-end.ensures.tokens) ∙ here ∙ c.in-Joined.is in
    accepted c.args.program.now c.in-Joined.shape c.in-Joined.count c.args.table.now c.requires.passed at (omega (arith, c.from.ensures, c.steps.ensures, c.if-count-from.false)) (c.if-is_bool.ensures.0 refl)

pub returns-else-is_bool-clause-judged : goal.returns-else-is_bool-clause-judged
returns-else-is_bool-clause-judged c =
    let here = entry_is c.args.table.now (length c.tokens-end.result.now) c.index-table-end.result (rw c.tokens-end.ensures.tokens (omega (arith, c.requires.passed.size))) c.index-table-end.is in
    let at = ap (λ xs. entry_at c.args.table.now (length xs)) (sym c.tokens-end.ensures.tokens) ∙ here ∙ c.in-Joined.is in
    no_finish c.args.program.now c.in-Joined.shape c.in-Joined.count c.args.table.now c.requires.passed at (omega (arith, c.from.ensures, c.steps.ensures, c.if-count-from.false)) (λ e. let t = c.if-is_bool.ensures.1 e in cc)

pub returns-in-Clash-clause-right : goal.returns-in-Clash-clause-right
returns-in-Clash-clause-right c =
    let end = length c.tokens-end.result.now in
    let here = entry_is c.args.table.now end c.index-table-end.result (rw c.tokens-end.ensures.tokens (omega (arith, c.requires.passed.size))) c.index-table-end.is in
    let at = ap (λ xs. entry_at c.args.table.now (length xs)) (sym c.tokens-end.ensures.tokens) ∙ here ∙ c.in-Clash.is in
    rw c.tokens-end.ensures.tokens (clash_right c.args.program.now (length c.args.program.now.tokens) c.args.table.now c.requires.passed at)
