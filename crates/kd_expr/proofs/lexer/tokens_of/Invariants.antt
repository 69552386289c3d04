use Rattle.std.proofs.Common.{◌≡◌, ◌≤◌, ◌+◌, ℕ, ◌++◌, length}
use Rattle.kd_expr.specs.Lexing.{tokens_from}
use Rattle.kd_expr.specs.View.{lexemes}
use Rattle.kd_expr.proofs.lexer.tokens_of.Given as goal

abbrev pub invariant-loop-first : goal.invariant-loop-first
invariant-loop-first l = record {
  place : l.at + length l.rest ≡ length l.text;
  same : (k : ℕ) × (length l.rest ≤ k) × (lexemes l.tokens.items ++ tokens_from k l.at l.rest ≡ tokens_from (length l.text) 0 l.text);
}

abbrev pub decreases-loop-first : goal.decreases-loop-first
decreases-loop-first l = length l.rest
