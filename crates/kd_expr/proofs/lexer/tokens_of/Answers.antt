use Rattle.std.proofs.Common.{◌∙◌, sym, ap, subst, arith, length, [], ◌∷◌, List, ◌+◌, ◌-◌}
use Rattle.std.proofs.lemmas.List.{map-append}
use Rattle.kd_expr.specs.Lexical.{Lexeme}
use Rattle.kd_expr.specs.Lexing.{tokens_from}
use Rattle.kd_expr.specs.View.{lexemes, lexeme_of}
use Rattle.kd_expr.proofs.Texts.{Left, cut_shorter, blank_left, word_left, bad_left, end_left}
use Rattle.kd_expr.proofs.lexer.tokens_of.Goals as goal

pub loop-first-preserved-then-is_blank : goal.loop-first-preserved-then-is_blank
loop-first-preserved-then-is_blank c = record {
  place = omega (arith, c.loop-first.invariant.place, c.in-Some.ensures.cases.1);
  same = blank_left (lexemes c.loop-first.tokens.items) c.loop-first.at c.in-Some.first.now c.in-Some.after_blank.now c.loop-first.rest.now _ c.in-Some.ensures.cases.0 (sym c.if-is_blank.ensures) c.loop-first.invariant.same;
}

pub overflow_sub-at : goal.overflow_sub-at
overflow_sub-at c = omega (arith, cut_shorter c.loop-first.at c.loop-first.rest.now (lexeme_of c.in-Some-word_at.token) c.in-Some-word_at.after.now (sym c.in-Some-word_at.ensures))

pub loop-first-smaller : goal.loop-first-smaller
loop-first-smaller c = cut_shorter c.loop-first.at c.loop-first.rest.now (lexeme_of c.in-Some-word_at.token) c.in-Some-word_at.after.now (sym c.in-Some-word_at.ensures)

pub loop-first-preserved : goal.loop-first-preserved
loop-first-preserved c = record {
  place = omega (arith, c.loop-first.invariant.place, cut_shorter c.loop-first.at c.loop-first.rest.now (lexeme_of c.in-Some-word_at.token) c.in-Some-word_at.after.now (sym c.in-Some-word_at.ensures));
  same = subst (λ (v : List Lexeme). Left v (c.loop-first.at + (length c.loop-first.rest.now - length c.in-Some-word_at.after.now)) c.in-Some-word_at.after.now (tokens_from (length c.args.text.now) 0 c.args.text.now))
      (sym (ap (λ v. lexemes v) c.in_ok-push-in-Some-word_at.ensures.items ∙ map-append lexeme_of c.loop-first.tokens.items (c.in-Some-word_at.token ∷ [])))
      (word_left (lexemes c.loop-first.tokens.items) c.loop-first.at c.in-Some.first.now c.in-Some.after_blank.now c.loop-first.rest.now (lexeme_of c.in-Some-word_at.token) c.in-Some-word_at.after.now _ c.in-Some.ensures.cases.0 (sym c.if-is_blank.ensures) (sym c.in-Some-word_at.ensures) c.loop-first.invariant.same);
}

pub returns-in-None : goal.returns-in-None
returns-in-None c =
    ap (λ v. lexemes v) c.in_ok-push-in-None.ensures.items
    ∙ (map-append lexeme_of c.loop-first.tokens.items (_ ∷ [])
    ∙ bad_left (lexemes c.loop-first.tokens.items) c.loop-first.at c.in-Some.first.now c.in-Some.after_blank.now c.loop-first.rest.now _ c.in-Some.ensures.cases.0 (sym c.if-is_blank.ensures) (sym c.in-None.ensures) c.loop-first.invariant.same)

pub returns : goal.returns
returns c = end_left (lexemes c.loop-first.tokens.items) c.loop-first.at c.loop-first.rest.now _ c.in_default.ensures.cases c.loop-first.invariant.same
