use Rattle.std.proofs.lemmas.Result.{err_from_is_err_and}
use Rattle.std.proofs.Common.{◌≡◌, ℕ, ◌+◌, ◌-◌, ◌++◌, ◌∷◌, [], ◌∙◌, ap, subst, arith, length-append}
use Rattle.kd_token.specs.File.{token_bytes}
use Rattle.kd_token.specs.Reading.{token_at}
use Rattle.kd_token.proofs.Many.{AreFirst, ends, first_all, first_more, goes_on, is_done, spelled_more}
use Rattle.kd_token.proofs.reading.tokens_of.Goals as goal

pub tokens-preserved : goal.tokens-preserved
tokens-preserved c =
    let item = c.in_ok-item.item in
    let e : c.push.new.self.items ≡ c.tokens.tokens.items ++ item ∷ [] = c.in_ok-push.ensures.items in
    let behind : c.args.count - c.tokens.i ≡ c.args.count - (c.tokens.i + 1) + 1 = omega arith in
    let P : ℕ → Type 0 = λ n. AreFirst c.args.version n c.tokens.tokens.items in
    rw e (record {
      told = goes_on (token_at c.args.version) c.tokens.tokens.items c.args.count c.tokens.i c.tokens.reader item c.token.new.reader _ c.tokens-test.true c.in_ok-item.ensures.read c.tokens.invariant.told;
      spelled = spelled_more token_bytes c.tokens.tokens.items item c.args.reader.now.left c.tokens.reader.left c.token.new.reader.left c.tokens.invariant.spelled c.in_ok-item.ensures.found.0;
      each = first_more c.args.version (c.args.count - (c.tokens.i + 1)) c.tokens.tokens.items item (subst P behind c.tokens.invariant.each) c.in_ok-item.ensures.found.1;
      number = length-append c.tokens.tokens.items (item ∷ []) ∙ ap (λ n. n + 1) c.tokens.invariant.number;
    })

pub returns-in_err-item-clause-read : goal.returns-in_err-item-clause-read
returns-in_err-item-clause-read c =
    let p = err_from_is_err_and c.from_residual.result c.from_residual.ensures.1 in
    rw (p.1, p.2) (ends (token_at c.args.version) c.in_err-item.field-0.0 c.tokens.tokens.items c.args.count c.tokens.i c.tokens.reader _ c.tokens-test.true c.in_err-item.ensures.read c.tokens.invariant.told)

pub returns-clause-read : goal.returns-clause-read
returns-clause-read c = is_done (token_at c.args.version) c.tokens.tokens.items c.args.count c.tokens.i c.tokens.reader _ c.tokens-test.false c.tokens.invariant.told

pub returns-clause-found : goal.returns-clause-found
returns-clause-found c =
    let none : c.args.count - c.tokens.i ≡ 0 = omega arith in
    let P : ℕ → Type 0 = λ n. AreFirst c.args.version n c.tokens.tokens.items in
    let all : AreFirst c.args.version 0 c.tokens.tokens.items = subst P none c.tokens.invariant.each in
    (c.tokens.invariant.spelled, first_all c.args.version c.tokens.tokens.items all, omega arith)
