use Rattle.std.proofs.Common.{◌∙◌, ap, take, drop}
use Rattle.kd_expr.specs.Lexing.{class_test}
use Rattle.kd_expr.proofs.Spans.{front_is, behind_is}
use Rattle.kd_expr.proofs.class.split.Goals as goal

pub returns-clause-front : goal.returns-clause-front
returns-clause-front c =
    c.split_at.ensures.front ∙ (ap (λ n. take n c.args.bytes.now) c.count_of.ensures.count ∙ front_is (class_test c.args.class) c.args.bytes.now)

pub returns-clause-behind : goal.returns-clause-behind
returns-clause-behind c =
    c.split_at.ensures.back ∙ (ap (λ n. drop n c.args.bytes.now) c.count_of.ensures.count ∙ behind_is (class_test c.args.class) c.args.bytes.now)
