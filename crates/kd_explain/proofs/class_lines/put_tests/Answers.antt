use Rattle.std.proofs.Common.{arith, ◌∙◌}
use Rattle.std.specs.Prelude.{string_bytes}
use Rattle.kd_explain.proofs.Listing.{class_on, classes_end}
use Rattle.kd_explain.proofs.class_lines.put_tests.Goals as goal

pub loop-index-preserved : goal.loop-index-preserved
loop-index-preserved c =
    class_on (string_bytes c.loop-index.out) (string_bytes c.put_class.new.out) c.args.classes.now c.args.outcomes.now c.loop-index.index c.in-Some.class.now c.outcome_at.result
    c.in-Some.ensures c.outcome_at.ensures c.in_ok-put_class-in-Some.ensures ∙ c.loop-index.invariant

pub returns : goal.returns
returns c =
    classes_end (string_bytes c.loop-index.out) c.args.classes.now c.args.outcomes.now c.loop-index.index (omega (arith, c.len-index-end.ensures.count, c.loop-index-test.false)) ∙ c.loop-index.invariant
