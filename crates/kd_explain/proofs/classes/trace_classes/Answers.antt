use Rattle.std.proofs.Common.{arith, refl}
use Rattle.kd_explain.proofs.Testing.{joined, leads_end, leads_from, leads_on}
use Rattle.kd_explain.proofs.classes.trace_classes.Goals as goal

pub loop-i-init : goal.loop-i-init
loop-i-init c =
    leads_from c.args.message.now c.args.classes.now c.args.start c.args.start c.new-outcomes.result.items refl c.new-outcomes.ensures.items

pub loop-i-preserved : goal.loop-i-preserved
loop-i-preserved c =
    leads_on c.args.message.now c.args.classes.now c.args.start c.loop-i.outcomes.items c.push.new.self.items c.loop-i.names c.test.new.names c.loop-i.i
    c.in-Some.class.now c.in_ok-test-in-Some.field-0 c.in-Some.ensures c.in_ok-test-in-Some.ensures c.in_ok-push-in-Some.ensures.items c.loop-i.invariant

pub returns-clause-tested : goal.returns-clause-tested
returns-clause-tested c =
    leads_end c.args.message.now c.args.classes.now c.args.start c.loop-i.outcomes.items c.loop-i.names c.loop-i.i
    (omega (arith, c.len-i-end.ensures.count, c.loop-i-test.false)) c.loop-i.invariant

pub returns-clause-joined : goal.returns-clause-joined
returns-clause-joined c =
    joined c.args.message.now c.args.classes.now c.args.start c.loop-i.outcomes.items c.loop-i.names
    (leads_end c.args.message.now c.args.classes.now c.args.start c.loop-i.outcomes.items c.loop-i.names c.loop-i.i
    (omega (arith, c.len-i-end.ensures.count, c.loop-i-test.false)) c.loop-i.invariant)
