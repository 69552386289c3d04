use Rattle.std.proofs.Common.{arith}
use Rattle.kd_explain.proofs.Giving.{has_at, none_at_all, none_given, none_on}
use Rattle.kd_explain.specs.Gift.{class_among_gives}
use Rattle.kd_explain.proofs.gift.class_giving.Goals as goal

pub returns-then-gives_to_members : goal.returns-then-gives_to_members
returns-then-gives_to_members c =
    (omega (arith, c.len-i-end.ensures.count, c.loop-i-test.true), has_at (λ cs. class_among_gives c.args.gift cs c.args.names.now) c.args.classes.now c.loop-i.i c.in-Some.class.now _ c.in-Some.ensures c.if-gives_to_members.ensures, c.loop-i.invariant)

pub loop-i-preserved : goal.loop-i-preserved
loop-i-preserved c =
    none_on (λ cs. class_among_gives c.args.gift cs c.args.names.now) c.args.classes.now c.loop-i.i c.loop-i.invariant
    (has_at (λ cs. class_among_gives c.args.gift cs c.args.names.now) c.args.classes.now c.loop-i.i c.in-Some.class.now _ c.in-Some.ensures c.if-gives_to_members.ensures)

pub returns : goal.returns
returns c =
    none_at_all (λ cs. class_among_gives c.args.gift cs c.args.names.now) c.args.classes.now (none_given c.args.gift c.args.names.now) c.loop-i.i (omega (arith, c.len-i-end.ensures.count, c.loop-i-test.false)) c.loop-i.invariant
