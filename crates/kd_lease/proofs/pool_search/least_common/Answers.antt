use Rattle.std.proofs.Common.{sym, ◌∙◌, arith}
use Rattle.kd_lease.specs.Rules.{asking}
use Rattle.kd_lease.specs.Seeking.{is_common_open}
use Rattle.kd_lease.proofs.Least.{found_next, none_at_last, none_from, none_next}
use Rattle.kd_lease.proofs.pool_search.least_common.Goals as goal

pub returns-in-None : goal.returns-in-None
returns-in-None c = none_from (asking c.args.question.now) c.args.subnet.now c.args.new c.args.range.first c.args.range.last c.loop-from.from c.loop-from.invariant.none c.in-None.ensures

pub returns-then-is_common : goal.returns-then-is_common
returns-then-is_common c = found_next (asking c.args.question.now) c.args.subnet.now c.args.new c.args.range.first c.args.range.last c.loop-from.from c.in-Some.address c.loop-from.invariant.above c.loop-from.invariant.none c.in-Some.ensures (sym c.is_common.ensures ∙ c.if-is_common.true)

pub returns-then-address-range : goal.returns-then-address-range
returns-then-address-range c =
    let none = none_next (asking c.args.question.now) c.args.subnet.now c.args.new c.args.range.first c.args.range.last c.loop-from.from c.in-Some.address c.loop-from.invariant.none c.in-Some.ensures (sym c.is_common.ensures ∙ c.if-is_common.false) in
    none_at_last (is_common_open (asking c.args.question.now) c.args.subnet.now c.args.new) c.args.range.first c.args.range.last _ (omega (arith, c.if-address-range.true)) none

pub loop-from-preserved : goal.loop-from-preserved
loop-from-preserved c = record {
  above = omega (arith, c.loop-from.invariant.above, c.in-Some.ensures.0);
  none = none_next (asking c.args.question.now) c.args.subnet.now c.args.new c.args.range.first c.args.range.last c.loop-from.from c.in-Some.address c.loop-from.invariant.none c.in-Some.ensures (sym c.is_common.ensures ∙ c.if-is_common.false);
}

pub returns : goal.returns
returns c = none_at_last (is_common_open (asking c.args.question.now) c.args.subnet.now c.args.new) c.args.range.first c.args.range.last c.loop-from.from (omega (arith, c.loop-from-test.false)) c.loop-from.invariant.none
