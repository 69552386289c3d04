use Rattle.std.proofs.Common.{◌∙◌, Some, sym, ap}
use Rattle.kd_plain.specs.Output.{span_of}
use Rattle.kd_plain.proofs.Includes.{include_here, include_later, include_none}
use Rattle.kd_plain.proofs.include.include_in.Goals as goal

pub returns-then-is_include : goal.returns-then-is_include
returns-then-is_include c =
    ap Some c.directive.ensures ∙ sym (include_here c.loop-behind.rest.now (sym c.is_include.ensures ∙ c.if-is_include.true)) ∙ c.loop-behind.invariant

pub loop-behind-preserved : goal.loop-behind-preserved
loop-behind-preserved c =
    sym (include_later c.loop-behind.rest.now c.in-Some.behind.now (span_of c.in-Some.field-0-0) c.in-Some.ensures.first (sym c.is_include.ensures ∙ c.if-is_include.false)) ∙ c.loop-behind.invariant

pub returns : goal.returns
returns c = sym (include_none c.loop-behind.rest.now c.in_default.ensures.none) ∙ c.loop-behind.invariant
