use Rattle.std.proofs.Common.{◌∙◌, arith, ap, inl, inr, sym}
use Rattle.std.proofs.lemmas.Bool.{cases_eq}
use Rattle.kd_names.specs.Table.{definition_of}
use Rattle.kd_names.proofs.Rows.{named_is, named_none}
use Rattle.kd_names.proofs.lookup.option_named.Goals as goal

pub returns-in-Some : goal.returns-in-Some
returns-in-Some c = sym (named_is c.loop-code.code c.args.name.now c.in-Some.kind c.in-Some.ensures)

pub loop-code-preserved : goal.loop-code-preserved
loop-code-preserved c = λ code kind low less is.
    elim (cases_eq code c.loop-code.code) [
      | inl e ↦ c.in_default.ensures kind (ap definition_of (sym e) ∙ is)
      | inr other ↦ c.loop-code.invariant code kind low (omega (arith, less, other)) is
    ]

pub returns : goal.returns
returns c = sym (named_none c.args.name.now (λ code kind low less. c.loop-code.invariant code kind low (omega (arith, less))))
