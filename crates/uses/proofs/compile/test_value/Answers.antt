use Rattle.std.proofs.Common.{◌∙◌, ap}
use Rattle.kd_compile.specs.Compiled.{KeepsMeaning}
use Rattle.kd_expr.specs.View.{tree_of}
use Rattle.kd_machine.specs.Run.{Run}
use Rattle.kd_machine.specs.declared.run.Outcome.{Outcome}
use Rattle.uses.proofs.Results.{fact_of_some}
use Rattle.uses.proofs.compile.test_value.Goals as goal

pub returns : goal.returns
returns c =
    let program = c.in_ok-program.program in
    let outcome = c.in_ok-ok.field-0 in
    let message = c.args.message.now in
    let held = c.args.held.now in
    let keeps = fact_of_some (KeepsMeaning (tree_of c.args.test.now)) c.compile.result program c.in_ok-program.ensures.value c.compile.ensures.keeps message held c.len-len.ensures.message in
    let run = fact_of_some (Run program message held) c.eval.result outcome c.in_ok-ok.ensures.value c.eval.ensures.run in
    ap (λ (o : Outcome). o.value) (c.one_end.ensures program message held outcome keeps.0 run keeps.2.0) ∙ keeps.1
