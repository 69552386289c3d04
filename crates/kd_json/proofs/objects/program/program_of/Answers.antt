use Rattle.kd_expr.specs.View.{tree_of}
use Rattle.kd_json.proofs.Programs.{none_of_text, same_names}
use Rattle.kd_json.proofs.objects.program.program_of.Goals as goal

pub returns-in-Ok-clause-same : goal.returns-in-Ok-clause-same
returns-in-Ok-clause-same c = same_names c.args.text.now (tree_of c.in-Ok.expr) c.program_of_expr.result c.in-Ok.ensures.only c.program_of_expr.ensures.found

pub returns-in-Ok-clause-refused : goal.returns-in-Ok-clause-refused
returns-in-Ok-clause-refused c = none_of_text c.args.text.now (tree_of c.in-Ok.expr) c.program_of_expr.result c.in-Ok.ensures.only c.program_of_expr.ensures.refused

pub returns-in-Err-clause-refused : goal.returns-in-Err-clause-refused
returns-in-Err-clause-refused c = λ other program h. c.unread.ensures other (c.in-Err.ensures.only h.tree h.spelled)
