use Rattle.std.proofs.Common.{refl}
use Rattle.kd_expr.specs.View.{tree_of}
use Rattle.kd_json.proofs.Programs.{compiled}
use Rattle.kd_json.proofs.objects.program.program_of_test.Goals as goal

pub returns-in-Ok-clause-found : goal.returns-in-Ok-clause-found
returns-in-Ok-clause-found c =
    compiled (tree_of c.args.test.now) (tree_of c.args.test.now) c.in-Ok.program refl c.requires
    c.in-Ok.ensures.measured c.in-Ok.ensures.accepted c.in-Ok.ensures.keeps c.in-Ok.ensures.refused
