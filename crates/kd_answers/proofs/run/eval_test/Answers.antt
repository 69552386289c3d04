use Rattle.std.proofs.Common.{arith}
use Rattle.kd_expr.specs.View.{tree_of}
use Rattle.kd_answers.proofs.Compiling.{bytes_all, runs}
use Rattle.kd_answers.proofs.run.eval_test.Goals as goal

pub returns-in-Ok : goal.returns-in-Ok
returns-in-Ok c =
    let e = c.in-Ok.ensures in
    let are = bytes_all c.args.datagram.now (λ i. let byte = c.type_inv.datagram i in omega (arith, byte)) in
    runs (tree_of c.args.test.now) c.in-Ok.verified c.args.datagram.now c.eval_datagram.result c.one_end.ensures e.refused
    (record { measures = e.measured; accepted = e.accepted; keeps = e.keeps }) are c.eval_datagram.ensures
