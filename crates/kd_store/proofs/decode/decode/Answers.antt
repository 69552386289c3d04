use Rattle.std.proofs.lemmas.Result.{err_from_is_err_and}
use Rattle.kd_store.proofs.Strange.{no_number}
use Rattle.kd_store.proofs.decode.decode.Goals as goal

pub returns-in_err-number-clause-fault : goal.returns-in_err-number-clause-fault
returns-in_err-number-clause-fault c =
    let p = err_from_is_err_and c.from_residual-in_err-number.result c.from_residual-in_err-number.ensures.1 in rw (p.1, p.2) (no_number c.args.columns.now _ c.in_err-number.ensures.fault)
