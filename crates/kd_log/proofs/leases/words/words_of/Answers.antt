use Rattle.kd_log.proofs.Printed.{words_are}
use Rattle.kd_log.proofs.leases.words.words_of.Goals as goal

pub returns : goal.returns
returns c = words_are _ c.args.line.now c.cut.result.1.now c.cut-2.result.1.now c.cut-3.result.1.now c.cut-4.result.1.now c.cut-5.result.1.now c.cut-6.result.1.now c.cut-4.result.0.now c.cut-6.result.0.now
    c.cut.ensures c.cut-2.ensures c.cut-3.ensures c.cut-4.ensures c.cut-5.ensures c.cut-6.ensures c.cut-7.ensures
