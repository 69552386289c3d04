use Rattle.kd_log.proofs.Written.{words_are}
use Rattle.kd_log.proofs.events.words.words_of.Goals as goal

pub returns : goal.returns
returns c = words_are _ c.args.line.now c.cut.result.1.now c.cut-2.result.1.now c.cut.ensures c.cut-2.ensures c.cut-3.ensures
