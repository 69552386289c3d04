use Rattle.kd_loops.proofs.Recorded.{batches_replay, records_replay}
use Rattle.kd_loops.proofs.laws.records_replay.Goals as goal

pub returns-clause-events : goal.returns-clause-events
returns-clause-events c = records_replay

pub returns-clause-batches : goal.returns-clause-batches
returns-clause-batches c = batches_replay
