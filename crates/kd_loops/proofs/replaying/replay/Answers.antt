use Rattle.kd_loops.proofs.replaying.replay.Goals as goal

pub returns-clause-replayed : goal.returns-clause-replayed
returns-clause-replayed g c = record {
  leaves = c.replay_lines.ensures.replayed;
  read = c.replay_lines.ensures.read;
  whole = c.replay_lines.ensures.whole;
  counted = c.replay_lines.ensures.counted;
  reached = c.replay_lines.ensures.reached;
}
