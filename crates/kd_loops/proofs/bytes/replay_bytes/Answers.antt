use Rattle.std.proofs.Common.{◌≡◌, [], ℕ, List, Some, ap, refl, subst, sym, true≢false}
use Rattle.kd_loops.specs.Lines.{lines_of}
use Rattle.kd_loops.specs.Replay.{Replays}
use Rattle.kd_loops.proofs.Unfailed.{replays_without}
use Rattle.kd_loops.proofs.bytes.replay_bytes.Goals as goal

pub returns : goal.returns
returns g c =
    let left = c.replay-done.ensures.replayed.leaves c.args.input.now [] refl (ap (λ l. Some l) c.new-sink.ensures.bytes) in
    let told : left.out ≡ c.replay-done.new.sink.bytes.items = cc in
    subst (λ (out : List ℕ). Replays g.H.Serves.gives g.H.Serves.fails ⊥ c.replay-done.result (lines_of c.args.input.now) c.args.server.now c.replay-done.new.server [] out) told
    (replays_without g.H.Serves.gives g.H.Serves.fails _ (λ e. true≢false (sym e)) _ _ _ _ _ _ left.replays)
