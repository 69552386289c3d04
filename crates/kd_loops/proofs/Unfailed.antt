-- A replay whose source cannot fail.
use Rattle.std.proofs.Common.{ℕ, ◌⊎◌, inl, inr, List}
use Rattle.std.specs.Prelude.{Result, Ok, Err}
use Rattle.kd_loops.specs.Replay.{Ends, Replays}
use Rattle.kd_event.specs.declared.event.Event.{Event}
use Rattle.kd_event.specs.declared.event.Handled.{Handled}
use Rattle.kd_loops.specs.declared.fault.ReplayFault.{ReplayFault}
use Rattle.kd_loops.specs.declared.fault.ReplayFault.TheVariants as faults
use Rattle.kd_loops.specs.declared.fault.ServeFault.{ServeFault}

other : {F P : Type 0} → (F → ⊥) → F ⊎ P → ⊥ ⊎ P
other never (inl failed) = absurd (never failed)
other never (inr p) = inr p

module _ {H : Type 0} (gives : H → Event → Handled → H → Type 0) (fails : H → Event → ServeFault → H → Type 0) (F : Type 0) (never : F → ⊥) where
  ends_without : (fault : ReplayFault) (number : ℕ) (lines : List (List ℕ)) (server new : H) (old out : List ℕ) → Ends gives fails F fault number lines server new old out
      → Ends gives fails ⊥ fault number lines server new old out
  ends_without (faults.BadLine k) number lines server new old out e = e
  ends_without (faults.Serve fault) number lines server new old out e = e
  ends_without faults.Write number lines server new old out e = e
  ends_without faults.Read number lines server new old out e = (other never e.0, e.1, e.2)
  ends_without faults.Memory number lines server new old out e = e

  pub replays_without : (result : Result ℕ ReplayFault) (lines : List (List ℕ)) (server new : H) (old out : List ℕ) → Replays gives fails F result lines server new old out
      → Replays gives fails ⊥ result lines server new old out
  replays_without (Ok count) lines server new old out r = r
  replays_without (Err fault) lines server new old out r = record {
    before = r.before;
    after = r.after;
    mid = r.mid;
    between = r.between;
    all = r.all;
    few = r.few;
    early = r.early;
    did = r.did;
    ends = ends_without fault _ _ _ _ _ _ r.ends;
  }
