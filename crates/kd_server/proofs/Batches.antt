-- Events that are handled together: the rows that they set, and how the batch ends.
use Rattle.std.proofs.Common.{◌≡◌, ◌≢◌, ◌⊎◌, inl, inr, ℕ, List, [], ◌∷◌, Option, Some, None, false, is_some, drop, take, refl, sym, subst, ◌∙◌}
use Rattle.std.proofs.lemmas.List.{take-append-drop}
use Rattle.kd_event.specs.declared.event.Event.{Event}
use Rattle.kd_event.specs.declared.event.Handled.{Handled}
use Rattle.kd_keeps.specs.declared.fault.StoreFault.{StoreFault}
use Rattle.kd_keeps.specs.declared.keeps.Keeps.{Ghosts}
use Rattle.kd_lease.specs.Change.{after}
use Rattle.kd_loops.specs.History.{Halts, History}
use Rattle.kd_loops.specs.declared.fault.ServeFault.{ServeFault}
use Rattle.kd_loops.specs.declared.fault.ServeFault.TheVariants as faults
use Rattle.kd_rows.specs.declared.row.Row.{Row}
use Rattle.kd_server.specs.Batch.{Batched, IsChangedBy, IsCommitted, LeavesOut}
use Rattle.kd_server.specs.Server.{ServerState, StepsTo}
use Rattle.kd_loops.proofs.Histories.{runs_none}

-- an event that is not handled leaves the rows
pub left_rows : (fault : ServeFault) (rows : List Row) (event : Event) (new : List Row) → LeavesOut rows event fault new → new ≡ rows
left_rows faults.MomentTooLarge rows event new out = out.1
left_rows faults.Memory rows event new out = out.2
left_rows (faults.Store why) rows event new out = absurd out
left_rows faults.Failed rows event new out = absurd out

module _ (steps : List Row → Event → Handled → List Row → Type 0) (events : List Event) (first : List Row) where
  -- there is nothing to commit and the rows are the first ones, or events have changed them
  abbrev pub Moved : List Row → List Row → Type 0
  Moved rows set = ((set ≡ []) × (rows ≡ first)) ⊎ IsChangedBy steps events first

  -- the same after one more event
  pub moved_more : (rows set next new : List Row) (i : ℕ) (list : List Handled) → History steps first (take i events) list next → Moved rows set
      → ((next ≡ rows) × (new ≡ set)) ⊎ (next ≢ rows) → Moved next new
  moved_more rows set next new i list h (inr changed) moves = inr changed
  moved_more rows set next new i list h (inl none) (inl same) = inl (same.1 ∙ none.0, same.0 ∙ none.1)
  moved_more rows set next new i list h (inl none) (inr other) = inr (record {
    early = take i events;
    later = drop i events;
    all = sym (take-append-drop i events);
    list = list;
    mid = next;
    history = h;
    changed = subst (λ (r : List Row). next ≢ r) none.1 other;
  })

  -- and if the event is not handled
  pub moved_still : (rows set next new : List Row) → Moved rows set → next ≡ rows → ((next ≡ rows) × (new ≡ set)) ⊎ (next ≢ rows) → (new ≡ []) ⊎ IsChangedBy steps events first
  moved_still rows set next new (inr changed) still moves = inr changed
  moved_still rows set next new (inl none) still (inl same) = inl (same.1 ∙ none.0)
  moved_still rows set next new (inl none) still (inr other) = absurd (other still)

-- no event is left out because of a fault of the store
no_store : (why : StoreFault) (after : List Event) (list : List Handled) (mid new : List Row) → Halts LeavesOut (Some (faults.Store why)) after list mid new → ⊥
no_store why [] list mid new n = let e = n.want in cc
no_store why (event ∷ after) list mid new (inl out) = out
no_store why (event ∷ after) list mid new (inr n) = let e = n.want in cc

-- nor because the store had failed earlier
no_failed : (after : List Event) (list : List Handled) (mid new : List Row) → Halts LeavesOut (Some faults.Failed) after list mid new → ⊥
no_failed [] list mid new n = let e = n.want in cc
no_failed (event ∷ after) list mid new (inl out) = out
no_failed (event ∷ after) list mid new (inr n) = let e = n.want in cc

-- events that are committed are a batch
pub committed_is : {S : Type 0} (g : Ghosts S) (old : ServerState S) (events : List Event) (list : List Handled) (fault : Option ServeFault) (new : ServerState S)
    → IsCommitted g old events list fault new → Batched g old events list fault new
committed_is g old events list None new a = a
committed_is g old events list (Some faults.MomentTooLarge) new a = a
committed_is g old events list (Some faults.Memory) new a = a
committed_is g old events list (Some (faults.Store why)) new a = absurd (no_store why a.runs.after list a.runs.mid new.rows a.runs.halts)
committed_is g old events list (Some faults.Failed) new a = absurd (no_failed a.runs.after list a.runs.mid new.rows a.runs.halts)

-- if memory runs out before the first event, nothing changes
pub not_begun_is : {S : Type 0} (g : Ghosts S) (old : ServerState S) (events : List Event) (list : List Handled) → is_some (g.fault old.store) ≡ false → list ≡ []
    → IsCommitted g old events list (Some faults.Memory) old
not_begun_is g old events list worked none = record {
  worked = worked;
  ports = refl;
  config = refl;
  runs = runs_none (StepsTo old.config old.ports) LeavesOut events list old.rows none;
  store = record { works = worked; clean = λ clean. clean; holds = λ clean holds. holds };
}
