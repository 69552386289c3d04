-- Batches that were served, and then more.
use Rattle.std.proofs.Common.{◌≡◌, ℕ, Bool, ◌+◌, ◌≤◌, List, [], ◌∷◌, ◌++◌, Option, None, Some, false, length, map, true, refl, sym, ap, ◌∙◌, subst, arith}
use Rattle.std.proofs.KnownBytes.{Appends-nil, Appends-trans}
use Rattle.std.proofs.lemmas.Grind.{flat_map-append}
use Rattle.std.proofs.lemmas.List.{append-nil, length-append, length-map}
use Rattle.std.specs.List.{flat_map}
use Rattle.std.specs.Io.KnownBytes.{Appends}
use Rattle.kd_event.specs.declared.event.Event.{Event}
use Rattle.kd_event.specs.declared.event.Handled.{Handled}
use Rattle.kd_loops.specs.Answering.{AreCut, AreTold, Gathers}
use Rattle.kd_loops.specs.Ahead.{clocks_asked}
use Rattle.kd_loops.specs.Arriving.{coming, event_of}
use Rattle.kd_loops.specs.Handling.{loop_fault_of}
use Rattle.kd_loops.specs.Parts.{WritesPart}
use Rattle.kd_loops.specs.Recording.{record_line}
use Rattle.kd_loops.specs.Serving.{Answered, Batch, EndsServing, Follow, HasCut, HasFailed, HasServed, HasRunAhead, IsUnrecorded, Passes, Timed, Traffic, gathering, packets_of, ran_ahead, record_of, text_of, texts_of, trace_of}
use Rattle.kd_loops.specs.declared.clocks.Clocks.{Clocks}
use Rattle.kd_loops.specs.declared.fault.ServeFault.{ServeFault}
use Rattle.kd_loops.specs.declared.fault.ServeFault.TheVariants as serving
use Rattle.kd_loops.specs.declared.happening.Happening.{Happening}
use Rattle.kd_loops.specs.Trace.{Grows}
use Rattle.kd_loops.proofs.Growing.{grows_none, grows_trans}

-- things pass, and then more
pub passes_then : (old mid new : Traffic) (a b : List Happening) (r s w x : List ℕ) → Passes old mid a r w → Passes mid new b s x → Passes old new (a ++ b) (r ++ s) (w ++ x)
passes_then old mid new a b r s w x p q = record {
  trace_grows = grows_trans old.trace mid.trace new.trace a b p.trace_grows q.trace_grows;
  recorded_grows = Appends-trans old.recorded mid.recorded new.recorded r s p.recorded_grows q.recorded_grows;
  written_grows = Appends-trans old.written mid.written new.written w x p.written_grows q.written_grows;
}

module _ {H : Type 0} (limit : Option ℕ) (latest : H → ℕ) (batches : H → List Event → List Handled → Option ServeFault → H → Type 0) where
  follow_then : (list more : List Batch) (old mid new : Timed H) → Follow limit latest batches old list mid → Follow limit latest batches mid more new
      → Follow limit latest batches old (list ++ more) new
  follow_then [] more old mid new same f = subst (λ (s : Timed H). Follow limit latest batches s more new) same f
  follow_then (b ∷ list) more old mid new f g = (f.0, (f.1.0, f.1.1, follow_then list more (record { server = f.1.0; clocks = b.clocks }) mid new f.1.2 g))

  -- nothing was served yet
  pub served_none : (old : Timed H) (traffic : Traffic) → HasServed limit latest batches 0 old old traffic traffic
  served_none old traffic = record {
    list = [];
    counted = refl;
    follow = refl;
    passes = record {
      trace_grows = grows_none traffic.trace;
      recorded_grows = Appends-nil traffic.recorded;
      written_grows = Appends-nil traffic.written;
    };
  }

  -- batches were served, and then more
  pub served_then : (n k : ℕ) (old mid new : Timed H) (before between after : Traffic) → HasServed limit latest batches n old mid before between
      → HasServed limit latest batches k mid new between after → HasServed limit latest batches (n + k) old new before after
  served_then n k old mid new before between after a b =
      record {
        list = a.list ++ b.list;
        counted = ap length (flat_map-append (λ (x : Batch). x.arrivals) a.list b.list)
            ∙ length-append (flat_map (λ (x : Batch). x.arrivals) a.list) (flat_map (λ (x : Batch). x.arrivals) b.list)
            ∙ ap (λ x. x + length (flat_map (λ (x : Batch). x.arrivals) b.list)) a.counted ∙ ap (λ x. n + x) b.counted;
        follow = follow_then a.list b.list old mid new a.follow b.follow;
        passes = rw (flat_map-append trace_of a.list b.list, flat_map-append record_of a.list b.list, flat_map-append texts_of a.list b.list)
            (passes_then before between after _ _ _ _ _ _ a.passes b.passes);
      }

  -- a batch came, and the clocks were read
  module _ (old : Timed H) (events : List Event) (clocks : Clocks) (trace between asked : Option (List Happening)) (recorded written : Option (List ℕ))
      (g : Gathers trace between events) (a : Grows between asked (clocks_asked clocks)) where
    grows_in : Grows trace asked (gathering g.arrivals clocks)
    grows_in = grows_trans trace between asked (coming true g.arrivals) (clocks_asked clocks) g.grows a

    counted_in : length g.arrivals ≡ length events
    counted_in = sym (length-map g.arrivals event_of) ∙ ap length g.are

    ran_in : (said : Bool) → ran_ahead limit latest batches old clocks events ≡ said → ran_ahead limit latest batches old clocks (map event_of g.arrivals) ≡ said
    ran_in said is = subst (λ (es : List Event). ran_ahead limit latest batches old clocks es ≡ said) (sym g.are) is

    -- one of its events is ahead
    pub cut_off : (left : ℕ) → length events ≤ left → ran_ahead limit latest batches old clocks events ≡ true
        → HasRunAhead limit latest batches left old (record { trace = trace; recorded = recorded; written = written }) (record { trace = asked; recorded = recorded; written = written })
    cut_off left few is = record {
      arrivals = g.arrivals;
      few = omega (arith, counted_in);
      clocks = clocks;
      ahead = ran_in true is;
      passes = record { trace_grows = grows_in; recorded_grows = Appends-nil recorded; written_grows = Appends-nil written };
    }

    -- a prefix of its lines was recorded
    pub unrecorded : (left : ℕ) (records : Option (List ℕ)) → length events ≤ left → ran_ahead limit latest batches old clocks events ≡ false
        → WritesPart recorded records (flat_map record_line events)
        → IsUnrecorded limit latest batches left old (record { trace = trace; recorded = recorded; written = written }) (record { trace = asked; recorded = records; written = written })
    unrecorded left records few is put = record {
      arrivals = g.arrivals;
      few = omega (arith, counted_in);
      recordable = g.recordable;
      clocks = clocks;
      in_time = ran_in false is;
      part = put.part;
      more = put.more;
      cut = ap (flat_map record_line) g.are ∙ put.cut;
      passes = record { trace_grows = grows_in; recorded_grows = put.written; written_grows = Appends-nil written };
    }

    -- it was recorded, and what the server gives for it
    module _ (new : H) (list : List Handled) (fault : Option ServeFault) (gone : Option (List Happening)) (records texts : Option (List ℕ))
        (is : ran_ahead limit latest batches old clocks events ≡ false) (put : Appends recorded records (flat_map record_line events))
        (given : batches old.server events list fault new) where
      -- its events are those of the datagrams that came, and what was recorded is their lines
      put_in : Appends recorded records (flat_map record_line (map event_of g.arrivals))
      put_in = subst (λ (es : List Event). Appends recorded records (flat_map record_line es)) (sym g.are) put

      given_in : (answered : List Handled) → answered ≡ list → batches old.server (map event_of g.arrivals) answered fault new
      given_in answered same = subst (λ (es : List Event). batches old.server es answered fault new) (sym g.are)
          (subst (λ (l : List Handled). batches old.server events l fault new) (sym same) given)

      passes_one : (t : AreTold list asked gone written texts)
          → Passes (record { trace = trace; recorded = recorded; written = written }) (record { trace = gone; recorded = records; written = texts })
          (gathering g.arrivals clocks ++ flat_map packets_of t.told) (flat_map record_line (map event_of g.arrivals)) (flat_map text_of t.told)
      passes_one t = record {
        trace_grows = grows_trans trace asked gone (gathering g.arrivals clocks) (flat_map packets_of t.told) grows_in t.grows;
        recorded_grows = put_in;
        written_grows = t.appended;
      }

      -- all of it was handled
      pub served_one : (count : ℕ) → fault ≡ None → count ≡ length events → AreTold list asked gone written texts
          → HasServed limit latest batches count old (record { server = new; clocks = clocks }) (record { trace = trace; recorded = recorded; written = written })
          (record { trace = gone; recorded = records; written = texts })
      served_one count none counted t =
          let b : Batch = record { arrivals = g.arrivals; recordable = g.recordable; clocks = clocks; answers = t.told } in
          record {
            list = b ∷ [];
            counted = ap length (append-nil g.arrivals) ∙ counted_in ∙ sym counted;
            follow = (ran_in false is, (new, subst (λ (f : Option ServeFault). batches old.server (map event_of g.arrivals) (map (λ (a : Answered). a.handled) t.told) f new) none (given_in _ t.are), refl));
            passes = rw (append-nil (trace_of b), append-nil (record_of b), append-nil (texts_of b)) (passes_one t);
          }

      -- it has a fault
      pub failed_one : (f : ServeFault) (left : ℕ) → fault ≡ Some f → length events ≤ left → AreTold list asked gone written texts
          → HasFailed limit latest batches f left old new (record { trace = trace; recorded = recorded; written = written })
          (record { trace = gone; recorded = records; written = texts })
      failed_one f left some few t = record {
        batch = record { arrivals = g.arrivals; recordable = g.recordable; clocks = clocks; answers = t.told };
        few = omega (arith, counted_in);
        in_time = ran_in false is;
        given = subst (λ (x : Option ServeFault). batches old.server (map event_of g.arrivals) (map (λ (a : Answered). a.handled) t.told) x new) some (given_in _ t.are);
        passes = passes_one t;
      }

      -- a prefix of one of its texts was written
      pub cut_one : (left : ℕ) → length events ≤ left → AreCut list asked gone written texts
          → HasCut limit latest batches left old new (record { trace = trace; recorded = recorded; written = written })
          (record { trace = gone; recorded = records; written = texts })
      cut_one left few t = record {
        arrivals = g.arrivals;
        few = omega (arith, counted_in);
        recordable = g.recordable;
        clocks = clocks;
        in_time = ran_in false is;
        told = t.told;
        last = t.last;
        untold = t.untold;
        fault = fault;
        given = given_in _ (sym t.are);
        part = t.part;
        more = t.more;
        cut = t.cut;
        passes = record {
          trace_grows = grows_trans trace asked gone (gathering g.arrivals clocks) (flat_map packets_of (t.told ++ t.last ∷ [])) grows_in t.grows;
          recorded_grows = put_in;
          written_grows = t.appended;
        };
      }

  -- serving ends at the fault of a batch
  pub ends_fault : (fault : ServeFault) (left : ℕ) (old : Timed H) (new : H) (before after : Traffic) → HasFailed limit latest batches fault left old new before after
      → EndsServing limit latest batches (loop_fault_of fault) left old new before after
  ends_fault serving.MomentTooLarge left old new before after h = (λ e. cc, h)
  ends_fault serving.Memory left old new before after h = h
  ends_fault (serving.Store fault) left old new before after h = (λ e. cc, h)
  ends_fault serving.Failed left old new before after h = (λ e. cc, h)
