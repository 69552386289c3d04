use Rattle.std.proofs.Common.{◌≡◌, ◌<◌, List, arith, length, subst, sym, take}
use Rattle.std.proofs.lemmas.List.{length-set, length-take, take_more_set}
use Rattle.kd_event.specs.declared.event.Event.{Event}
use Rattle.kd_loops.specs.Answering.{Gathers}
use Rattle.kd_loops.proofs.Arrivals.{gathers_first, gathers_more}
use Rattle.kd_loops.proofs.serving.gather.Goals as goal

pub loop-count-init : goal.loop-count-init
loop-count-init g c =
    let event = c.arrive.new.self in
    record {
      some = omega arith;
      few = omega (arith, c.requires.left);
      within = omega (arith, length-set c.args.buffers.now 0 event, c.requires.buffers);
      gathers = subst (λ (es : List Event). Gathers (g.L.Link.trace c.args.link.now) (g.L.Link.trace c.arrive.new.link) es) (sym (take_more_set c.args.buffers.now 0 event c.requires.buffers))
          (gathers_first (g.L.Link.trace c.args.link.now) (g.L.Link.trace c.args.link.now) _ event c.in_ok-arrive.ensures.came);
    }

pub loop-count-preserved : goal.loop-count-preserved
loop-count-preserved g c =
    let l = c.loop-count in
    let event = c.arrive_waiting.new.self in
    let less : l.count < length l.buffers = omega arith in
    let count : length (take l.count l.buffers) ≡ l.count = omega (arith, length-take l.count l.buffers) in
    record {
      some = omega arith;
      few = omega (arith, c.if-count-left.true);
      within = omega (arith, length-set l.buffers l.count event);
      gathers = subst (λ (es : List Event). Gathers (g.L.Link.trace c.args.link.now) (g.L.Link.trace c.arrive_waiting.new.link) es) (sym (take_more_set l.buffers l.count event less))
          (gathers_more _ (g.L.Link.trace l.link) _ event (take l.count l.buffers) (omega (arith, l.invariant.some)) l.invariant.gathers c.if-not-arrive_waiting.ensures);
    }
