use Rattle.std.proofs.Common.{◌+◌, ◌∙◌, arith, refl}
use Rattle.std.proofs.lemmas.Result.{err_from_is_err_and}
use Rattle.kd_loops.specs.Serving.{traffic}
use Rattle.kd_loops.proofs.Batches.{served_none, served_then}
use Rattle.kd_loops.proofs.serving.serve_from.Goals as goal

pub loop-left-init : goal.loop-left-init
loop-left-init g c = record {
  room = c.requires.text;
  buffers = c.requires.buffers;
  kept = refl;
  limit = refl;
  done = 0;
  all = omega arith;
  served = served_none c.args.watch.limit g.H.ServesAll.latest g.H.ServesAll.batches _ _;
}

pub loop-left-preserved : goal.loop-left-preserved
loop-left-preserved g c = record {
  room = omega (arith, c.loop-left.invariant.room, c.in_ok-served.ensures.room);
  buffers = omega (arith, c.loop-left.invariant.buffers);
  kept = c.in_ok-served.ensures.kept ∙ c.loop-left.invariant.kept;
  limit = c.loop-left.invariant.limit;
  done = c.loop-left.invariant.done + c.in_ok-served.served;
  all = omega (arith, c.loop-left.invariant.all, c.in_ok-served.ensures.few);
  served = served_then c.args.watch.limit g.H.ServesAll.latest g.H.ServesAll.batches _ _ _ _ _ _ _ _ c.loop-left.invariant.served c.in_ok-served.ensures.served;
}

pub returns-in_err-served-clause-served : goal.returns-in_err-served-clause-served
returns-in_err-served-clause-served g c =
    let p = err_from_is_err_and c.from_residual.result c.from_residual.ensures.1 in
    rw (p.1, p.2) (record {
      done = c.loop-left.invariant.done;
      left = c.loop-left.left;
      all = c.loop-left.invariant.all;
      some = omega (arith, c.loop-left-test.true);
      mid = record { server = c.loop-left.server; clocks = c.loop-left.clocks };
      between = traffic g.L.Link g.R.Sink g.W.Sink c.loop-left.link c.loop-left.journal c.loop-left.sink;
      served = c.loop-left.invariant.served;
      ends = c.in_err-served.ensures.ended;
    })
