use Rattle.std.proofs.Common.{◌≡◌, ◌<◌, ap, arith, length, length-append, vec_len}
use Rattle.kd_loops.proofs.Looking.{begun_all, begun_read, ended, fails_in, finds_end, finds_last, finds_line, finds_too_long, is_some, is_zero, on_err}
use Rattle.kd_loops.proofs.lines.next_line.Goals as goal

pub returns-in-Last-clause-found : goal.returns-in-Last-clause-found
returns-in-Last-clause-found g c = λ all e.
    finds_line (begun_read _ _ (c.loop.invariant.begun all e) c.in_ok-more.ensures.read) c.in-Last.ensures.takes c.in-Last.ensures.short

pub returns-in-None-clause-found : goal.returns-in-None-clause-found
returns-in-None-clause-found g c = λ all e.
    let t = c.in-None.ensures.takes in
    let none = is_zero (vec_len c.take_part.new.line) c.if-is_empty.ensures in
    let empty : length c.take_part.new.line.items ≡ 0 = omega (arith, none) in
    let p = begun_read c.more.new.self (g.S.Source.remaining c.more.new.source) (c.loop.invariant.begun all e) c.in_ok-more.ensures.read in
    finds_end (ended c.take_part.new.self c.take_part.new.line.items p t.0 t.1 t.2 (c.in_ok-more.ensures.end t.0)) empty

pub returns-in-None-2-clause-found : goal.returns-in-None-2-clause-found
returns-in-None-2-clause-found g c = λ all e.
    let t = c.in-None-2.ensures.takes in
    let more = is_some (vec_len c.take_part.new.line) c.if-is_empty.ensures in
    let some : 0 < length c.take_part.new.line.items = omega (arith, more) in
    let p = begun_read c.more.new.self (g.S.Source.remaining c.more.new.source) (c.loop.invariant.begun all e) c.in_ok-more.ensures.read in
    finds_last (ended c.take_part.new.self c.take_part.new.line.items p t.0 t.1 t.2 (c.in_ok-more.ensures.end t.0)) some c.in-None-2.ensures.short

pub returns-in-TooLong-clause-found : goal.returns-in-TooLong-clause-found
returns-in-TooLong-clause-found g c = λ all e.
    finds_too_long _ (begun_read _ _ (c.loop.invariant.begun all e) c.in_ok-more.ensures.read) c.in-TooLong.ensures.takes

pub returns-in_err-more-clause-cut : goal.returns-in_err-more-clause-cut
returns-in_err-more-clause-cut g c =
    on_err c.from_residual.result (λ all e. fails_in _ (c.loop.invariant.begun all e) c.in_err-more.ensures.none c.in_err-more.ensures.kept)

pub loop-preserved : goal.loop-preserved
loop-preserved g c =
    let t = c.in-Open.ensures.takes in
    record {
      count = omega (arith, ap length t.put, length-append c.loop.line.items c.more.new.self, t.some, c.loop.invariant.count);
      short = c.in-Open.ensures.short;
      room = omega (arith, c.in-Open.ensures.capacity, c.loop.invariant.room);
      begun = λ all e. begun_all (begun_read _ _ (c.loop.invariant.begun all e) c.in_ok-more.ensures.read) t;
    }
