use Rattle.std.proofs.Common.{◌<◌, ◌-◌, arith, length}
use Rattle.kd_loops.specs.Lines.{line_limit}
use Rattle.kd_loops.proofs.Looking.{is_some, long_all, long_at, takes_all, takes_last}
use Rattle.kd_loops.proofs.ahead.Ahead.take_part.Goals as goal

pub returns-then-at-room-clause-takes : goal.returns-then-at-room-clause-takes
returns-then-at-room-clause-takes c =
    let is = rw c.deref.ensures.value at c.in-Some.ensures in
    let long : line_limit - length c.args.line.now.items < c.in-Some.at = omega (arith, c.len-room.ensures) in
    rw (← c.self.view_is) (long_at _ _ _ is long)

pub returns-then-chunk-room-clause-takes : goal.returns-then-chunk-room-clause-takes
returns-then-chunk-room-clause-takes c =
    let is = rw c.deref.ensures.value at c.in-None.ensures in
    let long = rw c.deref.ensures.value at c.if-chunk-room.true in
    rw (← c.self.view_is) (long_all _ c.args.line.now.items is (omega (arith, long, c.len-room.ensures)))

pub returns-else-at-room-clause-takes : goal.returns-else-at-room-clause-takes
returns-else-at-room-clause-takes c =
    let is = rw c.deref.ensures.value at c.in-Some.ensures in
    let put = rw c.deref.ensures.value at c.put.ensures.items in
    rw (← c.self.view_is) (takes_last c.self.inside.buffer.items _ _ c.self.invariant.0 c.self.invariant.1 _ _ _ is put)

pub returns-else-chunk-room-clause-takes : goal.returns-else-chunk-room-clause-takes
returns-else-chunk-room-clause-takes c =
    let is = rw c.deref.ensures.value at c.in-None.ensures in
    let put = rw c.deref.ensures.value at c.put-in-None.ensures.items in
    let some = rw c.deref.ensures.value at c.if-is_empty.ensures in
    rw (← c.self.view_is) (takes_all c.self.inside.buffer.items _ _ c.self.invariant.0 c.self.invariant.1 _ _ (is_some _ some) is put)
