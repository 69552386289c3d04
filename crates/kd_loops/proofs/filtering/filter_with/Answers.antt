use Rattle.std.proofs.Common.{arith, inl, inr, refl}
use Rattle.std.proofs.lemmas.Result.{err_from_is_err_and}
use Rattle.kd_loops.proofs.Filtered.{filtered_bad, filtered_cut, filtered_end, filtered_memory, filtered_memory_at, filtered_read, filtered_too_long, goes_line, goes_none}
use Rattle.kd_loops.proofs.Going.{none_ahead}
use Rattle.kd_loops.proofs.filtering.filter_with.Goals as goal

pub returns-in_err-ahead-clause-filtered : goal.returns-in_err-ahead-clause-filtered
returns-in_err-ahead-clause-filtered g c = λ input old known told.
    let p = err_from_is_err_and c.from_residual.result c.from_residual.ensures.1 in
    rw (p.1, p.2) (filtered_memory (g.F.Filters.gives c.args.filter.now) _ _ _ _ _ _ (goes_none (g.F.Filters.gives c.args.filter.now) input old _ _ known told) (inl refl))

pub returns-in_err-line-clause-filtered : goal.returns-in_err-line-clause-filtered
returns-in_err-line-clause-filtered g c = λ input old known told.
    let p = err_from_is_err_and c.from_residual-in_err-line.result c.from_residual-in_err-line.ensures.1 in
    rw (p.1, p.2) (filtered_memory (g.F.Filters.gives c.args.filter.now) _ _ _ _ _ _ (goes_none (g.F.Filters.gives c.args.filter.now) input old _ _ known told) (inl refl))

pub loop-number-init : goal.loop-number-init
loop-number-init g c = record {
  room = c.in_ok-line.ensures.capacity;
  goes = λ input old known told. goes_none (g.F.Filters.gives c.args.filter.now) input old _ _ (none_ahead c.in_ok-ahead.ensures known) told;
}

pub returns-in_err-text-in-Ok-Line-clause-filtered :
    goal.returns-in_err-text-in-Ok-Line-clause-filtered
returns-in_err-text-in-Ok-Line-clause-filtered g c = λ input old known told.
    let p = err_from_is_err_and c.from_residual-in_err-text-in-Ok-Line.result c.from_residual-in_err-text-in-Ok-Line.ensures.1 in
    let goes = c.loop-number.invariant.goes input old known told in
    let found = rw c.in-Ok-Line.field-0-is at (c.in-Ok-Line.ensures.found goes.rest goes.known) in
    rw (p.1, p.2) (filtered_memory_at (g.F.Filters.gives c.args.filter.now) _ _ _ _ _ _ goes _ _ found)

pub returns-in_default-clause-filtered : goal.returns-in_default-clause-filtered
returns-in_default-clause-filtered g c = λ input old known told.
    let goes = c.loop-number.invariant.goes input old known told in
    let found = rw c.in-Ok-Line.field-0-is at (c.in-Ok-Line.ensures.found goes.rest goes.known) in
    let none = rw (c.in_default.is, c.deref.ensures.value) at c.in_ok-text-in-Ok-Line.ensures in
    filtered_bad (g.F.Filters.gives c.args.filter.now) _ _ _ _ _ _ goes _ _ found none

pub returns-in-Err-write_all-clause-filtered : goal.returns-in-Err-write_all-clause-filtered
returns-in-Err-write_all-clause-filtered g c = λ input old known told.
    let goes = c.loop-number.invariant.goes input old known told in
    let found = rw c.in-Ok-Line.field-0-is at (c.in-Ok-Line.ensures.found goes.rest goes.known) in
    let given = rw (c.in-Some.is, c.deref.ensures.value) at c.in_ok-text-in-Ok-Line.ensures in
    let part = rw c.as_bytes.ensures.value at c.in-Err-write_all.ensures.written in
    filtered_cut (g.F.Filters.gives c.args.filter.now) _ _ _ _ _ _ goes _ _ _ _ found given part

pub returns-in-Ok-End-clause-filtered : goal.returns-in-Ok-End-clause-filtered
returns-in-Ok-End-clause-filtered g c = λ input old known told.
    let goes = c.loop-number.invariant.goes input old known told in
    let found = rw c.in-Ok-End.field-0-is at (c.in-Ok-End.ensures.found goes.rest goes.known) in
    filtered_end (g.F.Filters.gives c.args.filter.now) _ _ _ _ _ _ goes _ _ found

pub returns-in-Ok-TooLong-clause-filtered : goal.returns-in-Ok-TooLong-clause-filtered
returns-in-Ok-TooLong-clause-filtered g c = λ input old known told.
    let goes = c.loop-number.invariant.goes input old known told in
    let found = rw c.in-Ok-TooLong.field-0-is at (c.in-Ok-TooLong.ensures.found goes.rest goes.known) in
    filtered_too_long (g.F.Filters.gives c.args.filter.now) _ _ _ _ _ _ goes _ _ found

pub returns-in-Err-clause-filtered : goal.returns-in-Err-clause-filtered
returns-in-Err-clause-filtered g c = λ input old known told.
    filtered_read (g.F.Filters.gives c.args.filter.now) _ _ _ _ _ _ (c.loop-number.invariant.goes input old known told) c.in-Err.ensures.failed

pub loop-number-preserved : goal.loop-number-preserved
loop-number-preserved g c = record {
  room = omega (arith, c.loop-number.invariant.room, c.in-Ok-Line.ensures.room);
  goes = λ input old known told.
      let goes = c.loop-number.invariant.goes input old known told in
      let found = rw c.in-Ok-Line.field-0-is at (c.in-Ok-Line.ensures.found goes.rest goes.known) in
      let given = rw (c.in-Some.is, c.deref.ensures.value) at c.in_ok-text-in-Ok-Line.ensures in
      let all = rw c.as_bytes.ensures.value at c.in-Ok.ensures.written in
      goes_line (g.F.Filters.gives c.args.filter.now) input old _ _ _ goes _ _ _ _ found given all;
}

pub returns-clause-filtered : goal.returns-clause-filtered
returns-clause-filtered g c = λ input old known told.
    filtered_memory (g.F.Filters.gives c.args.filter.now) _ _ _ _ _ _ (c.loop-number.invariant.goes input old known told) (inr (inr (omega arith)))
