use Rattle.std.proofs.Common.{◌-◌, arith}
use Rattle.kd_rows.specs.Index.{row_in}
use Rattle.kd_rows.proofs.Frees.{outside_free}
use Rattle.kd_rows.proofs.Places.{apart, read_at}
use Rattle.kd_rows.proofs.Slots.{slot_at}
use Rattle.kd_rows.proofs.free.free_in.Goals as goal

pub returns-then-end-start : goal.returns-then-end-start
returns-then-end-start c = outside_free c.args.rows.now.rows c.args.bare.now c.args.first c.args.first c.args.last c.place_of-start.result c.taken_end-end.result c.first_outside.result c.requires.rise c.taken_end-end.ensures (omega arith) (λ a low less. absurd (omega arith))
    (λ i d before. c.place_of-start.ensures.below i d (omega arith)) c.first_outside.ensures

pub returns : goal.returns
returns c =
    let rows = c.args.rows.now.rows in
    let start = c.place_of-start.result in
    let end = c.taken_end-end.result in
    let row = row_in rows (end - 1) in
    let here = slot_at rows (end - 1) row (omega (arith, c.taken_end-end.ensures.in_range, c.taken_end-end.ensures.from_start)) in
    let at = read_at rows (end - 1) row row (omega (arith, c.taken_end-end.ensures.in_range, c.taken_end-end.ensures.from_start)) here in
    outside_free rows c.args.bare.now c.args.first _ c.args.last start end c.first_outside-2.result c.requires.rise c.taken_end-end.ensures
    (omega (arith, at, c.address-before.ensures, c.place_of-start.ensures.above (end - 1) row (omega (arith, c.taken_end-end.ensures.from_start)) (omega (arith, c.taken_end-end.ensures.in_range, c.taken_end-end.ensures.from_start))))
    (λ a low less. c.taken_end-end.ensures.taken (end - 1) row (omega (arith, c.taken_end-end.ensures.from_start)) (omega (arith, c.taken_end-end.ensures.from_start)) a low (omega (arith, at, c.address-before.ensures)))
    (λ i d before. omega (arith, apart rows c.requires.rise i (end - 1) d (omega arith) (omega (arith, c.taken_end-end.ensures.in_range)), read_at rows (end - 1) row d (omega (arith, c.taken_end-end.ensures.in_range)) here, c.address-before.ensures))
    c.first_outside-2.ensures
