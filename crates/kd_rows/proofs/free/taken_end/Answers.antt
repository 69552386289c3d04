use Rattle.std.proofs.Common.{ℕ, ◌-◌, ◌<◌, List, arith, length, rules}
use Rattle.std.proofs.iter.Serving.{serving}
use Rattle.kd_rows.specs.declared.row.Row.{Row}
use Rattle.kd_rows.proofs.Frees.{no_fewer, no_lower, no_nearer, stand, step_open, step_taken, taken_end_from}
use Rattle.kd_rows.proofs.free.taken_end.Goals as goal

pub first_past-requires-clause-callable : goal.first_past-requires-clause-callable
first_past-requires-clause-callable c = λ i from to.
    let s = stand c.args.rows.now.rows c.args.bare.now c.args.first c.args.start c.place_in-skip.result c.requires.rise c.requires.bare c.requires.apart c.requires.start c.place_in-skip.ensures in
    let within : i < length c.args.rows.now.rows = omega (arith, to, c.len.ensures) in
    grind (serving, arith, no_lower _ _ _ _ _ s i from within, no_nearer _ _ _ _ _ s i from within, no_fewer _ _ _ _ _ s i from within)

pub returns : goal.returns
returns c =
    let rows : List Row = c.args.rows.now.rows in
    let end : ℕ = c.first_past.result in
    let s = stand rows c.args.bare.now c.args.first c.args.start c.place_in-skip.result c.requires.rise c.requires.bare c.requires.apart c.requires.start c.place_in-skip.ensures in
    taken_end_from rows c.args.bare.now c.args.first c.args.start end c.requires.rise c.first_past.ensures.from (omega (arith, c.first_past.ensures.in_range, c.len.ensures))
    (λ h. search (rules, c.first_past.ensures.before h, step_taken rows c.args.bare.now c.args.first c.args.start c.place_in-skip.result s (end - 1) (omega arith) (omega (arith, h, c.first_past.ensures.in_range, c.len.ensures))))
    (λ h. search (rules, c.first_past.ensures.past (omega (arith, h, c.len.ensures)), step_open rows c.args.bare.now c.args.first c.args.start c.place_in-skip.result s end c.first_past.ensures.from h))
