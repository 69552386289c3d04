use Rattle.std.proofs.Common.{ℕ, ◌-◌, List, arith, rules}
use Rattle.kd_rows.specs.declared.row.Row.{Row}
use Rattle.kd_rows.proofs.Places.{place_from, row_read}
use Rattle.kd_rows.proofs.blocks.Blocks.place_of.Goals as goal

pub returns : goal.returns
returns c =
    let rows : List Row = c.args.self.now.rows in
    let place : ℕ = c.first_past.result in
    place_from rows c.args.block place c.requires (omega (arith, c.first_past.ensures.in_range, c.len.ensures))
    (λ h. search (rules, c.first_past.ensures.before h, row_read rows (place - 1) (omega (arith, h, c.first_past.ensures.in_range, c.len.ensures))))
    (λ h. search (rules, c.first_past.ensures.past (omega (arith, h, c.len.ensures)), row_read rows place h))
