use Rattle.std.proofs.Common.{ℕ, ◌-◌, List, arith, rules}
use Rattle.std.proofs.lemmas.List.{length-map}
use Rattle.kd_rows.specs.declared.row.Row.{Row}
use Rattle.kd_rows.specs.Open.{address_row, address_rows}
use Rattle.kd_rows.proofs.Places.{gap_after, no_gap, row_read, run_from}
use Rattle.kd_rows.proofs.addresses.first_outside.Goals as goal

pub returns-then-run-last : goal.returns-then-run-last
returns-then-run-last c =
    let rows : List Row = address_rows c.args.addresses.now in
    let long = length-map c.args.addresses.now address_row in
    let end : ℕ = c.first_past-end.result in
    gap_after _ _ _ _ _ (run_from rows c.args.first c.place_in-start.result end c.requires.rise c.place_in-start.ensures c.first_past-end.ensures.from (omega (arith, c.first_past-end.ensures.in_range, long))
    (λ h. search (rules, c.first_past-end.ensures.before h, row_read rows (end - 1) (omega (arith, h, c.first_past-end.ensures.in_range, long))))
    (λ h. search (rules, c.first_past-end.ensures.past (omega (arith, h, long)), row_read rows end h))) c.requires.order (omega arith)

pub returns-else-run-last : goal.returns-else-run-last
returns-else-run-last c =
    let rows : List Row = address_rows c.args.addresses.now in
    let long = length-map c.args.addresses.now address_row in
    let end : ℕ = c.first_past-end.result in
    no_gap _ _ _ _ _ (run_from rows c.args.first c.place_in-start.result end c.requires.rise c.place_in-start.ensures c.first_past-end.ensures.from (omega (arith, c.first_past-end.ensures.in_range, long))
    (λ h. search (rules, c.first_past-end.ensures.before h, row_read rows (end - 1) (omega (arith, h, c.first_past-end.ensures.in_range, long))))
    (λ h. search (rules, c.first_past-end.ensures.past (omega (arith, h, long)), row_read rows end h))) (omega arith)
