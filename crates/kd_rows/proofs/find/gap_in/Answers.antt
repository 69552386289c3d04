use Rattle.std.proofs.Common.{arith, rules}
use Rattle.kd_rows.proofs.Places.{gap_after, no_gap, run_from}
use Rattle.kd_rows.proofs.find.gap_in.Goals as goal

pub returns-then-run-last : goal.returns-then-run-last
returns-then-run-last c = gap_after _ _ _ _ _ (run_from c.args.rows.now.rows c.args.first c.place_of-start.result c.first_past-end.result c.requires.rise c.place_of-start.ensures c.first_past-end.ensures.from (omega (arith, c.first_past-end.ensures.in_range, c.len.ensures)) (λ h. search (rules, c.first_past-end.ensures.before h)) (λ h. search (rules, c.first_past-end.ensures.past (omega (arith, h, c.len.ensures))))) c.requires.order (omega arith)

pub returns-else-run-last : goal.returns-else-run-last
returns-else-run-last c = no_gap _ _ _ _ _ (run_from c.args.rows.now.rows c.args.first c.place_of-start.result c.first_past-end.result c.requires.rise c.place_of-start.ensures c.first_past-end.ensures.from (omega (arith, c.first_past-end.ensures.in_range, c.len.ensures)) (λ h. search (rules, c.first_past-end.ensures.before h)) (λ h. search (rules, c.first_past-end.ensures.past (omega (arith, h, c.len.ensures))))) (omega arith)
