use Rattle.std.proofs.Common.{◌≤◌, arith, subst, sym}
use Rattle.std.specs.List.{All}
use Rattle.kd_rows.specs.declared.row.Row.{Row}
use Rattle.kd_rows.proofs.Ends.{least_bound, least_last, least_next}
use Rattle.kd_rows.proofs.rows.least_in.Goals as goal

pub loop-row-preserved : goal.loop-row-preserved
loop-row-preserved c = least_next c.args.rows.now c.loop-row.row-index c.row-item.result c.loop-row.least _ (omega arith) c.row-item.is c.loop-row.invariant c.min-least.ensures

pub returns-clause-bound : goal.returns-clause-bound
returns-clause-bound c =
    subst (λ least. All (λ (row : Row). least ≤ row.ends) c.args.rows.now) (sym (least_last c.args.rows.now c.loop-row.row-index c.loop-row.least (omega arith) c.loop-row.invariant)) (least_bound c.args.rows.now)
