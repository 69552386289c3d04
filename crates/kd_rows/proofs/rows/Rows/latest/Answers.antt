use Rattle.std.proofs.Common.{◌<◌, ◌^◌, subst, sym}
use Rattle.kd_rows.proofs.Sets.{latest_early}
use Rattle.kd_rows.proofs.rows.Rows.latest.Goals as goal

pub returns-clause-early : goal.returns-clause-early
returns-clause-early c = subst (λ n. n < 2 ^ 40) (sym c.self.invariant.newest) (latest_early _ c.self.invariant.ranged)
