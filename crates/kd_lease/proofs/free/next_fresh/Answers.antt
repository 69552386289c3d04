use Rattle.std.proofs.Common.{List, ap, subst}
use Rattle.std.specs.Option.{option_copied}
use Rattle.kd_rows.specs.Withheld.{IsFirstFree}
use Rattle.kd_rows.specs.declared.row.Row.{Row}
use Rattle.kd_lease.specs.Rules.{asking}
use Rattle.kd_lease.proofs.Passing.{free_next}
use Rattle.kd_lease.proofs.free.next_fresh.Goals as goal

pub returns-in-Some : goal.returns-in-Some
returns-in-Some c =
    let table = c.in-Some.table.now in
    let guarded = c.args.question.now.knows table (ap option_copied c.in-Some.is) in
    let free = subst (λ (rows : List Row). IsFirstFree rows table.withheld c.args.first c.args.last c.first_free.result) guarded.0 c.first_free.ensures in
    free_next (asking c.args.question.now) table.withheld c.args.first c.args.last c.first_free.result guarded.1 free
