use Rattle.std.proofs.Common.{ℕ, List, Option, false, ap, subst, sym}
use Rattle.std.specs.Option.{option_copied}
use Rattle.kd_rows.specs.Withheld.{IsNextOpenEnded}
use Rattle.kd_rows.specs.declared.row.Row.{Row}
use Rattle.kd_lease.specs.Rules.{asking}
use Rattle.kd_lease.specs.Seeking.{IsNextUntaken}
use Rattle.kd_lease.proofs.Passing.{open_ended_next}
use Rattle.kd_lease.proofs.free.next_expired.Goals as goal

pub returns-in-Some : goal.returns-in-Some
returns-in-Some c =
    let table = c.in-Some.table.now in
    let q = asking c.args.question.now in
    let guarded = c.args.question.now.knows table (ap option_copied c.in-Some.is) in
    let found = option_copied c.next_ended.result in
    let ended = subst (λ (rows : List Row). IsNextOpenEnded rows table.withheld c.args.first c.args.last c.args.question.now.moment found) guarded.0 c.next_ended.ensures in
    subst (λ (a : Option ℕ). IsNextUntaken q false c.args.first c.args.last a) (sym c.address_of.ensures) (open_ended_next q table.withheld c.args.first c.args.last found guarded.1 ended)
