use Rattle.std.proofs.Common.{List, None, subst, ℕ}
use Rattle.std.specs.Option.{option_copied}
use Rattle.kd_rows.specs.declared.row.Row.{Row}
use Rattle.kd_rows.specs.Open.{open_rows}
use Rattle.kd_rows.specs.Table.{IsNextEnded}
use Rattle.kd_rows.specs.Withheld.{IsNextOpenEnded, WithheldTable}
use Rattle.kd_rows.proofs.Walks.{ended_open, none_early}
use Rattle.kd_rows.proofs.withheld.Withheld.next_ended.Goals as goal

pub returns-then-moment-least_end : goal.returns-then-moment-least_end
returns-then-moment-least_end c =
    subst (λ (t : WithheldTable). IsNextOpenEnded t.table.rows t.withheld c.args.first c.args.last c.args.moment None) c.self.view_is
    (λ a row from to out there. none_early c.self.inside.rows.rows c.args.first c.args.last c.args.moment c.least_end.result c.least_end.ensures.bound c.if-moment-least_end.true a row from to there)

pub returns : goal.returns
returns c =
    let found = option_copied c.next_ended.result in
    let list = c.self.inside.list.items in
    subst (λ (t : WithheldTable). IsNextOpenEnded t.table.rows t.withheld c.args.first c.args.last c.args.moment found) c.self.view_is
    (ended_open list c.self.inside.rows.rows c.args.first c.args.last c.args.moment found
    (subst (λ (xs : List ℕ). IsNextEnded (open_rows xs c.self.inside.rows.rows) c.args.first c.args.last c.args.moment found) c.as_slice.ensures.value
    (subst (λ (rows : List Row). IsNextEnded (open_rows c.as_slice.result.now rows) c.args.first c.args.last c.args.moment found) c.as_sorted.ensures.rows
    (subst (λ (rows : List Row). IsNextEnded rows c.args.first c.args.last c.args.moment found) c.beside-rows.ensures c.next_ended.ensures))))
