use Rattle.std.proofs.Common.{◌≡◌, ◌≤◌, List, ap, arith, length, rules, subst, sym, ◌∙◌}
use Rattle.std.proofs.lemmas.List.{length-map}
use Rattle.kd_rows.specs.declared.row.Row.{Row}
use Rattle.kd_rows.specs.Index.{Ordered, row_in}
use Rattle.kd_rows.specs.Table.{Rise}
use Rattle.kd_rows.proofs.Places.{place_from}
use Rattle.kd_rows.proofs.sorted.Sorted.place_of.Goals as goal

pub returns : goal.returns
returns c =
    let rows : List Row = c.args.self.now.rows in
    let rise = subst (λ (t : Ordered). Rise t.rows) c.self.view_is c.self.invariant.sorted.rise in
    let long : length rows ≡ length c.self.inside.by_address.numbers = sym (ap (λ (t : Ordered). length t.rows) c.self.view_is) ∙ length-map c.self.inside.by_address.numbers (row_in c.self.inside.slots.items) in
    let within : c.first_past.result ≤ length rows = omega (arith, c.first_past.ensures.in_range, c.len.ensures, long) in
    place_from rows c.args.address c.first_past.result rise within (λ h. search (rules, c.first_past.ensures.before h)) (λ h. search (rules, c.first_past.ensures.past (omega (arith, h, c.len.ensures, long))))
