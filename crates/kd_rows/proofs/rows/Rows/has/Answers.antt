use Rattle.std.proofs.Common.{◌≡◌, ◌↔◌, IsTrue, Some, ap, false, subst, sym, ◌∙◌}
use Rattle.std.proofs.lemmas.Bool.{false≢true}
use Rattle.kd_rows.specs.Table.{Table, with_row}
use Rattle.kd_rows.proofs.Sets.{changed_if, unchanged_if}
use Rattle.kd_rows.proofs.rows.Rows.has.Goals as goal

pub returns-in-Some : goal.returns-in-Some
returns-in-Some c =
    let is = unchanged_if c.args.row.now c.row.result.now c.self.inside.rows.rows c.is_same.result c.self.invariant.rise (c.in-Some.ensures.found c.row.result.now ∙ ap Some (sym c.row.ensures)) c.is_same.ensures in
    subst (λ (t : Table). IsTrue c.is_same.result ↔ (with_row c.args.row.now t.rows ≡ t.rows)) c.self.view_is is

pub returns-in-None : goal.returns-in-None
returns-in-None c =
    subst (λ (t : Table). IsTrue false ↔ (with_row c.args.row.now t.rows ≡ t.rows)) c.self.view_is
    (λ h. absurd (false≢true h), λ e. absurd (changed_if c.args.row.now c.self.inside.rows.rows c.in-None.ensures e))
