use Rattle.std.proofs.Common.{◌∙◌, arith}
use Rattle.std.proofs.lemmas.Result.{err_from_is_err_and}
use Rattle.kd_fields.proofs.Left.{entry_read, entry_refused}
use Rattle.kd_fields.proofs.lists.entries_in.Goals as goal

pub loop-i-preserved : goal.loop-i-preserved
loop-i-preserved g c =
    let at = c.loop-i in
    let this = c.index-values-i in
    let made = c.in_ok-entry in
    rw c.in_ok-push.ensures.items
    (at.invariant ∙ entry_read (g.R.EntryReader.means c.args.reader.now) c.args.values.now at.i this.result at.list.items
    made.entry (omega arith) this.is made.ensures)

pub returns-in_err-entry : goal.returns-in_err-entry
returns-in_err-entry g c =
    let at = c.loop-i in
    let this = c.index-values-i in
    let p = err_from_is_err_and c.from_residual.result c.from_residual.ensures.1 in
    rw (p.1, p.2)
    (λ other. at.invariant ∙ entry_refused (g.R.EntryReader.means c.args.reader.now) c.args.values.now at.i this.result
    at.list.items (omega arith) this.is (c.in_err-entry.ensures other))
