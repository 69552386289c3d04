use Rattle.std.proofs.Common.{Option, ap, sym, ◌∙◌, drop, ◌+◌}
use Rattle.std.specs.Map.{lookup}
use Rattle.std.specs.Option.{option_or}
use Rattle.std.specs.Str.{bytes_eq}
use Rattle.kd_keys.proofs.Rows.{table_at}
use Rattle.kd_keys.specs.Keys.{KeyUse}
use Rattle.kd_keys.specs.Rows.{rows_of}
use Rattle.kd_keys.proofs.keys.rule_in.Goals as goal

pub returns-in-Some : goal.returns-in-Some
returns-in-Some c =
    let at = c.loop-table in
    let rest = lookup (bytes_eq c.args.key.now) (rows_of (drop (at.table-index + 1) c.args.tables.now)) in
    sym (at.invariant ∙ (table_at (bytes_eq c.args.key.now) c.args.tables.now at.table-index _ c.loop-table-test.true
    ∙ ap (λ (o : Option KeyUse). option_or o rest) (sym c.in-Some.ensures)))

pub loop-table-preserved : goal.loop-table-preserved
loop-table-preserved c =
    let at = c.loop-table in
    let rest = lookup (bytes_eq c.args.key.now) (rows_of (drop (at.table-index + 1) c.args.tables.now)) in
    at.invariant ∙ (table_at (bytes_eq c.args.key.now) c.args.tables.now at.table-index _ c.loop-table-test.true
    ∙ ap (λ (o : Option KeyUse). option_or o rest) (sym c.in_default.ensures))
