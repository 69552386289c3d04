use Rattle.std.proofs.Common.{ap, sym, ◌∙◌}
use Rattle.kd_rows.specs.Index.{client_in, client_of}
use Rattle.kd_rows.proofs.Fronts.{key_by_head}
use Rattle.kd_rows.proofs.Keys.{read_key}
use Rattle.kd_rows.proofs.index.is_before.Goals as goal

pub returns-then-other-head : goal.returns-then-other-head
returns-then-other-head c = sym (key_by_head c.args.rows.now.rows _ c.head_by_client-other.result c.args.head c.args.key.1 c.args.key.0.now c.head_by_client-other.ensures c.requires.head c.if-other-head.true)

pub returns : goal.returns
returns c = read_key client_of c.args.rows.now.rows c.args.rows.now.index (c.args.key.0.now, c.args.key.1) c.args.i _ c.as_slice.result.now c.is_below.result c.row_by_client-row.ensures.at (c.as_slice.ensures ∙ sym (ap client_in c.row_by_client-row.ensures.found)) c.is_below.ensures
