use Rattle.std.proofs.Common.{ap, arith, ◌∙◌}
use Rattle.std.proofs.lemmas.List.{take_all}
use Rattle.kd_rows.specs.Heads.{row_addresses}
use Rattle.kd_rows.proofs.Fronts.{addresses_taken}
use Rattle.kd_rows.proofs.heads.addresses_by_slot.Goals as goal

pub loop-i-preserved : goal.loop-i-preserved
loop-i-preserved c =
    c.in_ok-push.ensures.items ∙ addresses_taken c.args.rows.now.items c.loop-i.addresses.items c.loop-i.i c.index.result.now c.loop-i.invariant (omega (arith, c.args.rows.now.ok.0)) c.index.ensures

pub returns : goal.returns
returns c = c.loop-i.invariant ∙ ap row_addresses (take_all c.loop-i.i c.args.rows.now.items (omega (arith, c.args.rows.now.ok.0)))
