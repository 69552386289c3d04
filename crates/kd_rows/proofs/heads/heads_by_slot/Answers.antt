use Rattle.std.proofs.Common.{◌+◌, List, ℕ, arith, subst, sym, take}
use Rattle.std.proofs.lemmas.List.{take_all}
use Rattle.kd_rows.specs.declared.row.Row.{Row}
use Rattle.kd_rows.specs.Heads.{AreHeads, IsHead}
use Rattle.kd_rows.proofs.Fronts.{heads_taken}
use Rattle.kd_rows.proofs.heads.heads_by_slot.Goals as goal

pub loop-i-preserved : goal.loop-i-preserved
loop-i-preserved c = subst (AreHeads (take (c.loop-i.i + 1) c.args.rows.now.items)) (sym c.in_ok-push.ensures.items)
    (heads_taken c.args.rows.now.items c.loop-i.heads.items c.loop-i.i c.head_of.result c.index.result.now c.loop-i.invariant (omega (arith, c.args.rows.now.ok.0)) c.index.ensures
    (subst (λ (client : List ℕ). IsHead client c.head_of.result) c.as_slice.ensures c.head_of.ensures))

pub returns : goal.returns
returns c = subst (λ (rows : List Row). AreHeads rows c.loop-i.heads.items) (take_all c.loop-i.i c.args.rows.now.items (omega (arith, c.args.rows.now.ok.0))) c.loop-i.invariant
