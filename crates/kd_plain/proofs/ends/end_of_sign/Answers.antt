use Rattle.std.proofs.Common.{◌∙◌, sym}
use Rattle.kd_plain.proofs.Signs.{size_further}
use Rattle.kd_plain.proofs.ends.end_of_sign.Goals as goal

pub loop-at-preserved : goal.loop-at-preserved
loop-at-preserved c =
    c.loop-at.invariant ∙ size_further c.args.sign.now c.args.bytes.now c.loop-at.at c.loop-at-test.true (sym c.starts_with.ensures.value ∙ c.if-starts_with.false)
