use Rattle.std.proofs.Common.{◌∙◌, Some, ap}
use Rattle.kd_plain.proofs.Written.{all_written}
use Rattle.kd_plain.proofs.plain.plain_text.Goals as goal

pub returns : goal.returns
returns c =
    ap (λ v. Some v.items) c.into_bytes.ensures
    ∙ all_written c.args.text.now c.loop-span.rest.now c.loop-span.output.bytes.items c.loop-span.output.comma c.loop-span.apart c.in_default.ensures.none c.loop-span.invariant.same c.loop-span.invariant.endless
