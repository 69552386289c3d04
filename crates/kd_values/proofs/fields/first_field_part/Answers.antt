use Rattle.std.proofs.Common.{false}
use Rattle.kd_values.proofs.Commas.{nothing_before}
use Rattle.kd_values.proofs.fields.first_field_part.Goals as goal

pub loop-at-init : goal.loop-at-init
loop-at-init c = nothing_before false c.args.text.now
