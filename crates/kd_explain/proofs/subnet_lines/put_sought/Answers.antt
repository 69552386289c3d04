use Rattle.std.proofs.Common.{◌++◌, ap, ◌∙◌}
use Rattle.std.specs.Prelude.{string_bytes}
use Rattle.kd_explain.proofs.Listing.{none_left}
use Rattle.kd_explain.proofs.subnet_lines.put_sought.Goals as goal

pub returns : goal.returns
returns c =
    c.in_ok-push_str.ensures.bytes ∙ ap (λ t. string_bytes c.loop-left.out ++ t) (none_left c.args.sought.relayed c.args.sought.by_relay c.args.sought.place c.args.sought.names.now c.loop-left.left.now c.in_default.len_below)
    ∙ c.loop-left.invariant
