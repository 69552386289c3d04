use Rattle.std.proofs.Common.{ap, ◌∙◌}
use Rattle.kd_config.specs.Apart.{lie_apart}
use Rattle.kd_json.proofs.Steps.{permuted}
use Rattle.kd_json.proofs.rules.apart.are_apart.Goals as goal

pub returns : goal.returns
returns c =
    c.are_steps_apart.ensures ∙ (ap lie_apart c.deref.ensures.value ∙ (permuted c.in_ok-sorted.sorted.items c.sort.new.ranges.items c.in_ok-sort.ensures.permutation ∙ ap lie_apart c.in_ok-sorted.ensures.items))
