use Rattle.std.proofs.Common.{◌++◌, List, take}
use Rattle.kd_classes.specs.declared.option_list.OptionData.{OptionData}
use Rattle.kd_lease.specs.Given.{class_options}
use Rattle.kd_lease.specs.Valuing.{HasValues}
use Rattle.kd_lease.proofs.given.put_class_options.Given as goal

abbrev pub invariant-loop-i : goal.invariant-loop-i
invariant-loop-i l =
    (before : List OptionData) → HasValues l.fn.values.list.items before → HasValues l.values.list.items (before ++ class_options (take l.i l.classes) l.names)
