use Rattle.std.proofs.Common.{◌++◌, List, take}
use Rattle.kd_classes.specs.declared.option_list.OptionData.{OptionData}
use Rattle.kd_lease.specs.Valuing.{HasValues}
use Rattle.kd_lease.proofs.values.Values.put_all.Given as goal

abbrev pub invariant-loop-option : goal.invariant-loop-option
invariant-loop-option l = (before : List OptionData) → HasValues l.fn.self.list.items before → HasValues l.self.list.items (before ++ take l.option-index l.options)
