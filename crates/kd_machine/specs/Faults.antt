-- The number and the name of the fault of a run.
use Rattle.std.specs.Prelude.{ℕ, List, codes}
use Rattle.kd_machine.specs.declared.fault.EvalFault.{EvalFault}
use Rattle.kd_machine.specs.declared.fault.EvalFault.TheVariants.{Memory}

-- the number of each fault
abbrev pub eval_fault_number : EvalFault → ℕ
eval_fault_number Memory = 91

-- the name of each fault
abbrev pub eval_fault_name : EvalFault → List ℕ
eval_fault_name Memory = codes "Memory"
