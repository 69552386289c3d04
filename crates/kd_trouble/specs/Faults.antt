-- The numbers of the faults of starting.
use Rattle.std.specs.Prelude.{ℕ}
use Rattle.kd_io.specs.Faults.{input_fault_number}
use Rattle.kd_json.specs.Faults.{config_fault_number}
use Rattle.kd_trouble.specs.declared.fault.StartFault.{StartFault}
use Rattle.kd_trouble.specs.declared.fault.StartFault.TheVariants as starts

-- the number of each fault of starting: that of the fault inside
abbrev pub start_fault_number : StartFault → ℕ
start_fault_number (starts.Input fault) = input_fault_number fault
start_fault_number (starts.Config fault) = config_fault_number fault
