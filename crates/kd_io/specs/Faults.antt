-- The numbers of the faults of files and of looks.
use Rattle.std.specs.Prelude.{ℕ}
use Rattle.kd_io.specs.declared.files.InputFault.{InputFault}
use Rattle.kd_keeps.specs.Fault.{store_fault_number}
use Rattle.kd_io.specs.declared.files.InputFault.TheVariants as faults
use Rattle.kd_io.specs.declared.look.LookFault.{LookFault}
use Rattle.kd_io.specs.declared.look.LookFault.TheVariants as looks
use Rattle.std.specs.declared.io.ErrorKind.{ErrorKind}
use Rattle.std.specs.declared.io.ErrorKind.TheVariants as kinds

-- the number of each fault
abbrev pub input_fault_number : InputFault → ℕ
input_fault_number faults.Read = 94
input_fault_number faults.Memory = 91

-- the fault for an error of the host: out of memory, or otherwise that something cannot be read
abbrev pub input_fault_of : ErrorKind → InputFault
input_fault_of kinds.OutOfMemory = faults.Memory
input_fault_of kind = faults.Read

-- the number of each fault of a look: that of the fault inside, or its own
abbrev pub look_fault_number : LookFault → ℕ
look_fault_number (looks.Input fault) = input_fault_number fault
look_fault_number looks.Unsettled = 82
look_fault_number looks.NoTable = 80
look_fault_number (looks.Store fault) = store_fault_number fault
