-- The numbers of the faults of reading a token file and of the verifier.
use Rattle.std.specs.Prelude.{ℕ}
use Rattle.kd_token.specs.declared.fault.FileFault.{FileFault}
use Rattle.kd_token.specs.declared.fault.FileFault.TheVariants as faults
use Rattle.kd_token.specs.declared.fault.VerifyFault.{VerifyFault}
use Rattle.kd_token.specs.declared.fault.VerifyFault.TheVariants as refusals

-- the number of each fault of reading a file
abbrev pub file_fault_number : FileFault → ℕ
file_fault_number faults.Magic = 30
file_fault_number faults.Version = 31
file_fault_number (faults.Cut at) = 32
file_fault_number (faults.Opcode at) = 33
file_fault_number (faults.Operand at) = 34
file_fault_number (faults.Rest at) = 35
file_fault_number faults.Limit = 36
file_fault_number faults.Memory = 91

-- the number of each fault of the verifier
abbrev pub verify_fault_number : VerifyFault → ℕ
verify_fault_number (refusals.Short at) = 40
verify_fault_number (refusals.Kind at) = 41
verify_fault_number (refusals.Deep at) = 42
verify_fault_number (refusals.Long at) = 43
verify_fault_number refusals.Steps = 44
verify_fault_number refusals.Finish = 45
verify_fault_number (refusals.Name at) = 46
verify_fault_number refusals.Memory = 91
