-- The faults of a configuration: their numbers, and the paths that they name.
use Rattle.std.specs.Prelude.{ℕ, List, [], string_bytes}
use Rattle.kd_json.specs.declared.fault.ConfigFault.{ConfigFault}
use Rattle.kd_json.specs.declared.fault.ConfigFault.TheVariants as faults

-- the number of each fault
abbrev pub config_fault_number : ConfigFault → ℕ
config_fault_number faults.Json = 70
config_fault_number (faults.Missing path) = 71
config_fault_number (faults.Unknown path) = 72
config_fault_number (faults.BadValue path) = 73
config_fault_number (faults.PoolOutside path) = 74
config_fault_number (faults.Overlap path) = 75
config_fault_number (faults.DuplicateReservation path) = 76
config_fault_number (faults.Expression number fault) = 77
config_fault_number (faults.Tokens number fault) = 78
config_fault_number (faults.Class fault) = 79
config_fault_number faults.Memory = 91

-- the path that a fault names, if it names one
abbrev pub fault_path : ConfigFault → List ℕ
fault_path (faults.Missing path) = string_bytes path
fault_path (faults.Unknown path) = string_bytes path
fault_path (faults.BadValue path) = string_bytes path
fault_path (faults.PoolOutside path) = string_bytes path
fault_path (faults.Overlap path) = string_bytes path
fault_path (faults.DuplicateReservation path) = string_bytes path
fault_path _ = []
