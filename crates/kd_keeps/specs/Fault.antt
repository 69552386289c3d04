-- The numbers of a store's faults.
use Rattle.std.specs.Prelude.{ℕ}
use Rattle.kd_keeps.specs.declared.fault.StoreFault.{StoreFault}
use Rattle.kd_keeps.specs.declared.fault.StoreFault.TheVariants.{Schema, Sql}

-- the number of each fault of a store
abbrev pub store_fault_number : StoreFault → ℕ
store_fault_number Schema = 80
store_fault_number (Sql cause) = 81
