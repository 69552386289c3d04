-- The numbers of the faults of reading and writing a message, and the codes of the options that
-- hold an address.
use Rattle.std.specs.Prelude.{ℕ}
use Rattle.kd_wire.specs.Header.{fault_number}
use Rattle.kd_options.specs.declared.fault.AddressOption.{AddressOption}
use Rattle.kd_options.specs.declared.fault.AddressOption.TheVariants.{RequestedAddress, ServerIdentifier}
use Rattle.kd_options.specs.declared.fault.AreaFault.{AreaFault}
use Rattle.kd_options.specs.declared.fault.AreaFault.TheVariants as areas
use Rattle.kd_options.specs.declared.fault.ReadFault.{ReadFault}
use Rattle.kd_options.specs.declared.fault.ReadFault.TheVariants as faults
use Rattle.kd_options.specs.declared.fault.WriteFault.{WriteFault}
use Rattle.kd_options.specs.declared.fault.WriteFault.TheVariants as writes

-- the code of each option that holds an address (RFC 2132 sections 9.1 and 9.7)
abbrev pub address_option_code : AddressOption → ℕ
address_option_code RequestedAddress = 50
address_option_code ServerIdentifier = 54

-- the number of each fault; a header's fault keeps its own number
abbrev pub read_fault_number : ReadFault → ℕ
read_fault_number (faults.Header fault) = fault_number fault
read_fault_number (faults.Cut at) = 5
read_fault_number faults.NoType = 6
read_fault_number faults.BadType = 7
read_fault_number (faults.BadOption RequestedAddress) = 8
read_fault_number (faults.BadOption ServerIdentifier) = 9
read_fault_number faults.Memory = 91

-- a fault of the areas as a fault of the message
abbrev pub read_fault_of : AreaFault → ReadFault
read_fault_of (areas.Cut at) = faults.Cut at
read_fault_of areas.Memory = faults.Memory

-- the number of each fault of writing a reply
abbrev pub write_fault_number : WriteFault → ℕ
write_fault_number writes.TooLong = 10
write_fault_number writes.Memory = 91
