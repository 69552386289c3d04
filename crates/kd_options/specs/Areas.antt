-- The faults of the areas of a datagram, as its reader meets them area by area. No public contract
-- cites these except through the first fault of a message.
use Rattle.std.specs.Prelude.{◌≡◌, ℕ, Bool, true, List}
use Rattle.kd_options.specs.Message.{IsCutIn, IsFirstCut}
use Rattle.kd_options.specs.declared.fault.AreaFault.{AreaFault}
use Rattle.kd_options.specs.declared.fault.AreaFault.TheVariants as areas

-- the fault of one area that begins at this offset of the datagram: it is in use and cut; being out
-- of memory says nothing of the area
abbrev pub IsAreaFault : Bool → List ℕ → ℕ → AreaFault → Type 0
IsAreaFault used area start (areas.Cut at) = (used ≡ true) × IsCutIn start area at
IsAreaFault used area start areas.Memory = Unit {0}

-- the first fault of all areas in use
abbrev pub IsFirstAreaFault : AreaFault → List ℕ → Type 0
IsFirstAreaFault (areas.Cut at) bytes = IsFirstCut bytes at
IsFirstAreaFault areas.Memory bytes = Unit {0}
