-- A look at the leases of a server at some time.
use Rattle.std.specs.Prelude.{◌≡◌, ℕ, ◌^◌, ◌<◌, ◌≤◌, Bool, true, false}
use Rattle.kd_loops.specs.declared.fault.ServeFault.{ServeFault}
use Rattle.kd_loops.specs.declared.fault.ServeFault.TheVariants as faults

-- why there is no list, by whether the store has failed, and by the time
abbrev pub IsNoList : Bool → ℕ → ServeFault → Type 0
IsNoList failed moment faults.MomentTooLarge = (failed ≡ false) × (2 ^ 40 ≤ moment)
IsNoList failed moment faults.Memory = (failed ≡ false) × (moment < 2 ^ 40)
IsNoList failed moment (faults.Store fault) = ⊥
IsNoList failed moment faults.Failed = failed ≡ true
