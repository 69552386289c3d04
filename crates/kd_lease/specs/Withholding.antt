-- Which addresses a table withholds from clients, except the one each is reserved for: helpers of
-- invariants and of private contracts only.
use Rattle.std.specs.Prelude.{◌≡◌, ℕ, List, Option, Some}
use Rattle.std.specs.List.{flat_map}
use Rattle.kd_config.specs.Configuration.{Configuration}
use Rattle.kd_config.specs.Rules.{reserved}
use Rattle.kd_rows.specs.Withheld.{WithheldTable, is_withheld}
use Rattle.kd_rows.specs.declared.row.Row.{Row}
use Rattle.kd_lease.specs.Choice.{reserved_anywhere}

-- the addresses that are reserved in a configuration, subnet by subnet
abbrev pub reserved_in_all : Configuration → List ℕ
reserved_in_all config = flat_map (λ subnet. reserved subnet.reservations) config.subnets

-- the addresses that are withheld are exactly those that are reserved in the configuration
abbrev pub WithholdsReserved : Configuration → List ℕ → Type 0
WithholdsReserved config withheld =
    (a : ℕ) → is_withheld withheld a ≡ reserved_anywhere config a

-- a table, if there is one, has these rows and withholds what the configuration reserves
abbrev pub KnowsReserved : Configuration → List Row → Option WithheldTable → Type 0
KnowsReserved config rows known =
    (t : WithheldTable) → known ≡ Some t → (t.table.rows ≡ rows) × WithholdsReserved config t.withheld
