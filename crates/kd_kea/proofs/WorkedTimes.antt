-- Worked examples: shares of a lifetime in seconds, as Kea 2.2.0 sends them.
use Rattle.std.proofs.Common.{◌≡◌, ℕ, List, codes, refl}
use Rattle.std.specs.Prelude.{option_map}
use Rattle.std.specs.Float.{round_with}
use Rattle.std.specs.Float.Ieee.{mul, of_int, to_unsigned}
use Rattle.serde_json.proofs.OnLiterals.{serde_json_on_literals}
use Rattle.serde_json.specs.Data.{number}
use Rattle.serde_json.specs.Read.{number_of}
use Rattle.kd_config.specs.Term.{share_of}
use Rattle.kd_kea.specs.Times.{share_given}
use Rattle.kd_kea.specs.declared.objects.times.TheConstants.{NOTHING}

-- the share that a text gives, of a lifetime
abbrev row : List ℕ → ℕ → ℕ
row text lifetime = share_of (share_given NOTHING (option_map number (number_of text))) lifetime

-- the usual shares: half and seven eighths, rounded
half_of_3601 : row (codes "0.5") 3601 ≡ 1801
unfolding serde_json_on_literals mul of_int round_with to_unsigned
half_of_3601 = refl

eighths_of_3601 : row (codes "0.875") 3601 ≡ 3151
unfolding serde_json_on_literals mul of_int round_with to_unsigned
eighths_of_3601 = refl

longest : row (codes "0.875") 2147483647 ≡ 1879048191
unfolding serde_json_on_literals mul of_int round_with to_unsigned
longest = refl

-- a half goes upwards
half_of_15_tenths : row (codes "0.1") 15 ≡ 2
unfolding serde_json_on_literals mul of_int round_with to_unsigned
half_of_15_tenths = refl

-- the nearest floating-point number is less than 28.5, and than 57.5
below_28_5 : row (codes "0.285") 100 ≡ 28
unfolding serde_json_on_literals mul of_int round_with to_unsigned
below_28_5 = refl

below_57_5 : row (codes "0.575") 100 ≡ 57
unfolding serde_json_on_literals mul of_int round_with to_unsigned
below_57_5 = refl

-- a share that is less than half a second, and one that is rounded to the whole lifetime
nothing_of_1000 : row (codes "4e-4") 1000 ≡ 0
unfolding serde_json_on_literals mul of_int round_with to_unsigned
nothing_of_1000 = refl

whole_of_4 : row (codes "0.875") 4 ≡ 4
unfolding serde_json_on_literals mul of_int round_with to_unsigned
whole_of_4 = refl
