-- The list of the reserved addresses has exactly those that are reserved.
use Rattle.std.proofs.Common.{◌≡◌, ℕ, ◌||◌, ◌==◌, List, [], ◌∷◌, ◌++◌, Option, None, Some, refl, ap, ◌∙◌}
use Rattle.std.specs.List.{flat_map, list_any}
use Rattle.std.proofs.lemmas.List.Folds.{list_any-append}
use Rattle.kd_config.specs.Configuration.{Configuration}
use Rattle.kd_config.specs.Reservation.{has_reserved, listed, same_address}
use Rattle.kd_config.specs.Rules.{reserved}
use Rattle.kd_config.specs.declared.reservation.Reservation.{Reservation}
use Rattle.kd_config.specs.declared.subnet.Subnet.{Subnet}
use Rattle.kd_rows.specs.Withheld.{is_withheld}
use Rattle.kd_lease.specs.Choice.{reserved_in}
use Rattle.kd_lease.specs.Withholding.{WithholdsReserved, reserved_in_all}

of_subnet : (rs : List Reservation) (a : ℕ) → is_withheld (reserved rs) a ≡ list_any (has_reserved a) rs
of_subnet [] a = refl
of_subnet (r ∷ rs) a = by r.address (of_subnet rs a) where
  by : (o : Option ℕ) → is_withheld (reserved rs) a ≡ list_any (has_reserved a) rs → is_withheld (listed o ++ reserved rs) a ≡ (same_address o a || list_any (has_reserved a) rs)
  by None h = h
  by (Some b) h = ap (λ t. (b == a) || t) h

of_subnets : (subnets : List Subnet) (a : ℕ) → is_withheld (flat_map (λ subnet. reserved subnet.reservations) subnets) a ≡ list_any (reserved_in a) subnets
of_subnets [] a = refl
of_subnets (s ∷ subnets) a =
    list_any-append (λ it. it == a) (reserved s.reservations) (flat_map (λ subnet. reserved subnet.reservations) subnets)
    ∙ ap (λ b. b || is_withheld (flat_map (λ subnet. reserved subnet.reservations) subnets) a) (of_subnet s.reservations a)
    ∙ ap (λ b. reserved_in a s || b) (of_subnets subnets a)

pub lists_reserved : (config : Configuration) (xs : List ℕ) → xs ≡ reserved_in_all config → WithholdsReserved config xs
lists_reserved config xs same a = ap (λ ys. is_withheld ys a) same ∙ of_subnets config.subnets a
