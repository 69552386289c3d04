-- The first address of each rank for a client, from which its address is chosen.
use Rattle.std.specs.Prelude.{◌≡◌, ℕ, false, Option, None, Some}
use Rattle.kd_config.specs.declared.subnet.Subnet.{Subnet}
use Rattle.kd_lease.specs.Choice.{Asking, IsFirstOf, Rank, has_rank}
use Rattle.kd_lease.specs.Choice.Rank.{reserved, own, past, asked, fresh, expired}
use Rattle.kd_lease.specs.declared.ranks.Ranks.{Ranks}

-- what is found is the first address of a rank, or none if no address has the rank
abbrev pub IsRanked : Asking → Subnet → Rank → Option ℕ → Type 0
IsRanked q s r None = (b : ℕ) → has_rank q s r b ≡ false
IsRanked q s r (Some a) = IsFirstOf q s r a

-- the first address of each rank, if there is one
pub record AreRanks (q : Asking) (s : Subnet) (found : Ranks) : Type 0 where
  pub reserved : IsRanked q s reserved found.reserved
  pub own : IsRanked q s own found.own
  pub past : IsRanked q s past found.past
  pub asked : IsRanked q s asked found.asked
  pub fresh : IsRanked q s fresh found.fresh
  pub expired : IsRanked q s expired found.expired
