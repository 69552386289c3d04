-- Addresses as numbers: how many a prefix has, and which.
use Rattle.std.specs.Prelude.{ℕ, ◌+◌, ◌-◌, ◌*◌, ◌/◌, ◌^◌, Bool, ◌&&◌, nat_le, nat_lt}
use Rattle.kd_config.specs.declared.prefix.Prefix.{Prefix}

-- the number of addresses in a prefix of this length
abbrev pub prefix_size : ℕ → ℕ
prefix_size length = 2 ^ (32 - length)

-- an address with the bits after a prefix of this length cleared
abbrev pub network_address : ℕ → ℕ → ℕ
network_address address length = address / prefix_size length * prefix_size length

-- an address is in a prefix
abbrev pub has_address : Prefix → ℕ → Bool
has_address prefix address =
    nat_le prefix.address address && nat_lt address (prefix.address + prefix_size prefix.length)
