-- Where the pools of a configuration begin and end: helpers of private contracts only.
use Rattle.std.specs.Prelude.{ℕ, ◌+◌, ◌-◌, ◌^◌, min, List, [], ◌∷◌}
use Rattle.std.specs.List.{flat_map}
use Rattle.kd_config.specs.Configuration.{Configuration}
use Rattle.kd_config.specs.declared.pool.Pool.{Pool}

-- the first address of a pool, and the address after its last, at most 255.255.255.255
abbrev pub cuts_of_pool : Pool → List ℕ
cuts_of_pool pool = pool.range.first ∷ min (pool.range.last + 1) (2 ^ 32 - 1) ∷ []

-- the same for all pools of a configuration
abbrev pub cuts_of_pools : Configuration → List ℕ
cuts_of_pools config = flat_map (λ subnet. flat_map cuts_of_pool subnet.pools) config.subnets
