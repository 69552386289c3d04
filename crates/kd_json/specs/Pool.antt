-- A pool of a subnet.
use Rattle.std.specs.Prelude.{◌-◌, nat_lt, Bool, [], ◌∷◌, codes, Option, Some, None}
use Rattle.serde_json.specs.Data.{Data}
use Rattle.serde_json.specs.Find.{as_str, get}
use Rattle.kd_json.specs.Address.{addresses_spelled}
use Rattle.kd_json.specs.Options.{option_list_in}
use Rattle.kd_wire.specs.Steps.{◌>>=◌}
use Rattle.kd_fields.specs.Steps.{must, only_if}
use Rattle.kd_fields.specs.Values.{has_keys}
use Rattle.kd_config.specs.declared.pool.Pool.{Pool}
use Rattle.kd_config.specs.declared.range.Range.{Range}

-- a value is an object with the keys of a pool
unfoldable pub has_pool_keys : Data → Bool
has_pool_keys d = has_keys (codes "pool" ∷ codes "option-data" ∷ []) (codes "pool" ∷ []) d

-- the addresses of a pool, in any number
unfoldable pub pool_addresses : Data → Option Range
pool_addresses d = as_str d >>= addresses_spelled

-- the addresses of a pool: at most 65,536
unfoldable pub pool_range : Data → Option Range
pool_range d = do
  range ← pool_addresses d
  only_if (nat_lt (range.last - range.first) 65536) range

-- the pool that a value describes
unfoldable pub pool_of : Data → Option Pool
pool_of d = do
  _ ← must (has_pool_keys d)
  range ← get (codes "pool") d >>= pool_range
  options ← option_list_in (get (codes "option-data") d)
  Some (record { range = range; classes = []; options = options })
