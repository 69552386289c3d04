-- A pool of a subnet in a configuration of Kea's.
use Rattle.std.specs.Prelude.{◌-◌, nat_lt, false, List, codes, Option, Some}
use Rattle.serde_json.specs.Data.{Data}
use Rattle.serde_json.specs.Find.{get}
use Rattle.kd_config.specs.Classed.{class_list}
use Rattle.kd_config.specs.declared.pool.Pool.{Pool}
use Rattle.kd_config.specs.declared.range.Range.{Range}
use Rattle.kd_json.specs.Pool.{pool_addresses}
use Rattle.kd_fields.specs.Steps.{must, only_if}
use Rattle.kd_fields.specs.Values.{text_if_given}
use Rattle.kd_keys.specs.Keys.{keys_are_read}
use Rattle.kd_keys.specs.Options.{kea_options}
use Rattle.kd_keys.specs.Tables.{pool_keys}
use Rattle.kd_keys.specs.Values.{unless_empty}
use Rattle.kd_keys.specs.declared.definition.DefinedOption.{DefinedOption}
use Rattle.kd_wire.specs.Steps.{◌>>=◌}

-- the addresses of a pool: at most 4,194,304
unfoldable pub kea_range : Data → Option Range
kea_range d = do
  range ← pool_addresses d
  only_if (nat_lt (range.last - range.first) 4194304) range

-- the pool that a value describes, with these definitions of options; an empty class is none
unfoldable pub kea_pool : List DefinedOption → Data → Option Pool
kea_pool known d = do
  _ ← must (keys_are_read pool_keys d)
  range ← get (codes "pool") d >>= kea_range
  class ← text_if_given (get (codes "client-class") d)
  options ← kea_options false known (get (codes "option-data") d)
  Some (record { range = range; classes = class_list (unless_empty class); options = options })
