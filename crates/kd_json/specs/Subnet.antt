-- A subnet: a prefix, its class, pools, reservations and options.
use Rattle.std.specs.Prelude.{ℕ, Bool, List, [], ◌∷◌, codes, Option, Some, None}
use Rattle.serde_json.specs.Data.{Data}
use Rattle.serde_json.specs.Find.{as_str, get}
use Rattle.kd_classes.specs.Boot.{no_boot}
use Rattle.kd_json.specs.Address.{prefix_spelled}
use Rattle.kd_fields.specs.Lists.{list_of}
use Rattle.kd_json.specs.Options.{option_list_in}
use Rattle.kd_json.specs.Pool.{pool_of}
use Rattle.kd_json.specs.Reservation.{reservation_of}
use Rattle.kd_wire.specs.Steps.{◌>>=◌}
use Rattle.kd_fields.specs.Steps.{must}
use Rattle.kd_fields.specs.Values.{has_keys, number_if_given, text_if_given}
use Rattle.kd_config.specs.Classed.{class_list}
use Rattle.kd_config.specs.declared.prefix.Prefix.{Prefix}
use Rattle.kd_config.specs.declared.subnet.Subnet.{Subnet}

-- a value is an object with the keys of a subnet
unfoldable pub has_subnet_keys : Data → Bool
has_subnet_keys d =
    has_keys (codes "id" ∷ codes "subnet" ∷ codes "client-class" ∷ codes "pools"
    ∷ codes "reservations" ∷ codes "option-data" ∷ []) (codes "subnet" ∷ []) d

-- the prefix of a subnet
unfoldable pub subnet_prefix : Data → Option Prefix
subnet_prefix d = as_str d >>= prefix_spelled

-- the subnet of a prefix and classes with the lists in a value
unfoldable pub subnet_with : Prefix → List (List ℕ) → Data → Option Subnet
subnet_with prefix classes d = do
  pools ← list_of 64 pool_of (get (codes "pools") d)
  reservations ← list_of 4096 reservation_of (get (codes "reservations") d)
  options ← option_list_in (get (codes "option-data") d)
  Some (record {
    prefix = prefix;
    relays = [];
    classes = classes;
    pools = pools;
    reservations = reservations;
    options = options;
    network = 0;
    shared = [];
    boot = no_boot;
    term = None;
  })

-- the subnet that a value describes; its `id` is checked but not used
unfoldable pub subnet_of : Data → Option Subnet
subnet_of d = do
  _ ← must (has_subnet_keys d)
  _ ← number_if_given 1 4294967294 1 (get (codes "id") d)
  prefix ← get (codes "subnet") d >>= subnet_prefix
  class ← text_if_given (get (codes "client-class") d)
  subnet_with prefix (class_list class) d
