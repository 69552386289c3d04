-- A server's configuration, and the built-in one.
use Rattle.std.specs.Prelude.{ℕ, Bool, true, false, not, List, [], ◌∷◌, None}
use Rattle.kd_classes.specs.Boot.{no_boot}
use Rattle.kd_classes.specs.declared.definition.ClassDef.{ClassDef}
use Rattle.kd_classes.specs.declared.option_list.OptionData.{OptionData}
use Rattle.kd_config.specs.declared.extensions.Extensions.{Extensions}
use Rattle.kd_config.specs.declared.extensions.Policy.{Policy}
use Rattle.kd_config.specs.declared.pool.Pool.{Pool}
use Rattle.kd_config.specs.declared.reservation.IdentityKind.{IdentityKind}
use Rattle.kd_config.specs.declared.subnet.Subnet.{Subnet}
use Rattle.kd_config.specs.declared.times.Times.{Times}

-- a configuration: the server's address, times, extensions of the rules, options, classes in order,
-- and subnets
pub record Configuration : Type 0 where
  pub server : ℕ
  pub times : Times
  pub extensions : Extensions
  pub options : List OptionData
  pub classes : List ClassDef
  pub subnets : List Subnet

-- the rules of a configuration in our own format are not extended
abbrev pub no_extensions : Extensions
no_extensions =
    record {
      selects_links = false;
      sets_server = false;
      keeps_leases = false;
      moves_clients = false;
      is_authoritative = false;
      ignores_client_ids = false;
      knows_clients = false;
      identity_order = [];
    }

-- those of a configuration of Kea's are: relays select links and set the server's identifier, clients
-- keep leases and are to move to reserved addresses, and whether the server is authoritative, ignores
-- client identifiers and knows clients by their reservations, and the order of the kinds of identities,
-- is as its file says
abbrev pub kea_extensions : Policy → Bool → List IdentityKind → Extensions
kea_extensions policy knows_clients order =
    record {
      selects_links = true;
      sets_server = true;
      keeps_leases = true;
      moves_clients = true;
      is_authoritative = policy.is_authoritative;
      ignores_client_ids = not policy.matches_client_ids;
      knows_clients = knows_clients;
      identity_order = order;
    }

-- the times of the built-in configuration
abbrev pub times_built_in : Times
times_built_in =
    record { lifetime = 3600; renew = 1800; rebind = 3150; offer_hold = 60; decline_hold = 600 }

-- the pool of the built-in configuration, 192.0.2.10 and 192.0.2.11
abbrev pub builtin_pool : Pool
builtin_pool = record { range = record { first = 0xc000020a; last = 0xc000020b }; classes = []; options = [] }

-- the subnet of the built-in configuration, 192.0.2.0/24
abbrev pub subnet_built_in : Subnet
subnet_built_in = record {
  prefix = record { address = 0xc0000200; length = 24 };
  relays = [];
  classes = [];
  pools = builtin_pool ∷ [];
  reservations = [];
  options = [];
  network = 0;
  shared = [];
  boot = no_boot;
  term = None;
}

-- the built-in configuration: the server is 192.0.2.1
abbrev pub builtin_config : Configuration
builtin_config =
    record {
      server = 0xc0000201;
      times = times_built_in;
      extensions = no_extensions;
      options = [];
      classes =
          [];
      subnets = subnet_built_in ∷ [];
    }
