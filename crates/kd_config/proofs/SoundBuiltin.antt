-- The built-in configuration is sound.
use Rattle.std.proofs.Common.{◌≡◌, true, [], refl, arith}
use Rattle.kd_config.proofs.NoClasses.{none_in_order}
use Rattle.kd_config.specs.Configuration.{builtin_config, builtin_pool, subnet_built_in, times_built_in}
use Rattle.kd_config.specs.Rules.{may_stand, obeys}
use Rattle.kd_config.specs.Sound.{AreOptions, AreTimes, IsPool, IsPrefix, IsSound, IsSubnet}

no_options : AreOptions []
no_options = record { few = omega arith; each = tt; own = tt }

times : AreTimes times_built_in
times = record {
  lifetime = record { above = omega arith; below = omega arith };
  renew = omega arith;
  rebind = omega arith;
  offer_hold = record { above = omega arith; below = omega arith };
  decline_hold = record { above = omega arith; below = omega arith };
}

prefix : IsPrefix subnet_built_in.prefix
prefix = record { length = omega arith; clear = refl; within = omega arith }

pool : IsPool builtin_pool
pool = record { range = record { some = omega arith; few = omega arith }; options = no_options }

subnet : IsSubnet subnet_built_in
subnet = record {
  prefix = prefix;
  few_pools = omega arith;
  pools = (pool, tt);
  few_relays = omega arith;
  few_reservations = omega arith;
  reservations = tt;
  options = no_options;
  shared = no_options;
  boot = record { next_server = tt; server_name = tt; file_name = tt };
  term = tt;
}

together : may_stand builtin_config.subnets ≡ true
unfolding may_stand obeys
together = refl

pub builtin_sound : IsSound builtin_config
builtin_sound = record {
  server = omega arith;
  times = times;
  options = no_options;
  classes = record { each = tt; ordered = none_in_order };
  subnets = record { few = omega arith; each = (subnet, tt); together = together };
}
