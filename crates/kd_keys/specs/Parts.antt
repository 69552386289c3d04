-- The pools of a configuration that pools of Kea's describe: a pool of a configuration has at most
-- 65,536 addresses, so one of more becomes several, in order, each with its classes and its options.
use Rattle.std.specs.Prelude.{ℕ, ◌+◌, ◌-◌, ◌*◌, ◌/◌, nat_le, nat_lt, if◌then◌else◌, List, map, length, Option}
use Rattle.std.specs.List.{flat_map, range_with_len}
use Rattle.kd_config.specs.declared.pool.Pool.{Pool}
use Rattle.kd_config.specs.declared.range.Range.{Range}
use Rattle.kd_fields.specs.Steps.{only_if}

-- the first 65,536 of some addresses, or all of fewer
abbrev pub first_part : ℕ → ℕ → Range
first_part first last =
    record { first = first; last = (if nat_lt (last - first) 65536 then last else first + 65535) }

-- the part of a pool behind so many parts of 65,536 addresses
abbrev pub pool_part : Pool → ℕ → Pool
pool_part pool i =
    record {
      range = first_part (pool.range.first + 65536 * i) pool.range.last;
      classes = pool.classes;
      options = pool.options;
    }

-- how many parts some addresses have
abbrev pub part_count : Range → ℕ
part_count range = (range.last - range.first) / 65536 + 1

-- so many parts of a pool, from the first on
unfoldable pub first_parts : Pool → ℕ → List Pool
first_parts pool count = map (pool_part pool) (range_with_len 0 count)

-- all parts of a pool
abbrev pub parts_of : Pool → List Pool
parts_of pool = first_parts pool (part_count pool.range)

-- the parts of all these pools: at most 64
unfoldable pub parts_of_all : List Pool → Option (List Pool)
parts_of_all pools =
    only_if (nat_le (length (flat_map parts_of pools)) 64) (flat_map parts_of pools)
