-- What a server reports before it serves: how many bytes were removed from the end of its record, if
-- any, and a line about itself.
use Rattle.std.specs.Prelude.{ℕ, ◌+◌, ◌-◌, ◌/◌, ◌%◌, ◌^◌, ◌==◌, if◌then◌else◌, min, nat_lt, suc, zero}
use Rattle.std.specs.Prelude.{List, [], ◌++◌, Option, None, Some, codes, decimal, length, unwrap_or}
use Rattle.std.specs.List.{flat_map, sum_by}
use Rattle.kd_commands.specs.declared.orders.Listening.{Listening}
use Rattle.kd_config.specs.Configuration.{Configuration}
use Rattle.kd_config.specs.declared.pool.Pool.{Pool}
use Rattle.kd_config.specs.declared.subnet.Subnet.{Subnet}
use Rattle.kd_names.specs.Values.{sign_text}
use Rattle.kd_program.specs.declared.banner.Sizes.{Sizes}
use Rattle.kd_rows.specs.Table.{latest_of}
use Rattle.kd_rows.specs.declared.row.Row.{Row}
use Rattle.kd_text.specs.Text.{address_text}

-- the three digits of a number below a thousand
abbrev pub three_digits : ℕ → List ℕ
three_digits n = decimal (n / 100) ++ decimal (n / 10 % 10) ++ decimal (n % 10)

-- a number with a comma before each group of three digits from its end, and at most this many
-- commas
unfoldable pub grouped_in : ℕ → ℕ → List ℕ
grouped_in zero n = decimal n
grouped_in (suc more) n =
    if nat_lt n 1000 then decimal n
    else grouped_in more (n / 1000) ++ codes "," ++ three_digits (n % 1000)

-- a number below 2^64 with commas between its groups of three digits
unfoldable pub grouped : ℕ → List ℕ
grouped n = grouped_in 6 n

-- the number of addresses of a pool
abbrev pub pool_size : Pool → ℕ
pool_size pool = pool.range.last - pool.range.first + 1

-- the number of addresses in the pools of a subnet
abbrev pub subnet_size : Subnet → ℕ
subnet_size subnet = sum_by pool_size subnet.pools

-- the number of addresses in the pools of subnets, or the greatest number of 64 bits if there are
-- more
abbrev pub subnet_addresses : List Subnet → ℕ
subnet_addresses subnets = min (sum_by subnet_size subnets) (2 ^ 64 - 1)

-- how much a configuration contains: its subnets, and the addresses in their pools
abbrev pub sizes_of : Configuration → Sizes
sizes_of config =
    record { subnets = length config.subnets; addresses = subnet_addresses config.subnets }

-- an address and a port
unfoldable pub place_text : ℕ → ℕ → List ℕ
place_text address port = address_text address ++ codes ":" ++ decimal port

-- how much a configuration contains, and the number of leases
unfoldable pub amounts_text : Sizes → ℕ → List ℕ
amounts_text sizes leases =
    codes ", subnets " ++ grouped sizes.subnets ++ codes ", addresses " ++ grouped sizes.addresses
    ++ codes ", leases " ++ grouped leases

-- the time of the latest change, or a dash if there are no leases
unfoldable pub latest_text : ℕ → ℕ → List ℕ
latest_text leases latest = if leases == 0 then codes "-" else decimal latest

-- the path of a store, as a terminal may show it, with the line feed
unfoldable pub store_text : List ℕ → List ℕ
store_text store = codes ", store " ++ flat_map sign_text store ++ codes "\n"

-- the line about a server: its socket, how much its configuration contains, its leases, their latest
-- change, and its store
unfoldable pub banner_text : Listening → Sizes → ℕ → ℕ → List ℕ → List ℕ
banner_text listening sizes leases latest store =
    codes "serving " ++ place_text listening.bind listening.port ++ amounts_text sizes leases
    ++ codes ", latest change " ++ latest_text leases latest ++ store_text store

-- the line about a server with a configuration and rows, and with its store at a path, or in memory
-- if there is none
abbrev pub serving_line : Listening → Configuration → List Row → Option (List ℕ) → List ℕ
serving_line listening config rows store =
    banner_text listening (sizes_of config) (length rows) (latest_of rows)
    (unwrap_or store (codes "memory"))

-- the line about the bytes that were removed from the record at a path, if any were
abbrev pub removed_line : Option (List ℕ) → ℕ → List ℕ
removed_line None removed = []
removed_line (Some path) removed =
    if removed == 0 then []
    else codes "record " ++ flat_map sign_text path ++ codes ": its last line was not whole, "
    ++ decimal removed ++ codes " bytes of it are removed\n"
