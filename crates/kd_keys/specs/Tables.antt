-- The keys of Kea's objects (ISC Kea Administrator Reference Manual, DHCPv4 Server), and what is
-- done with each. The values of `usual` are Kea's own defaults.
use Rattle.std.specs.Prelude.{ℕ, true, false, List, [], ◌∷◌, ◌++◌, codes}
use Rattle.kd_keys.specs.Keys.{KeyUse, flag, fraction, no_list, served, skipped, usual, whole, word}
use Rattle.kd_keys.specs.declared.tables.TheConstants.{QUARTER}
use Rattle.kd_keys.specs.declared.tables.ObjectKind.{ObjectKind}
use Rattle.kd_keys.specs.declared.tables.ObjectKind.TheVariants as kinds

-- the keys that every kind of object may have for people: they are skipped
abbrev pub remarks : List (List ℕ × KeyUse)
remarks = (codes "comment", skipped) ∷ (codes "user-context", skipped) ∷ []

-- the fields of a reply by which its client boots
abbrev pub boot_keys : List (List ℕ × KeyUse)
boot_keys =
    (codes "next-server", served)
    ∷ (codes "server-hostname", served)
    ∷ (codes "boot-file-name", served)
    ∷ []

-- how long leases last
abbrev pub lifetime_keys : List (List ℕ × KeyUse)
lifetime_keys =
    (codes "valid-lifetime", served)
    ∷ (codes "min-valid-lifetime", served)
    ∷ (codes "max-valid-lifetime", served)
    ∷ []

-- the keys that the whole server, a shared network and a subnet have in common
abbrev pub shared_keys : List (List ℕ × KeyUse)
shared_keys =
    (codes "renew-timer", served)
    ∷ (codes "rebind-timer", served)
    ∷ (codes "calculate-tee-times", served)
    ∷ (codes "t1-percent", served)
    ∷ (codes "t2-percent", served)
    ∷ (codes "option-data", served)
    ∷ (codes "store-extended-info", skipped)
    ∷ (codes "hostname-char-set", skipped)
    ∷ (codes "hostname-char-replacement", skipped)
    ∷ (codes "match-client-id", served)
    ∷ (codes "authoritative", served)
    ∷ (codes "reservations-global", usual (flag false ∷ []))
    ∷ (codes "reservations-in-subnet", usual (flag true ∷ []))
    ∷ (codes "reservations-out-of-pool", served)
    ∷ (codes "reservation-mode", usual (word (codes "all") ∷ []))
    ∷ (codes "cache-threshold", usual (whole 0 ∷ fraction QUARTER ∷ []))
    ∷ (codes "cache-max-age", usual (whole 0 ∷ []))
    ∷ (codes "allocator", usual (word (codes "iterative") ∷ []))
    ∷ remarks ++ boot_keys ++ lifetime_keys

-- the keys of `Dhcp4`
abbrev pub server_keys : List (List ℕ × KeyUse)
server_keys =
    (codes "client-classes", served)
    ∷ (codes "shared-networks", served)
    ∷ (codes "subnet4", served)
    ∷ (codes "option-def", served)
    ∷ (codes "offer-lifetime", served)
    ∷ (codes "decline-probation-period", served)
    ∷ (codes "dhcp-ddns", served)
    ∷ (codes "config-control", served)
    ∷ (codes "host-reservation-identifiers", served)
    ∷ (codes "hooks-libraries", served)
    ∷ (codes "interfaces-config", skipped)
    ∷ (codes "lease-database", skipped)
    ∷ (codes "loggers", skipped)
    ∷ (codes "control-socket", skipped)
    ∷ (codes "control-sockets", skipped)
    ∷ (codes "multi-threading", skipped)
    ∷ (codes "sanity-checks", skipped)
    ∷ (codes "server-tag", skipped)
    ∷ (codes "dhcp-queue-control", skipped)
    ∷ (codes "expired-leases-processing", skipped)
    ∷ (codes "parked-packet-limit", skipped)
    ∷ (codes "statistic-default-sample-count", skipped)
    ∷ (codes "statistic-default-sample-age", skipped)
    ∷ (codes "echo-client-id", usual (flag true ∷ []))
    ∷ (codes "ip-reservations-unique", usual (flag true ∷ []))
    ∷ (codes "early-global-reservations-lookup", usual (flag false ∷ []))
    ∷ (codes "reservations-lookup-first", usual (flag false ∷ []))
    ∷ (codes "stash-agent-options", usual (flag false ∷ []))
    ∷ (codes "dhcp4o6-port", usual (whole 0 ∷ []))
    ∷ (codes "reservations", skipped)
    ∷ (codes "hosts-databases", usual (no_list ∷ []))
    ∷ shared_keys

-- the key of a whole text
abbrev pub root_keys : List (List ℕ × KeyUse)
root_keys = (codes "Dhcp4", served) ∷ []

-- the keys of an option
abbrev pub data_keys : List (List ℕ × KeyUse)
data_keys =
    (codes "name", served)
    ∷ (codes "code", served)
    ∷ (codes "data", served)
    ∷ (codes "csv-format", served)
    ∷ (codes "space", served)
    ∷ (codes "always-send", served)
    ∷ (codes "never-send", usual (flag false ∷ []))
    ∷ (codes "client-classes", usual (no_list ∷ []))
    ∷ remarks

-- the keys of an option's definition
abbrev pub definition_keys : List (List ℕ × KeyUse)
definition_keys =
    (codes "name", served)
    ∷ (codes "code", served)
    ∷ (codes "type", served)
    ∷ (codes "array", served)
    ∷ (codes "record-types", served)
    ∷ (codes "space", served)
    ∷ (codes "encapsulate", served)
    ∷ remarks

-- the keys of a class
abbrev pub class_keys : List (List ℕ × KeyUse)
class_keys =
    (codes "name", served)
    ∷ (codes "test", served)
    ∷ (codes "option-data", served)
    ∷ (codes "only-if-required", usual (flag false ∷ []))
    ∷ (codes "option-def", served)
    ∷ (codes "only-in-additional-list", usual (flag false ∷ []))
    ∷ remarks ++ boot_keys ++ lifetime_keys

-- the keys that ask for further classes, each empty
abbrev pub required_keys : List (List ℕ × KeyUse)
required_keys =
    (codes "require-client-classes", usual (no_list ∷ []))
    ∷ (codes "evaluate-additional-classes", usual (no_list ∷ []))
    ∷ []

-- the keys of a subnet
abbrev pub subnet_keys : List (List ℕ × KeyUse)
subnet_keys =
    (codes "id", served)
    ∷ (codes "subnet", served)
    ∷ (codes "client-class", served)
    ∷ (codes "interface", served)
    ∷ (codes "pools", served)
    ∷ (codes "reservations", served)
    ∷ (codes "relay", served)
    ∷ (codes "4o6-interface", usual (word [] ∷ []))
    ∷ (codes "4o6-interface-id", usual (word [] ∷ []))
    ∷ (codes "4o6-subnet", usual (word [] ∷ []))
    ∷ required_keys ++ shared_keys

-- the keys of a shared network
abbrev pub network_keys : List (List ℕ × KeyUse)
network_keys =
    (codes "name", served)
    ∷ (codes "subnet4", served)
    ∷ (codes "client-class", served)
    ∷ (codes "interface", served)
    ∷ (codes "relay", served)
    ∷ required_keys ++ shared_keys

-- the keys of the relay of a subnet or a shared network
abbrev pub relay_keys : List (List ℕ × KeyUse)
relay_keys =
    (codes "ip-addresses", served) ∷ (codes "ip-address", served) ∷ []

-- the keys of a pool
abbrev pub pool_keys : List (List ℕ × KeyUse)
pool_keys =
    (codes "pool", served)
    ∷ (codes "client-class", served)
    ∷ (codes "option-data", served)
    ∷ (codes "pool-id", skipped)
    ∷ required_keys ++ remarks

-- the keys of a reservation
abbrev pub host_keys : List (List ℕ × KeyUse)
host_keys =
    (codes "hw-address", served)
    ∷ (codes "duid", served)
    ∷ (codes "circuit-id", served)
    ∷ (codes "client-id", served)
    ∷ (codes "ip-address", served)
    ∷ (codes "hostname", served)
    ∷ (codes "option-data", served)
    ∷ (codes "client-classes", served)
    ∷ remarks ++ boot_keys

-- what is done with the keys of each kind of object
abbrev pub key_table : ObjectKind → List (List ℕ × KeyUse)
key_table kinds.Whole = root_keys
key_table kinds.Server = server_keys
key_table kinds.Data = data_keys
key_table kinds.Definition = definition_keys
key_table kinds.Class = class_keys
key_table kinds.Subnet = subnet_keys
key_table kinds.Network = network_keys
key_table kinds.Relay = relay_keys
key_table kinds.Pool = pool_keys
key_table kinds.Reservation = host_keys
