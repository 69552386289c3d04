-- The options with names: those of RFC 2132 and some of later standards, named as in Kea's standard
-- option definitions, each with its code and the type of its value.
use Rattle.std.specs.Prelude.{ℕ, ◌==◌, List, [], ◌∷◌, ◌++◌, Option, bytes_eq, codes, find, option_map}
use Rattle.kd_names.specs.declared.kind.Kind.{Kind}
use Rattle.kd_names.specs.declared.kind.Kind.TheVariants.{Address, Addresses, Pairs, Flag, Byte, Short, Long, Signed, Shorts, Codes, MessageType, Text, Name, Names, Routes, Bytes}

-- an option's code, its name and the type of its value
abbrev pub Definition : Type 0
Definition = ℕ × List ℕ × Kind

-- the vendor extensions of RFC 1497 (RFC 2132 section 3)
abbrev pub vendor_extensions : List Definition
vendor_extensions =
    (1, codes "subnet-mask", Address)
    ∷ (2, codes "time-offset", Signed)
    ∷ (3, codes "routers", Addresses)
    ∷ (4, codes "time-servers", Addresses)
    ∷ (5, codes "name-servers", Addresses)
    ∷ (6, codes "domain-name-servers", Addresses)
    ∷ (7, codes "log-servers", Addresses)
    ∷ (8, codes "cookie-servers", Addresses)
    ∷ (9, codes "lpr-servers", Addresses)
    ∷ (10, codes "impress-servers", Addresses)
    ∷ (11, codes "resource-location-servers", Addresses)
    ∷ (12, codes "host-name", Text)
    ∷ (13, codes "boot-size", Short)
    ∷ (14, codes "merit-dump", Text)
    ∷ (15, codes "domain-name", Text)
    ∷ (16, codes "swap-server", Address)
    ∷ (17, codes "root-path", Text)
    ∷ (18, codes "extensions-path", Text) ∷ []

-- the parameters of the IP layer, per host and per interface (RFC 2132 sections 4 and 5)
abbrev pub ip_parameters : List Definition
ip_parameters =
    (19, codes "ip-forwarding", Flag)
    ∷ (20, codes "non-local-source-routing", Flag)
    ∷ (21, codes "policy-filter", Pairs)
    ∷ (22, codes "max-dgram-reassembly", Short)
    ∷ (23, codes "default-ip-ttl", Byte)
    ∷ (24, codes "path-mtu-aging-timeout", Long)
    ∷ (25, codes "path-mtu-plateau-table", Shorts)
    ∷ (26, codes "interface-mtu", Short)
    ∷ (27, codes "all-subnets-local", Flag)
    ∷ (28, codes "broadcast-address", Address)
    ∷ (29, codes "perform-mask-discovery", Flag)
    ∷ (30, codes "mask-supplier", Flag)
    ∷ (31, codes "router-discovery", Flag)
    ∷ (32, codes "router-solicitation-address", Address)
    ∷ (33, codes "static-routes", Pairs) ∷ []

-- the parameters of the link layer and of TCP (RFC 2132 sections 6 and 7)
abbrev pub link_parameters : List Definition
link_parameters =
    (34, codes "trailer-encapsulation", Flag)
    ∷ (35, codes "arp-cache-timeout", Long)
    ∷ (36, codes "ieee802-3-encapsulation", Flag)
    ∷ (37, codes "default-tcp-ttl", Byte)
    ∷ (38, codes "tcp-keepalive-interval", Long)
    ∷ (39, codes "tcp-keepalive-garbage", Flag) ∷ []

-- the parameters of applications and services (RFC 2132 section 8)
abbrev pub services : List Definition
services =
    (40, codes "nis-domain", Text)
    ∷ (41, codes "nis-servers", Addresses)
    ∷ (42, codes "ntp-servers", Addresses)
    ∷ (43, codes "vendor-encapsulated-options", Bytes)
    ∷ (44, codes "netbios-name-servers", Addresses)
    ∷ (45, codes "netbios-dd-server", Addresses)
    ∷ (46, codes "netbios-node-type", Byte)
    ∷ (47, codes "netbios-scope", Text)
    ∷ (48, codes "font-servers", Addresses)
    ∷ (49, codes "x-display-manager", Addresses) ∷ []

-- the rest of them, whose codes are higher
abbrev pub more_services : List Definition
more_services =
    (64, codes "nisplus-domain-name", Text)
    ∷ (65, codes "nisplus-servers", Addresses)
    ∷ (68, codes "mobile-ip-home-agent", Addresses)
    ∷ (69, codes "smtp-server", Addresses)
    ∷ (70, codes "pop-server", Addresses)
    ∷ (71, codes "nntp-server", Addresses)
    ∷ (72, codes "www-server", Addresses)
    ∷ (73, codes "finger-server", Addresses)
    ∷ (74, codes "irc-server", Addresses)
    ∷ (75, codes "streettalk-server", Addresses)
    ∷ (76, codes "streettalk-directory-assistance-server", Addresses) ∷ []

-- the extensions of DHCP (RFC 2132 section 9)
abbrev pub extensions : List Definition
extensions =
    (50, codes "dhcp-requested-address", Address)
    ∷ (51, codes "dhcp-lease-time", Long)
    ∷ (52, codes "dhcp-option-overload", Byte)
    ∷ (53, codes "dhcp-message-type", MessageType)
    ∷ (54, codes "dhcp-server-identifier", Address)
    ∷ (55, codes "dhcp-parameter-request-list", Codes)
    ∷ (56, codes "dhcp-message", Text)
    ∷ (57, codes "dhcp-max-message-size", Short)
    ∷ (58, codes "dhcp-renewal-time", Long)
    ∷ (59, codes "dhcp-rebinding-time", Long)
    ∷ (60, codes "vendor-class-identifier", Text)
    ∷ (61, codes "dhcp-client-identifier", Bytes)
    ∷ (66, codes "tftp-server-name", Text)
    ∷ (67, codes "boot-file-name", Text) ∷ []

-- options of later standards with codes from 62 to 97 (RFC 2241, 2242, 2610, 3004, 3046, 3118,
-- 4280, 4388, 4578 and 4702)
abbrev pub later_options : List Definition
later_options =
    (62, codes "nwip-domain-name", Text)
    ∷ (63, codes "nwip-suboptions", Bytes)
    ∷ (77, codes "user-class", Bytes)
    ∷ (78, codes "slp-directory-agent", Bytes)
    ∷ (79, codes "slp-service-scope", Bytes)
    ∷ (81, codes "fqdn", Bytes)
    ∷ (82, codes "dhcp-agent-options", Bytes)
    ∷ (85, codes "nds-servers", Addresses)
    ∷ (86, codes "nds-tree-name", Text)
    ∷ (87, codes "nds-context", Text)
    ∷ (88, codes "bcms-controller-names", Names)
    ∷ (89, codes "bcms-controller-address", Addresses)
    ∷ (90, codes "authenticate", Bytes)
    ∷ (91, codes "client-last-transaction-time", Long)
    ∷ (92, codes "associated-ip", Addresses)
    ∷ (93, codes "client-system", Shorts)
    ∷ (94, codes "client-ndi", Bytes)
    ∷ (97, codes "uuid-guid", Bytes) ∷ []

-- those with codes from 98 to 125 (RFC 2485, 2563, 2937, 3011, 3397, 3442, 3679, 3925, 4776, 4833,
-- 8910 and 8925)
abbrev pub more_options : List Definition
more_options =
    (98, codes "uap-servers", Text)
    ∷ (99, codes "geoconf-civic", Bytes)
    ∷ (100, codes "pcode", Text)
    ∷ (101, codes "tcode", Text)
    ∷ (108, codes "v6-only-preferred", Long)
    ∷ (112, codes "netinfo-server-address", Addresses)
    ∷ (113, codes "netinfo-server-tag", Text)
    ∷ (114, codes "v4-captive-portal", Text)
    ∷ (116, codes "auto-config", Byte)
    ∷ (117, codes "name-service-search", Shorts)
    ∷ (118, codes "subnet-selection", Address)
    ∷ (119, codes "domain-search", Names)
    ∷ (121, codes "classless-static-route", Routes)
    ∷ (124, codes "vivco-suboptions", Bytes)
    ∷ (125, codes "vivso-suboptions", Bytes) ∷ []

-- those with codes from 136 on (RFC 5192, 5223, 5417, 5969, 5986, 6011, 6731, 7618, 8572 and 9463)
abbrev pub high_options : List Definition
high_options =
    (136, codes "pana-agent", Addresses)
    ∷ (137, codes "v4-lost", Name)
    ∷ (138, codes "capwap-ac-v4", Addresses)
    ∷ (141, codes "sip-ua-cs-domains", Names)
    ∷ (143, codes "v4-sztp-redirect", Bytes)
    ∷ (146, codes "rdnss-selection", Bytes)
    ∷ (159, codes "v4-portparams", Bytes)
    ∷ (162, codes "v4-dnr", Bytes)
    ∷ (212, codes "option-6rd", Bytes)
    ∷ (213, codes "v4-access-domain", Name) ∷ []

-- all of them
abbrev pub definitions : List Definition
definitions =
    vendor_extensions ++ ip_parameters ++ link_parameters ++ services ++ more_services ++ extensions
    ++ later_options ++ more_options ++ high_options

-- the name and the type that a list has for a code
abbrev pub definition_in : List Definition → ℕ → Option (List ℕ × Kind)
definition_in list code = option_map (λ d. (d.1, d.2)) (find (λ d. d.0 == code) list)

-- the name of an option and the type of its value, if it has a name
abbrev pub definition_of : ℕ → Option (List ℕ × Kind)
definition_of = definition_in definitions

-- the type of the value of an option, if the option has a name
abbrev pub kind_by_code : ℕ → Option Kind
kind_by_code code = option_map (λ d. d.1) (definition_of code)

-- the code and the type that a list has for a name
abbrev pub option_among : List Definition → List ℕ → Option (ℕ × Kind)
option_among list name = option_map (λ d. (d.0, d.2)) (find (λ d. bytes_eq d.1 name) list)

-- the code of the option that has this name, and the type of its value
abbrev pub option_by_name : List ℕ → Option (ℕ × Kind)
option_by_name = option_among definitions
