-- The names of options and of message fields in a class test (Kea Administrator Reference Manual,
-- chapter Client Classification), in lower case as written here.
use Rattle.std.specs.Prelude.{ℕ, List, codes, bytes_eq, Option, Some, None, if◌then◌else◌}
use Rattle.kd_wire.specs.declared.field.Field.{Field}
use Rattle.kd_wire.specs.declared.field.Field.TheVariants.{Mac, Hlen, Htype, Ciaddr, Giaddr, Yiaddr, Siaddr, MessageType, Transaction}

-- the code of the option with this name
unfoldable pub code_by_name : List ℕ → Option ℕ
code_by_name name =
    if bytes_eq name (codes "subnet-mask") then Some 1
    else if bytes_eq name (codes "routers") then Some 3
    else if bytes_eq name (codes "domain-name-servers") then Some 6
    else if bytes_eq name (codes "host-name") then Some 12
    else if bytes_eq name (codes "domain-name") then Some 15
    else if bytes_eq name (codes "vendor-encapsulated-options") then Some 43
    else if bytes_eq name (codes "dhcp-requested-address") then Some 50
    else if bytes_eq name (codes "dhcp-lease-time") then Some 51
    else if bytes_eq name (codes "dhcp-message-type") then Some 53
    else if bytes_eq name (codes "dhcp-server-identifier") then Some 54
    else if bytes_eq name (codes "dhcp-parameter-request-list") then Some 55
    else if bytes_eq name (codes "dhcp-max-message-size") then Some 57
    else if bytes_eq name (codes "vendor-class-identifier") then Some 60
    else if bytes_eq name (codes "dhcp-client-identifier") then Some 61
    else if bytes_eq name (codes "dhcp-agent-options") then Some 82
    else None

-- the message field with this name after `pkt4.`
unfoldable pub field_by_name : List ℕ → Option Field
field_by_name name =
    if bytes_eq name (codes "mac") then Some Mac
    else if bytes_eq name (codes "hlen") then Some Hlen
    else if bytes_eq name (codes "htype") then Some Htype
    else if bytes_eq name (codes "ciaddr") then Some Ciaddr
    else if bytes_eq name (codes "giaddr") then Some Giaddr
    else if bytes_eq name (codes "yiaddr") then Some Yiaddr
    else if bytes_eq name (codes "siaddr") then Some Siaddr
    else if bytes_eq name (codes "msgtype") then Some MessageType
    else if bytes_eq name (codes "transid") then Some Transaction
    else None
