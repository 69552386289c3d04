-- What a check of a start prints about a configuration: how much it contains, and a line for each
-- part that is probably a mistake, though a server starts with it.
use Rattle.std.specs.Prelude.{◌≡◌, ℕ, ◌+◌, ◌-◌, ◌^◌, ◌&&◌, ◌||◌, ◌==◌, Bool, true, false, not, min, is_some, nat_le, nat_lt, if◌then◌else◌, MatchBool}
use Rattle.std.specs.Prelude.{List, [], ◌∷◌, ◌++◌, Option, None, Some, Result, Ok, Err, codes, decimal, length, option_map, string_bytes}
use Rattle.std.specs.List.{find, flat_map, list_any}
use Rattle.std.specs.Str.{bytes_eq}
use Rattle.kd_classes.specs.Order.{built_in}
use Rattle.kd_classes.specs.declared.definition.ClassDef.{ClassDef}
use Rattle.kd_trouble.specs.declared.troubles.SocketTrouble.{SocketTrouble}
use Rattle.kd_trouble.specs.declared.troubles.SocketTrouble.TheVariants as sockets
use Rattle.kd_commands.specs.declared.orders.Files.{Files}
use Rattle.kd_commands.specs.declared.orders.Form.{Form}
use Rattle.kd_commands.specs.declared.orders.Form.TheVariants as forms
use Rattle.kd_config.specs.Address.{has_address, prefix_size}
use Rattle.kd_config.specs.Apart.{has}
use Rattle.kd_config.specs.Configuration.{Configuration}
use Rattle.kd_config.specs.declared.pool.Pool.{Pool}
use Rattle.kd_config.specs.declared.prefix.Prefix.{Prefix}
use Rattle.kd_config.specs.declared.reservation.Reservation.{Reservation}
use Rattle.kd_config.specs.declared.subnet.Subnet.{Subnet}
use Rattle.kd_trouble.specs.declared.fault.StartFault.{StartFault}
use Rattle.kd_names.specs.Values.{sign_text}
use Rattle.kd_program.specs.Banner.{subnet_addresses}
use Rattle.kd_program.specs.declared.host.Host.{Ghosts as Hosts}
use Rattle.kd_text.specs.Text.{address_text, prefix_text}
use Rattle.kd_token.specs.File.{Code}
use Rattle.kd_token.specs.declared.token.Token.{Token}
use Rattle.kd_token.specs.declared.token.Token.TheVariants as tokens

-- ---- the server's address

-- the line about the address of a server
unfoldable pub server_text : List ℕ → ℕ → List ℕ → List ℕ
server_text name server words =
    name ++ codes ": server-address " ++ address_text server ++ words

-- the line, if no host can have the address (RFC 1112: multicast, and what is reserved), or else if
-- this machine is found to have none such
abbrev pub server_advice : List ℕ → ℕ → Bool → List ℕ
server_advice name server is_missing =
    if nat_le 0xe0000000 server
    then server_text name server (codes ": no host has such an address\n")
    else if is_missing
    then server_text name server (codes ": this machine has no such address\n") else []

-- ---- the class that a subnet requires

-- a token asks for what a relay adds (RFC 3046)
abbrev pub asks_relay : Token → Bool
asks_relay (tokens.PushRelay code) = true
asks_relay (tokens.RelayExists code) = true
asks_relay other = false

-- so does a test, if there is one
abbrev pub test_asks : Option Code → Bool
test_asks None = false
test_asks (Some test) = list_any asks_relay test.tokens

-- the definition of a class, if there is one
abbrev pub defined : List ClassDef → List ℕ → Option ClassDef
defined classes name = find (λ def. bytes_eq name def.name) classes

-- the test of a class that is defined asks so
abbrev pub def_asks : Option ClassDef → Bool
def_asks None = false
def_asks (Some def) = test_asks def.test

-- a reservation gives its client a class
abbrev pub joins_class : List ℕ → Reservation → Bool
joins_class class reservation = list_any (λ name. bytes_eq class name) reservation.joins

-- a subnet has a reservation that does
abbrev pub is_given_in : List ℕ → Subnet → Bool
is_given_in class s = list_any (joins_class class) s.reservations

-- somebody may be in a class: it is built in or defined, or a reservation gives it
abbrev pub may_be_held : Configuration → List ℕ → Bool
may_be_held config class =
    built_in class
    || (is_some (defined config.classes class) || list_any (is_given_in class) config.subnets)

-- what is wrong with requiring a class: nobody is in it, because it is neither built in nor defined,
-- and no reservation gives it; or its test asks for what a relay adds, a client that renews is not
-- relayed, and such a client does not keep its lease
abbrev pub class_trouble : Configuration → List ℕ → Option (List ℕ)
class_trouble config class =
    if not (may_be_held config class)
    then Some (codes ": its client-class is not defined, so it serves nobody\n")
    else if not config.extensions.keeps_leases && def_asks (defined config.classes class)
    then Some (codes ": its client-class asks for option 82, which a client that renews does not send, so it does not serve renewals\n")
    else None

-- the line about a subnet
unfoldable pub subnet_text : List ℕ → Prefix → List ℕ → List ℕ
subnet_text name prefix words =
    name ++ codes ": subnet " ++ prefix_text prefix.address prefix.length ++ words

-- the line, if something is wrong
abbrev pub subnet_note : List ℕ → Prefix → Option (List ℕ) → List ℕ
subnet_note name prefix None = []
subnet_note name prefix (Some words) = subnet_text name prefix words

-- the line about a class that a subnet requires, if something is wrong with that
abbrev pub subnet_class_note : List ℕ → Configuration → Prefix → List ℕ → List ℕ
subnet_class_note name config prefix class = subnet_note name prefix (class_trouble config class)

-- the lines about the classes that a subnet requires
abbrev pub subnet_class_notes : List ℕ → Configuration → Subnet → List ℕ
subnet_class_notes name config s = flat_map (subnet_class_note name config s.prefix) s.classes

-- ---- the pools of a subnet

-- the beginning of a line about a pool
abbrev pub pool_name : List ℕ → Pool → List ℕ
pool_name name pool =
    name ++ codes ": pool " ++ address_text pool.range.first ++ codes " - "
    ++ address_text pool.range.last

-- the line about the class that a pool requires
unfoldable pub pool_class_text : List ℕ → Pool → List ℕ → List ℕ
pool_class_text name pool words = pool_name name pool ++ words

-- the line, if something is wrong
abbrev pub pool_class_note : List ℕ → Pool → Option (List ℕ) → List ℕ
pool_class_note name pool None = []
pool_class_note name pool (Some words) = pool_class_text name pool words

-- the line about a class that a pool requires, if something is wrong with that
abbrev pub required_note : List ℕ → Configuration → Pool → List ℕ → List ℕ
required_note name config pool class = pool_class_note name pool (class_trouble config class)

-- the lines about the classes that a pool requires
abbrev pub pool_class_notes : List ℕ → Configuration → Pool → List ℕ
pool_class_notes name config pool = flat_map (required_note name config pool) pool.classes

-- the line about an address in a pool
unfoldable pub pool_text : List ℕ → Pool → ℕ → List ℕ → List ℕ
pool_text name pool a words =
    pool_name name pool ++ codes ": " ++ address_text a ++ codes " is " ++ words
    ++ codes "\n"

-- the line, if the pool contains the address
abbrev pub pool_note : List ℕ → Pool → ℕ → List ℕ → List ℕ
pool_note name pool a words = if has pool.range a then pool_text name pool a words else []

-- the last address of a prefix
abbrev pub last_of : Prefix → ℕ
last_of prefix = min (prefix.address + prefix_size prefix.length - 1) (2 ^ 32 - 1)

-- the lines about the addresses of a network, unless it has two addresses at most (RFC 3021)
abbrev pub network_lines : List ℕ → Prefix → Pool → List ℕ
network_lines name prefix pool =
    if nat_le (prefix_size prefix.length) 2 then []
    else pool_note name pool prefix.address (codes "the address of the network")
    ++ pool_note name pool (last_of prefix) (codes "the broadcast address")

-- the lines about the addresses of a pool that no client should have
unfoldable pub address_advice : List ℕ → ℕ → Prefix → Pool → List ℕ
address_advice name server prefix pool =
    network_lines name prefix pool
    ++ pool_note name pool server (codes "the address of the server")

-- the lines about a pool
abbrev pub pool_advice : List ℕ → Configuration → Prefix → Pool → List ℕ
pool_advice name config prefix pool =
    pool_class_notes name config pool
    ++ address_advice name config.server prefix pool

-- ---- subnets that no message reaches

-- all addresses of a prefix are those of another one
abbrev pub is_subprefix : Prefix → Prefix → Bool
is_subprefix inner outer = nat_le outer.length inner.length && has_address outer inner.address

-- a subnet serves each client of one after it: it has all addresses of the other's prefix, and it is
-- for no class; and only its prefix leads to the other, which names no relay and is in no network
abbrev pub hides : Subnet → Subnet → Bool
hides s other =
    length s.classes == 0
    && (is_subprefix other.prefix s.prefix && (length other.relays == 0 && other.network == 0))

-- the line about a subnet that another one hides
unfoldable pub hidden_text : List ℕ → Prefix → Prefix → List ℕ
hidden_text name prefix before =
    name ++ codes ": subnet " ++ prefix_text prefix.address prefix.length
    ++ codes ": no client gets an address here, because subnet "
    ++ prefix_text before.address before.length ++ codes " before it serves them all\n"

-- the line, if it is hidden
abbrev pub hidden_note : List ℕ → Subnet → Subnet → List ℕ
hidden_note name s other = if hides s other then hidden_text name other.prefix s.prefix else []

-- the lines about subnets that one of these before them hides
unfoldable pub hidden_notes : List ℕ → List Subnet → List ℕ
hidden_notes name [] = []
hidden_notes name (s ∷ subnets) = flat_map (hidden_note name s) subnets ++ hidden_notes name subnets

-- ---- together

-- the lines about a subnet
abbrev pub subnet_advice : List ℕ → Configuration → Subnet → List ℕ
subnet_advice name config s =
    subnet_class_notes name config s
    ++ flat_map (pool_advice name config s.prefix) s.pools

-- the lines about all subnets of a configuration
unfoldable pub all_subnets_advice : List ℕ → Configuration → List ℕ
all_subnets_advice name config =
    flat_map (subnet_advice name config) config.subnets ++ hidden_notes name config.subnets

-- the lines about a configuration with this name
abbrev pub advice_lines : List ℕ → Configuration → Bool → List ℕ
advice_lines name config is_missing =
    server_advice name config.server is_missing ++ all_subnets_advice name config

-- the name of a configuration: the path of its file, as a terminal may show it, or what it is
abbrev pub name_of : Option (List ℕ) → List ℕ
name_of None = flat_map sign_text (codes "the built-in configuration")
name_of (Some path) = flat_map sign_text path

-- the line that says how much a configuration contains
unfoldable pub size_text : List ℕ → ℕ → ℕ → List ℕ
size_text name subnets addresses =
    name ++ codes ": subnets " ++ decimal subnets ++ codes ", addresses " ++ decimal addresses
    ++ codes "\n"

-- the same, of its subnets and the addresses in their pools
abbrev pub size_line : List ℕ → Configuration → List ℕ
size_line name config =
    size_text name (length config.subnets) (subnet_addresses config.subnets)

-- a trial of a socket found that this machine has no such address
abbrev pub is_absent : Result Bool SocketTrouble → Bool
is_absent (Ok reaches) = false
is_absent (Err sockets.NoSuchAddress) = true
is_absent (Err trouble) = false

-- over a host
module _ {H N U L R : Type 0} (h : Hosts H N U L R) where
  -- this machine was found to have no such address as the server's, or not; that is tried if a host
  -- can have the address
  abbrev pub IsFoundMissing : H → ℕ → Bool → Type 0
  IsFoundMissing host server is_missing =
      MatchBool (nat_lt server 0xe0000000)
      ((answer : Result Bool SocketTrouble) × h.reaches host server 0 answer
      × (is_missing ≡ is_absent answer))
      (is_missing ≡ false)

  -- a text is about the content of the configuration in a file, if one is named: how much there is,
  -- and what is probably a mistake
  abbrev pub IsAboutContent : H → Option (List ℕ) → Configuration → List ℕ → Type 0
  IsAboutContent host file config text =
      (is_missing : Bool) × IsFoundMissing host config.server is_missing
      × (text ≡ size_line (name_of file) config ++ advice_lines (name_of file) config is_missing)

  -- what the host remarks on the keys of the file of a configuration: nothing if it has our own
  -- form
  abbrev pub AreRemarks : H → Files → Form → List ℕ → Type 0
  AreRemarks host files forms.Own remarks = remarks ≡ []
  AreRemarks host files (forms.Kea server) remarks = h.remarked host files remarks

  -- a text is about the configuration of these files: its content, and remarks on its keys; or the
  -- host's words for the fault
  abbrev pub IsAboutConfig : H → Files → Result Configuration StartFault → List ℕ → Type 0
  IsAboutConfig host files (Ok config) text =
      (content : List ℕ) × IsAboutContent host (option_map string_bytes files.config) config content
      × (remarks : List ℕ) × AreRemarks host files files.form remarks
      × (text ≡ content ++ remarks)
  IsAboutConfig host files (Err fault) text = h.explains host files fault text
