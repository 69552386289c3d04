-- The kinds of identity by which reservations are looked for in a configuration of Kea's
-- (`host-reservation-identifiers`), and their order.
use Rattle.std.specs.Prelude.{Bool, true, false, not, ◌&&◌, ◌||◌, List, [], ◌∷◌, ◌++◌, codes, Option, None, Some, is_some, ℕ}
use Rattle.std.specs.List.{find, list_all, list_any}
use Rattle.serde_json.specs.Data.{Data, Items, no_items, item, array}
use Rattle.serde_json.specs.Find.{get}
use Rattle.kd_config.specs.declared.reservation.IdentityKind.{IdentityKind}
use Rattle.kd_config.specs.declared.reservation.IdentityKind.TheVariants as kinds
use Rattle.kd_keys.specs.Keys.{is_plain, word}
use Rattle.kd_keys.specs.Values.{has_plain}
use Rattle.kd_keys.specs.declared.host_kinds.HostKinds.{HostKinds}

-- the key of a kind of identity, which is also its name
abbrev pub kind_key : IdentityKind → List ℕ
kind_key kinds.Hardware = codes "hw-address"
kind_key kinds.Duid = codes "duid"
kind_key kinds.Circuit = codes "circuit-id"
kind_key kinds.ClientId = codes "client-id"

-- the kinds of identity, in the usual order
abbrev pub kinds_in_order : List IdentityKind
kinds_in_order = kinds.Hardware ∷ kinds.Duid ∷ kinds.Circuit ∷ kinds.ClientId ∷ []

-- the kind of identity that has this name
abbrev pub kind_named : Data → Option IdentityKind
kind_named d = find (λ kind. is_plain (word (kind_key kind)) d) kinds_in_order

-- a name is that of a kind of identity, or `flex-id`, by which nothing is reserved
abbrev pub is_kind_name : Data → Bool
is_kind_name d = is_plain (word (codes "flex-id")) d || is_some (kind_named d)

-- a name is that of a kind of identity, and so is one of these
abbrev pub is_named_again : Data → Items → Bool
is_named_again d names =
    list_any (λ kind. is_plain (word (kind_key kind)) d && has_plain (word (kind_key kind)) names)
    kinds_in_order

-- items name kinds of identity, each at most once
abbrev pub name_kinds : Items → Bool
name_kinds no_items = true
name_kinds (item d ds) = (is_kind_name d && not (is_named_again d ds)) && name_kinds ds

-- reservations are looked for by all kinds in the usual order, or by some in another
abbrev pub finds_reservations : Option Data → Bool
finds_reservations None = true
finds_reservations (Some (array names)) = name_kinds names
finds_reservations (Some d) = false

-- a kind, if there is one
abbrev pub kind_list : Option IdentityKind → List IdentityKind
kind_list None = []
kind_list (Some kind) = kind ∷ []

-- the kinds that items name, in their order
abbrev pub named_kinds : Items → List IdentityKind
named_kinds no_items = []
named_kinds (item d ds) = kind_list (kind_named d) ++ named_kinds ds

-- the kinds in the order in which reservations are looked for: the usual one, unless a list names them
abbrev pub order_given : Option Data → List IdentityKind
order_given None = kinds_in_order
order_given (Some (array names)) = named_kinds names
order_given (Some d) = kinds_in_order

-- all kinds
abbrev pub every_kind : HostKinds
every_kind = record { hardware = true; duid = true; circuit = true; client_id = true }

-- the kinds that have their name among these items
abbrev pub kinds_among : Items → HostKinds
kinds_among names =
    record {
      hardware = has_plain (word (kind_key kinds.Hardware)) names;
      duid = has_plain (word (kind_key kinds.Duid)) names;
      circuit = has_plain (word (kind_key kinds.Circuit)) names;
      client_id = has_plain (word (kind_key kinds.ClientId)) names;
    }

-- the kinds by which reservations are looked for: all, unless a list names them
abbrev pub kinds_given : Option Data → HostKinds
kinds_given None = every_kind
kinds_given (Some (array names)) = kinds_among names
kinds_given (Some d) = every_kind

-- reservations are looked for by a kind of identity
abbrev pub looks_for : HostKinds → IdentityKind → Bool
looks_for found kinds.Hardware = found.hardware
looks_for found kinds.Duid = found.duid
looks_for found kinds.Circuit = found.circuit
looks_for found kinds.ClientId = found.client_id

-- a reservation has no identity of a kind, or reservations are looked for by it
abbrev pub is_found_if_given : HostKinds → Data → IdentityKind → Bool
is_found_if_given found d kind = looks_for found kind || not (is_some (get (kind_key kind) d))

-- reservations are looked for by each kind of identity that one has
abbrev pub are_all_found : HostKinds → Data → Bool
are_all_found found d = list_all (is_found_if_given found d) kinds_in_order
