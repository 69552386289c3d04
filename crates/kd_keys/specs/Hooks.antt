-- The hooks in a configuration of Kea's (Kea Administrator Reference Manual, Hook Libraries) that
-- change nothing for clients.
use Rattle.std.specs.Prelude.{ℕ, nat_eq, Bool, true, false, ◌&&◌, List, [], ◌∷◌, codes, Option, Some, None, option_and_then}
use Rattle.std.specs.List.{ends_with, list_any}
use Rattle.serde_json.specs.Data.{Data, Items, no_items, item, array}
use Rattle.serde_json.specs.Find.{as_str, get}

-- the libraries that add commands for the operator, or write a log for him: how their paths end
unfoldable pub quiet_libraries : List (List ℕ)
quiet_libraries =
    codes "/libdhcp_lease_cmds.so"
    ∷ codes "/libdhcp_stat_cmds.so"
    ∷ codes "/libdhcp_host_cmds.so"
    ∷ codes "/libdhcp_subnet_cmds.so"
    ∷ codes "/libdhcp_class_cmds.so"
    ∷ codes "/libdhcp_cb_cmds.so"
    ∷ codes "/libdhcp_legal_log.so"
    ∷ []

-- a path, if there is one, ends as that of one of these libraries
abbrev pub names_quiet : Option (List ℕ) → Bool
names_quiet None = false
names_quiet (Some path) = list_any (λ name. ends_with nat_eq path name) quiet_libraries

-- a hook is one of these libraries
abbrev pub is_quiet : Data → Bool
is_quiet d = names_quiet (option_and_then as_str (get (codes "library") d))

-- each hook is one of these libraries
abbrev pub are_quiet : Items → Bool
are_quiet no_items = true
are_quiet (item d ds) = is_quiet d && are_quiet ds

-- the list of hooks, if it is given, has such hooks only
abbrev pub hooks_are_quiet : Option Data → Bool
hooks_are_quiet None = true
hooks_are_quiet (Some (array items)) = are_quiet items
hooks_are_quiet (Some d) = false
