-- What holds of clients for the whole server in a configuration of Kea's: whether it is authoritative,
-- and whether it knows clients by their identifiers (Kea Administrator Reference Manual, sections
-- Authoritative DHCPv4 Server Behavior and Using Client Identifier and Hardware Address).
use Rattle.std.specs.Prelude.{Bool, true, ◌&&◌, codes, Option, Some}
use Rattle.serde_json.specs.Data.{Data}
use Rattle.serde_json.specs.Find.{get}
use Rattle.kd_keys.specs.Keys.{flag}
use Rattle.kd_keys.specs.Values.{flag_given, flag_or, is_plain_if_given}
use Rattle.kd_config.specs.declared.extensions.Policy.{Policy}
use Rattle.kd_wire.specs.Steps.{◌>>=◌}

-- the policy in the value of `Dhcp4`: unless it says otherwise, the server is not authoritative, and
-- knows clients by their identifiers
unfoldable pub kea_policy : Data → Option Policy
kea_policy d = do
  is_authoritative ← flag_given (get (codes "authoritative") d)
  matches_client_ids ← flag_or true (get (codes "match-client-id") d)
  Some (record { is_authoritative = is_authoritative; matches_client_ids = matches_client_ids })

-- the policy of a subnet or a network, if it is given, is that of the whole server
abbrev pub repeats_policy : Policy → Data → Bool
repeats_policy policy d =
    is_plain_if_given (flag policy.is_authoritative) (get (codes "authoritative") d)
    && is_plain_if_given (flag policy.matches_client_ids) (get (codes "match-client-id") d)
