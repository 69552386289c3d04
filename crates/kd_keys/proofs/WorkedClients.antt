-- Worked examples: clients of reservations, and the kinds by which they are looked for, by hand.
use Rattle.std.proofs.Common.{◌≡◌, true, false, [], ◌∷◌, Some, None, refl}
use Rattle.std.specs.Prelude.{codes, option_map}
use Rattle.std.specs.Fmt.{digits}
use Rattle.std.specs.Str.{chars, is_utf8}
use Rattle.serde_json.proofs.OnLiterals.{serde_json_on_literals}
use Rattle.kd_config.specs.declared.reservation.Identity.TheVariants as clients
use Rattle.kd_config.specs.declared.reservation.IdentityKind.TheVariants as kinds
use Rattle.kd_fields.specs.Text.{value_spelled}
use Rattle.kd_fields.specs.HexText.{bytes_spelled}
use Rattle.kd_fields.specs.Values.{hex_bytes_in}
use Rattle.kd_keys.specs.HostClient.{host_bytes, kea_client}
use Rattle.kd_keys.specs.HostKinds.{are_all_found, every_kind, finds_reservations, kinds_given, order_given}
use Rattle.kd_keys.specs.Quoted.{bytes_in_quotes}
use Rattle.kd_keys.specs.Values.{has_whole_bytes}
use Rattle.kd_wire.specs.Steps.{◌>>=◌}

-- a circuit and a DUID as texts in quotation marks, with no blanks around them
example_1 : (value_spelled (codes "{\"circuit-id\": \"'a1'\"}") >>= kea_client) ≡ Some (clients.Circuit (97 ∷ 49 ∷ []))
unfolding serde_json_on_literals chars digits is_utf8 value_spelled bytes_spelled hex_bytes_in has_whole_bytes bytes_in_quotes host_bytes kea_client
example_1 = refl

example_2 : (value_spelled (codes "{\"duid\": \" '0x' \"}") >>= kea_client) ≡ Some (clients.Duid (48 ∷ 120 ∷ []))
unfolding serde_json_on_literals chars digits is_utf8 value_spelled bytes_spelled hex_bytes_in has_whole_bytes bytes_in_quotes host_bytes kea_client
example_2 = refl

-- no kind, two kinds, and a hardware address of 17 bytes
example_3 : (value_spelled (codes "{}") >>= kea_client) ≡ None
unfolding serde_json_on_literals chars digits is_utf8 value_spelled bytes_spelled hex_bytes_in has_whole_bytes bytes_in_quotes host_bytes kea_client
example_3 = refl

example_4 : (value_spelled (codes "{\"hw-address\": \"'a'\", \"duid\": \"'a'\"}") >>= kea_client) ≡ None
unfolding serde_json_on_literals chars digits is_utf8 value_spelled bytes_spelled hex_bytes_in has_whole_bytes bytes_in_quotes host_bytes kea_client
example_4 = refl

example_5 : (value_spelled (codes "{\"hw-address\": \"'12345678901234567'\"}") >>= kea_client) ≡ None
unfolding serde_json_on_literals chars digits is_utf8 value_spelled bytes_spelled hex_bytes_in has_whole_bytes bytes_in_quotes host_bytes kea_client
example_5 = refl

-- some kinds, with flex-id between them, and another order
example_6 : option_map (λ d. finds_reservations (Some d)) (value_spelled (codes "[\"duid\", \"flex-id\", \"client-id\"]")) ≡ Some true
unfolding serde_json_on_literals chars digits is_utf8 value_spelled
example_6 = refl

example_7 : option_map (λ d. finds_reservations (Some d)) (value_spelled (codes "[\"client-id\", \"duid\"]")) ≡ Some true
unfolding serde_json_on_literals chars digits is_utf8 value_spelled
example_7 = refl

-- a kind that is there twice, and another name
example_8 : option_map (λ d. finds_reservations (Some d)) (value_spelled (codes "[\"duid\", \"duid\"]")) ≡ Some false
unfolding serde_json_on_literals chars digits is_utf8 value_spelled
example_8 = refl

example_9 : option_map (λ d. finds_reservations (Some d)) (value_spelled (codes "[\"auto\"]")) ≡ Some false
unfolding serde_json_on_literals chars digits is_utf8 value_spelled
example_9 = refl

-- the order of the kinds that are named, and the usual one
example_12 : option_map (λ d. order_given (Some d)) (value_spelled (codes "[\"circuit-id\", \"flex-id\", \"hw-address\"]")) ≡ Some (kinds.Circuit ∷ kinds.Hardware ∷ [])
unfolding serde_json_on_literals chars digits is_utf8 value_spelled
example_12 = refl

example_13 : order_given None ≡ kinds.Hardware ∷ kinds.Duid ∷ kinds.Circuit ∷ kinds.ClientId ∷ []
example_13 = refl

-- the kinds that are named, and a reservation by a kind that is left out
example_10 : option_map (λ d. kinds_given (Some d)) (value_spelled (codes "[\"duid\"]")) ≡ Some (record { hardware = false; duid = true; circuit = false; client_id = false })
unfolding serde_json_on_literals chars digits is_utf8 value_spelled
example_10 = refl

example_11 : option_map (are_all_found (record every_kind { circuit = false })) (value_spelled (codes "{\"circuit-id\": \"01\"}")) ≡ Some false
unfolding serde_json_on_literals chars digits is_utf8 value_spelled
example_11 = refl
