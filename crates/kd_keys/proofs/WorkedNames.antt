-- Worked examples: reservations and options of Kea's, and the options that they mean, by hand.
use Rattle.std.proofs.Common.{◌≡◌, true, false, [], ◌∷◌, Some, None, refl}
use Rattle.std.specs.Prelude.{codes, option_map}
use Rattle.std.specs.Fmt.{digits}
use Rattle.std.specs.Str.{chars, is_utf8}
use Rattle.serde_json.proofs.OnLiterals.{serde_json_on_literals}
use Rattle.kd_fields.specs.Text.{value_spelled}
use Rattle.kd_fields.specs.HexText.{bytes_spelled}
use Rattle.kd_fields.specs.Lists.{list_of}
use Rattle.kd_fields.specs.Values.{hex_bytes_in, number_within}
use Rattle.kd_keys.specs.Definitions.{usual_vendor}
use Rattle.kd_keys.specs.HostName.{has_bare_names, host_name, host_options, server_has_bare_names}
use Rattle.kd_keys.specs.Keys.{keys_are_read}
use Rattle.kd_keys.specs.OptionValue.{fields_data}
use Rattle.kd_keys.specs.Options.{entry_by, kea_code, kea_entry, kea_options, options_below}
use Rattle.kd_keys.specs.Quoted.{bytes_in_quotes}
use Rattle.kd_keys.specs.Values.{has_whole_bytes}
use Rattle.kd_wire.specs.Steps.{◌>>=◌}

-- a name in capitals, with a dot at its end
example_1 : (value_spelled (codes "{\"hostname\": \"Printer.ORG.\"}") >>= host_options [] true) ≡ Some (record { code = 12; value = codes "printer.org"; always = true } ∷ [])
unfolding serde_json_on_literals chars digits is_utf8 value_spelled list_of kea_options host_name host_options
example_1 = refl

-- an empty name is none, and a dot alone is wrong
example_2 : (value_spelled (codes "{\"hostname\": \"\"}") >>= host_options [] true) ≡ Some []
unfolding serde_json_on_literals chars digits is_utf8 value_spelled list_of kea_options host_name host_options
example_2 = refl

example_3 : (value_spelled (codes "{\"hostname\": \".\"}") >>= host_options [] true) ≡ None
unfolding serde_json_on_literals chars digits is_utf8 value_spelled list_of kea_options host_name host_options
example_3 = refl

-- with a suffix there may be no name
example_4 : (value_spelled (codes "{\"hostname\": \"a\"}") >>= host_options [] false) ≡ None
unfolding serde_json_on_literals chars digits is_utf8 value_spelled list_of kea_options host_name host_options
example_4 = refl

example_5 : (value_spelled (codes "{\"ddns-x\": 1}") >>= host_options [] false) ≡ Some []
unfolding serde_json_on_literals chars digits is_utf8 value_spelled list_of kea_options host_name host_options
example_5 = refl

-- a name takes the place of another option 12, and comes before the other options
example_6 : (value_spelled (codes "{\"option-data\": [{\"code\": 3, \"csv-format\": false, \"data\": \"'abcd'\", \"always-send\": true}, {\"code\": 12, \"csv-format\": false, \"data\": \"'x'\"}], \"hostname\": \"B\"}") >>= host_options [] true) ≡ Some (record { code = 12; value = codes "b"; always = true } ∷ record { code = 3; value = codes "abcd"; always = true } ∷ [])
unfolding serde_json_on_literals chars digits is_utf8 value_spelled number_within list_of keys_are_read kea_code entry_by kea_entry options_below kea_options hex_bytes_in bytes_spelled has_whole_bytes bytes_in_quotes host_name host_options
example_6 = refl

-- without a name it stays
example_7 : (value_spelled (codes "{\"option-data\": [{\"code\": 12, \"csv-format\": false, \"data\": \"'x'\"}]}") >>= host_options [] true) ≡ Some (record { code = 12; value = codes "x"; always = false } ∷ [])
unfolding serde_json_on_literals chars digits is_utf8 value_spelled number_within list_of keys_are_read kea_code entry_by kea_entry options_below kea_options hex_bytes_in bytes_spelled has_whole_bytes bytes_in_quotes host_name host_options
example_7 = refl

-- an option that consists of others: its own word counts, not theirs
example_8 : (value_spelled (codes "{\"option-data\": [{\"code\": 43}, {\"space\": \"vendor-encapsulated-options-space\", \"code\": 1, \"csv-format\": false, \"data\": \"'y'\", \"always-send\": true}]}") >>= host_options (usual_vendor ∷ []) true) ≡ Some (record { code = 43; value = 1 ∷ 1 ∷ 121 ∷ []; always = false } ∷ [])
unfolding serde_json_on_literals chars digits is_utf8 value_spelled number_within list_of keys_are_read kea_code entry_by kea_entry options_below kea_options fields_data hex_bytes_in bytes_spelled has_whole_bytes bytes_in_quotes host_name host_options
example_8 = refl

-- a number is no truth value
example_9 : (value_spelled (codes "{\"option-data\": [{\"code\": 12, \"csv-format\": false, \"data\": \"'x'\", \"always-send\": 1}]}") >>= host_options [] true) ≡ None
unfolding serde_json_on_literals chars digits is_utf8 value_spelled number_within list_of keys_are_read kea_code entry_by kea_entry options_below kea_options hex_bytes_in bytes_spelled has_whole_bytes bytes_in_quotes host_name host_options
example_9 = refl

-- a subnet's own word on suffixes counts, and the older key of the server where it has no other
example_10 : option_map (has_bare_names true) (value_spelled (codes "{\"ddns-qualifying-suffix\": \"x\"}")) ≡ Some false
unfolding serde_json_on_literals chars digits is_utf8 value_spelled
example_10 = refl

example_11 : option_map server_has_bare_names (value_spelled (codes "{\"dhcp-ddns\": {\"qualifying-suffix\": \"x\"}}")) ≡ Some false
unfolding serde_json_on_literals chars digits is_utf8 value_spelled
example_11 = refl

example_12 : option_map server_has_bare_names (value_spelled (codes "{\"dhcp-ddns\": {\"qualifying-suffix\": \"x\"}, \"ddns-qualifying-suffix\": \"\"}")) ≡ Some true
unfolding serde_json_on_literals chars digits is_utf8 value_spelled
example_12 = refl
