-- Worked examples: texts and their notes, by hand.
use Rattle.std.proofs.Common.{◌≡◌, [], ◌∷◌, Some, None, refl}
use Rattle.std.specs.Prelude.{codes}
use Rattle.std.specs.Fmt.{digits}
use Rattle.std.specs.Str.{chars, is_utf8}
use Rattle.serde_json.proofs.OnLiterals.{serde_json_on_literals}
use Rattle.kd_fields.specs.Text.{value_spelled}
use Rattle.kd_fields.specs.Lists.{list_of}
use Rattle.kd_fields.specs.Values.{number_within}
use Rattle.kd_names.specs.Values.{sign_text}
use Rattle.kd_keys.specs.Boot.{field_given, kea_boot, own_boot, server_in}
use Rattle.kd_kea.specs.Class.{kea_class, own_class_name}
use Rattle.kd_keys.specs.Definitions.{kea_definition, kea_definitions, kea_known}
use Rattle.kd_keys.specs.HostClient.{host_bytes, kea_client}
use Rattle.kd_keys.specs.HostName.{host_name, host_options}
use Rattle.kd_keys.specs.Keys.{keys_are_read}
use Rattle.kd_kea.specs.Lifetimes.{own_lifetime, kea_keys, keys_given}
use Rattle.kd_keys.specs.Alone.{usable_definitions, right_definitions}
use Rattle.kd_notes.specs.Notes.{boot_in, boot_notes, joined_note, server_flags, above_by, all_subnet_notes, around_of, class_notes, data_notes, definition_note, definition_notes, host_notes, host_values, kea_address, kea_beside, kea_notes, kea_value, lists_by, option_notes, own_notes, pool_notes, relay_notes, root_notes, server_lists, server_notes, server_times, service_notes, subnet_lists, subnet_notes, subnet_own, subnet_values, all_times, outside_in, around_members, kea_inside, network_values, network_own, network_lists, network_notes, lifetime_notes, timer_notes, keys_below, order_notes, term_notes, class_lifetime_notes, keys_in_network}
use Rattle.kd_kea.specs.Network.{as_member, has_network_form, kea_common, kea_member, kea_network, kea_subnets}
use Rattle.kd_keys.specs.Options.{kea_code, kea_entry, kea_options, server_address}
use Rattle.kd_plain.specs.Plain.{first_span, spans_behind}
use Rattle.kd_keys.specs.Parts.{parts_of_all}
use Rattle.kd_kea.specs.Pool.{kea_pool, kea_range}
use Rattle.kd_keys.specs.Policy.{kea_policy}
use Rattle.kd_kea.specs.Reservation.{kea_reservation}
use Rattle.kd_kea.specs.Settings.{has_server_form, kea_dhcp4, kea_root, kea_settings_with}
use Rattle.kd_kea.specs.Subnet.{above_within, has_subnet_form, kea_subnet}
use Rattle.kd_kea.specs.Times.{kea_times}
use Rattle.kd_notes.specs.declared.notes.NoteKind.TheVariants.{Skipped, Unknown, Wrong}

-- a key that is skipped, and one that is not known
example_1 : kea_notes (codes "{\"Dhcp4\": {\"odd\": 1, \"lease-database\": {}}}") None ≡ Some ((codes "/Dhcp4/lease-database", Skipped) ∷ (codes "/Dhcp4/odd", Unknown) ∷ [])
unfolding serde_json_on_literals chars digits is_utf8 value_spelled sign_text number_within list_of keys_are_read has_server_form kea_policy server_in field_given kea_boot own_boot boot_in boot_notes server_flags kea_definition kea_definitions kea_known kea_code kea_entry kea_options server_address kea_class kea_pool host_name host_options host_bytes kea_client kea_reservation kea_subnet has_subnet_form as_member kea_member kea_common has_network_form kea_network kea_subnets kea_settings_with kea_dhcp4 kea_root kea_value own_notes data_notes option_notes definition_note definition_notes class_notes pool_notes host_values host_notes relay_notes outside_in around_members kea_inside network_values network_own network_lists network_notes service_notes server_times all_times kea_times keys_given kea_keys own_lifetime above_within lifetime_notes timer_notes keys_below order_notes term_notes class_lifetime_notes keys_in_network around_of above_by kea_address subnet_values subnet_own kea_beside right_definitions usable_definitions subnet_lists subnet_notes all_subnet_notes lists_by server_lists server_notes root_notes first_span spans_behind parts_of_all kea_range joined_note own_class_name
example_1 = refl

-- a usual value is not noted, another value is
example_2 : kea_notes (codes "{\"Dhcp4\": {\"authoritative\": false, \"echo-client-id\": false, \"valid-lifetime\": 0}}") None ≡ Some ((codes "/Dhcp4/echo-client-id", Unknown) ∷ (codes "/Dhcp4/valid-lifetime", Wrong) ∷ [])
unfolding serde_json_on_literals chars digits is_utf8 value_spelled sign_text number_within list_of keys_are_read has_server_form kea_policy server_in field_given kea_boot own_boot boot_in boot_notes server_flags kea_definition kea_definitions kea_known kea_code kea_entry kea_options server_address kea_class kea_pool host_name host_options host_bytes kea_client kea_reservation kea_subnet has_subnet_form as_member kea_member kea_common has_network_form kea_network kea_subnets kea_settings_with kea_dhcp4 kea_root kea_value own_notes data_notes option_notes definition_note definition_notes class_notes pool_notes host_values host_notes relay_notes outside_in around_members kea_inside network_values network_own network_lists network_notes service_notes server_times all_times kea_times keys_given kea_keys own_lifetime above_within lifetime_notes timer_notes keys_below order_notes term_notes class_lifetime_notes keys_in_network around_of above_by kea_address subnet_values subnet_own kea_beside right_definitions usable_definitions subnet_lists subnet_notes all_subnet_notes lists_by server_lists server_notes root_notes first_span spans_behind parts_of_all kea_range joined_note own_class_name
example_2 = refl

-- keys beside `Dhcp4`, in text with a comment and a last comma
example_3 : kea_notes (codes "{\"Dhcp4\": {}, \"Dhcp6\": {}, /* no names */ \"ddns-x\": 1,}") (Some 1) ≡ Some ((codes "/Dhcp6", Unknown) ∷ (codes "/ddns-x", Skipped) ∷ [])
unfolding serde_json_on_literals chars digits is_utf8 value_spelled sign_text number_within list_of keys_are_read has_server_form kea_policy server_in field_given kea_boot own_boot boot_in boot_notes server_flags kea_definition kea_definitions kea_known kea_code kea_entry kea_options server_address kea_class kea_pool host_name host_options host_bytes kea_client kea_reservation kea_subnet has_subnet_form as_member kea_member kea_common has_network_form kea_network kea_subnets kea_settings_with kea_dhcp4 kea_root kea_value own_notes data_notes option_notes definition_note definition_notes class_notes pool_notes host_values host_notes relay_notes outside_in around_members kea_inside network_values network_own network_lists network_notes service_notes server_times all_times kea_times keys_given kea_keys own_lifetime above_within lifetime_notes timer_notes keys_below order_notes term_notes class_lifetime_notes keys_in_network around_of above_by kea_address subnet_values subnet_own kea_beside right_definitions usable_definitions subnet_lists subnet_notes all_subnet_notes lists_by server_lists server_notes root_notes first_span spans_behind parts_of_all kea_range joined_note own_class_name
example_3 = refl

-- the items of lists, and what is in them
example_4 : kea_notes (codes "{\"Dhcp4\": {\"subnet4\": [{\"a\": 1}, {\"pools\": [{\"pool-id\": 1, \"option-data\": [{\"b\": 1}]}], \"relay\": {\"c\": 1}, \"reservations\": [{\"d\": 1}], \"option-data\": [{\"never-send\": true}]}]}}") None ≡ Some ((codes "/Dhcp4/subnet4/0/a", Unknown) ∷ (codes "/Dhcp4/subnet4/0/subnet", Wrong) ∷ (codes "/Dhcp4/subnet4/1/subnet", Wrong) ∷ (codes "/Dhcp4/subnet4/1/option-data/0/never-send", Unknown) ∷ (codes "/Dhcp4/subnet4/1/pools/0/pool-id", Skipped) ∷ (codes "/Dhcp4/subnet4/1/pools/0/pool", Wrong) ∷ (codes "/Dhcp4/subnet4/1/pools/0/option-data/0/b", Unknown) ∷ (codes "/Dhcp4/subnet4/1/reservations/0/d", Unknown) ∷ (codes "/Dhcp4/subnet4/1/relay/c", Unknown) ∷ [])
unfolding serde_json_on_literals chars digits is_utf8 value_spelled sign_text number_within list_of keys_are_read has_server_form kea_policy server_in field_given kea_boot own_boot boot_in boot_notes server_flags kea_definition kea_definitions kea_known kea_code kea_entry kea_options server_address kea_class kea_pool host_name host_options host_bytes kea_client kea_reservation kea_subnet has_subnet_form as_member kea_member kea_common has_network_form kea_network kea_subnets kea_settings_with kea_dhcp4 kea_root kea_value own_notes data_notes option_notes definition_note definition_notes class_notes pool_notes host_values host_notes relay_notes outside_in around_members kea_inside network_values network_own network_lists network_notes service_notes server_times all_times kea_times keys_given kea_keys own_lifetime above_within lifetime_notes timer_notes keys_below order_notes term_notes class_lifetime_notes keys_in_network around_of above_by kea_address subnet_values subnet_own kea_beside right_definitions usable_definitions subnet_lists subnet_notes all_subnet_notes lists_by server_lists server_notes root_notes first_span spans_behind parts_of_all kea_range joined_note own_class_name
example_4 = refl

-- a class comes after the options of the whole server
example_5 : kea_notes (codes "{\"Dhcp4\": {\"client-classes\": [{\"option-def\": [{\"a\": 1}], \"option-data\": [{\"comment\": 1}]}], \"option-data\": [{\"b\": 1}], \"option-def\": [{\"c\": 1}]}}") None ≡ Some ((codes "/Dhcp4/option-def/0/c", Unknown) ∷ (codes "/Dhcp4/option-data/0/b", Unknown) ∷ (codes "/Dhcp4/client-classes/0/name", Wrong) ∷ (codes "/Dhcp4/client-classes/0/option-def/0/a", Unknown) ∷ (codes "/Dhcp4/client-classes/0/option-data/0/comment", Skipped) ∷ (codes "/Dhcp4/client-classes/0/option-data/0", Wrong) ∷ [])
unfolding serde_json_on_literals chars digits is_utf8 value_spelled sign_text number_within list_of keys_are_read has_server_form kea_policy server_in field_given kea_boot own_boot boot_in boot_notes server_flags kea_definition kea_definitions kea_known kea_code kea_entry kea_options server_address kea_class kea_pool host_name host_options host_bytes kea_client kea_reservation kea_subnet has_subnet_form as_member kea_member kea_common has_network_form kea_network kea_subnets kea_settings_with kea_dhcp4 kea_root kea_value own_notes data_notes option_notes definition_note definition_notes class_notes pool_notes host_values host_notes relay_notes outside_in around_members kea_inside network_values network_own network_lists network_notes service_notes server_times all_times kea_times keys_given kea_keys own_lifetime above_within lifetime_notes timer_notes keys_below order_notes term_notes class_lifetime_notes keys_in_network around_of above_by kea_address subnet_values subnet_own kea_beside right_definitions usable_definitions subnet_lists subnet_notes all_subnet_notes lists_by server_lists server_notes root_notes first_span spans_behind parts_of_all kea_range joined_note own_class_name
example_5 = refl

-- a key with a quotation mark
example_6 : kea_notes (codes "{\"a\\\"\": 1}") None ≡ Some ((codes "/a\\\"", Unknown) ∷ [])
unfolding serde_json_on_literals chars digits is_utf8 value_spelled sign_text number_within list_of keys_are_read has_server_form kea_policy server_in field_given kea_boot own_boot boot_in boot_notes server_flags kea_definition kea_definitions kea_known kea_code kea_entry kea_options server_address kea_class kea_pool host_name host_options host_bytes kea_client kea_reservation kea_subnet has_subnet_form as_member kea_member kea_common has_network_form kea_network kea_subnets kea_settings_with kea_dhcp4 kea_root kea_value own_notes data_notes option_notes definition_note definition_notes class_notes pool_notes host_values host_notes relay_notes outside_in around_members kea_inside network_values network_own network_lists network_notes service_notes server_times all_times kea_times keys_given kea_keys own_lifetime above_within lifetime_notes timer_notes keys_below order_notes term_notes class_lifetime_notes keys_in_network around_of above_by kea_address subnet_values subnet_own kea_beside right_definitions usable_definitions subnet_lists subnet_notes all_subnet_notes lists_by server_lists server_notes root_notes first_span spans_behind parts_of_all kea_range joined_note own_class_name
example_6 = refl

-- values that are no objects and no lists are wrong
example_7 : kea_notes (codes "{\"Dhcp4\": {\"subnet4\": 1, \"option-data\": [2], \"client-classes\": {\"a\": 1}}}") None ≡ Some ((codes "/Dhcp4/option-data/0", Wrong) ∷ (codes "/Dhcp4/client-classes", Wrong) ∷ (codes "/Dhcp4/subnet4", Wrong) ∷ [])
unfolding serde_json_on_literals chars digits is_utf8 value_spelled sign_text number_within list_of keys_are_read has_server_form kea_policy server_in field_given kea_boot own_boot boot_in boot_notes server_flags kea_definition kea_definitions kea_known kea_code kea_entry kea_options server_address kea_class kea_pool host_name host_options host_bytes kea_client kea_reservation kea_subnet has_subnet_form as_member kea_member kea_common has_network_form kea_network kea_subnets kea_settings_with kea_dhcp4 kea_root kea_value own_notes data_notes option_notes definition_note definition_notes class_notes pool_notes host_values host_notes relay_notes outside_in around_members kea_inside network_values network_own network_lists network_notes service_notes server_times all_times kea_times keys_given kea_keys own_lifetime above_within lifetime_notes timer_notes keys_below order_notes term_notes class_lifetime_notes keys_in_network around_of above_by kea_address subnet_values subnet_own kea_beside right_definitions usable_definitions subnet_lists subnet_notes all_subnet_notes lists_by server_lists server_notes root_notes first_span spans_behind parts_of_all kea_range joined_note own_class_name
example_7 = refl

-- the value of a whole text is no object
example_8 : kea_notes (codes "[{\"a\": 1}]") None ≡ Some (([], Wrong) ∷ [])
unfolding serde_json_on_literals chars digits is_utf8 value_spelled sign_text number_within list_of keys_are_read has_server_form kea_policy server_in field_given kea_boot own_boot boot_in boot_notes server_flags kea_definition kea_definitions kea_known kea_code kea_entry kea_options server_address kea_class kea_pool host_name host_options host_bytes kea_client kea_reservation kea_subnet has_subnet_form as_member kea_member kea_common has_network_form kea_network kea_subnets kea_settings_with kea_dhcp4 kea_root kea_value own_notes data_notes option_notes definition_note definition_notes class_notes pool_notes host_values host_notes relay_notes outside_in around_members kea_inside network_values network_own network_lists network_notes service_notes server_times all_times kea_times keys_given kea_keys own_lifetime above_within lifetime_notes timer_notes keys_below order_notes term_notes class_lifetime_notes keys_in_network around_of above_by kea_address subnet_values subnet_own kea_beside right_definitions usable_definitions subnet_lists subnet_notes all_subnet_notes lists_by server_lists server_notes root_notes first_span spans_behind parts_of_all kea_range joined_note own_class_name
example_8 = refl

-- no JSON
example_9 : kea_notes (codes "{\"Dhcp4\": ") None ≡ None
unfolding serde_json_on_literals chars digits is_utf8 value_spelled sign_text number_within list_of keys_are_read has_server_form kea_policy server_in field_given kea_boot own_boot boot_in boot_notes server_flags kea_definition kea_definitions kea_known kea_code kea_entry kea_options server_address kea_class kea_pool host_name host_options host_bytes kea_client kea_reservation kea_subnet has_subnet_form as_member kea_member kea_common has_network_form kea_network kea_subnets kea_settings_with kea_dhcp4 kea_root kea_value own_notes data_notes option_notes definition_note definition_notes class_notes pool_notes host_values host_notes relay_notes outside_in around_members kea_inside network_values network_own network_lists network_notes service_notes server_times all_times kea_times keys_given kea_keys own_lifetime above_within lifetime_notes timer_notes keys_below order_notes term_notes class_lifetime_notes keys_in_network around_of above_by kea_address subnet_values subnet_own kea_beside right_definitions usable_definitions subnet_lists subnet_notes all_subnet_notes lists_by server_lists server_notes root_notes first_span spans_behind parts_of_all kea_range joined_note own_class_name
example_9 = refl

-- keys that turn something on, and keys that turn nothing on
example_10 : kea_notes (codes "{\"Dhcp4\": {\"config-control\": {}, \"dhcp-ddns\": {\"enable-updates\": true}, \"max-valid-lifetime\": 7200, \"min-valid-lifetime\": 7201}}") None ≡ Some ((codes "/Dhcp4/dhcp-ddns/enable-updates", Unknown) ∷ (codes "/Dhcp4/config-control", Skipped) ∷ (codes "/Dhcp4/min-valid-lifetime", Wrong) ∷ [])
unfolding serde_json_on_literals chars digits is_utf8 value_spelled sign_text number_within list_of keys_are_read has_server_form kea_policy server_in field_given kea_boot own_boot boot_in boot_notes server_flags kea_definition kea_definitions kea_known kea_code kea_entry kea_options server_address kea_class kea_pool host_name host_options host_bytes kea_client kea_reservation kea_subnet has_subnet_form as_member kea_member kea_common has_network_form kea_network kea_subnets kea_settings_with kea_dhcp4 kea_root kea_value own_notes data_notes option_notes definition_note definition_notes class_notes pool_notes host_values host_notes relay_notes outside_in around_members kea_inside network_values network_own network_lists network_notes service_notes server_times all_times kea_times keys_given kea_keys own_lifetime above_within lifetime_notes timer_notes keys_below order_notes term_notes class_lifetime_notes keys_in_network around_of above_by kea_address subnet_values subnet_own kea_beside right_definitions usable_definitions subnet_lists subnet_notes all_subnet_notes lists_by server_lists server_notes root_notes first_span spans_behind parts_of_all kea_range joined_note own_class_name
example_10 = refl

-- a network, its members and its relay
example_11 : kea_notes (codes "{\"Dhcp4\": {\"shared-networks\": [{\"a\": 1, \"client-class\": 1, \"subnet4\": [{\"b\": 1}, {\"id\": 0}], \"relay\": {\"c\": 1}}, 2]}}") None ≡ Some ((codes "/Dhcp4/shared-networks/0/a", Unknown) ∷ (codes "/Dhcp4/shared-networks/0/name", Wrong) ∷ (codes "/Dhcp4/shared-networks/0/client-class", Wrong) ∷ (codes "/Dhcp4/shared-networks/0/subnet4/0/b", Unknown) ∷ (codes "/Dhcp4/shared-networks/0/subnet4/0/subnet", Wrong) ∷ (codes "/Dhcp4/shared-networks/0/subnet4/1/id", Wrong) ∷ (codes "/Dhcp4/shared-networks/0/subnet4/1/subnet", Wrong) ∷ (codes "/Dhcp4/shared-networks/0/relay/c", Unknown) ∷ (codes "/Dhcp4/shared-networks/1", Wrong) ∷ [])
unfolding serde_json_on_literals chars digits is_utf8 value_spelled sign_text number_within list_of keys_are_read has_server_form kea_policy server_in field_given kea_boot own_boot boot_in boot_notes server_flags kea_definition kea_definitions kea_known kea_code kea_entry kea_options server_address kea_class kea_pool host_name host_options host_bytes kea_client kea_reservation kea_subnet has_subnet_form as_member kea_member kea_common has_network_form kea_network kea_subnets kea_settings_with kea_dhcp4 kea_root kea_value own_notes data_notes option_notes definition_note definition_notes class_notes pool_notes host_values host_notes relay_notes outside_in around_members kea_inside network_values network_own network_lists network_notes service_notes server_times all_times kea_times keys_given kea_keys own_lifetime above_within lifetime_notes timer_notes keys_below order_notes term_notes class_lifetime_notes keys_in_network around_of above_by kea_address subnet_values subnet_own kea_beside right_definitions usable_definitions subnet_lists subnet_notes all_subnet_notes lists_by server_lists server_notes root_notes first_span spans_behind parts_of_all kea_range joined_note own_class_name
example_11 = refl
