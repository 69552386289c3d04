-- Worked examples: texts and their values, as `migrate/kea/options.py` has them (routes and what
-- it does not read by hand, from RFC 3442). Then fields of options and their values, by hand.
use Rattle.std.proofs.Common.{◌≡◌, true, false, [], ◌∷◌, Some, None, refl}
use Rattle.std.specs.Prelude.{codes}
use Rattle.std.specs.Fmt.{digits}
use Rattle.hex.specs.Hex.{decode_pairs}
use Rattle.kd_expr.specs.Lexing.{address_read, part_at_front, part_after_dot}
use Rattle.kd_names.specs.declared.kind.Kind.TheVariants.{Address, Addresses, Pairs, Flag, Byte, Short, Long, Signed, Shorts, Codes, MessageType, Text, Name, Names, Routes, Bytes}
use Rattle.kd_names.specs.Values.{message_type_word}
use Rattle.kd_values.specs.Numbers.{based_number}
use Rattle.kd_values.specs.Signs.{flag_spelled, message_type_spelled}
use Rattle.kd_values.specs.Digits.{hexadecimal_spelled}
use Rattle.kd_values.specs.Names.{route_spelled}
use Rattle.kd_values.specs.Spelled.{data_spelled}
use Rattle.kd_values.specs.declared.field_type.FieldType.TheVariants as fields
use Rattle.kd_values.specs.Fields.{fields_spelled}

example_1 : data_spelled Addresses (codes "192.0.2.1, 192.0.2.2") ≡ (Some (192 ∷ 0 ∷ 2 ∷ 1 ∷ 192 ∷ 0 ∷ 2 ∷ 2 ∷ []))
unfolding address_read part_at_front part_after_dot digits decode_pairs based_number flag_spelled message_type_spelled message_type_word hexadecimal_spelled route_spelled
example_1 = refl

example_2 : data_spelled Addresses (codes " 192.0.2.1 ") ≡ (Some (192 ∷ 0 ∷ 2 ∷ 1 ∷ []))
unfolding address_read part_at_front part_after_dot digits decode_pairs based_number flag_spelled message_type_spelled message_type_word hexadecimal_spelled route_spelled
example_2 = refl

example_3 : data_spelled Addresses (codes "192.0.2.1,,192.0.2.2") ≡ None
unfolding address_read part_at_front part_after_dot digits decode_pairs based_number flag_spelled message_type_spelled message_type_word hexadecimal_spelled route_spelled
example_3 = refl

example_4 : data_spelled Addresses ([]) ≡ None
unfolding address_read part_at_front part_after_dot digits decode_pairs based_number flag_spelled message_type_spelled message_type_word hexadecimal_spelled route_spelled
example_4 = refl

example_5 : data_spelled Address (codes "255.255.255.0") ≡ (Some (255 ∷ 255 ∷ 255 ∷ 0 ∷ []))
unfolding address_read part_at_front part_after_dot digits decode_pairs based_number flag_spelled message_type_spelled message_type_word hexadecimal_spelled route_spelled
example_5 = refl

example_6 : data_spelled Address (codes "255.255.255.0, 1.2.3.4") ≡ None
unfolding address_read part_at_front part_after_dot digits decode_pairs based_number flag_spelled message_type_spelled message_type_word hexadecimal_spelled route_spelled
example_6 = refl

example_7 : data_spelled Pairs (codes "192.0.2.0, 255.255.255.0") ≡ (Some (192 ∷ 0 ∷ 2 ∷ 0 ∷ 255 ∷ 255 ∷ 255 ∷ 0 ∷ []))
unfolding address_read part_at_front part_after_dot digits decode_pairs based_number flag_spelled message_type_spelled message_type_word hexadecimal_spelled route_spelled
example_7 = refl

example_8 : data_spelled Flag (codes "TRUE") ≡ (Some (1 ∷ []))
unfolding address_read part_at_front part_after_dot digits decode_pairs based_number flag_spelled message_type_spelled message_type_word hexadecimal_spelled route_spelled
example_8 = refl

example_9 : data_spelled Flag (codes "0") ≡ (Some (0 ∷ []))
unfolding address_read part_at_front part_after_dot digits decode_pairs based_number flag_spelled message_type_spelled message_type_word hexadecimal_spelled route_spelled
example_9 = refl

example_10 : data_spelled Flag (codes "yes") ≡ None
unfolding address_read part_at_front part_after_dot digits decode_pairs based_number flag_spelled message_type_spelled message_type_word hexadecimal_spelled route_spelled
example_10 = refl

example_11 : data_spelled Byte (codes "64") ≡ (Some (64 ∷ []))
unfolding address_read part_at_front part_after_dot digits decode_pairs based_number flag_spelled message_type_spelled message_type_word hexadecimal_spelled route_spelled
example_11 = refl

example_12 : data_spelled Byte (codes "0x40") ≡ (Some (64 ∷ []))
unfolding address_read part_at_front part_after_dot digits decode_pairs based_number flag_spelled message_type_spelled message_type_word hexadecimal_spelled route_spelled
example_12 = refl

example_13 : data_spelled Byte (codes "256") ≡ None
unfolding address_read part_at_front part_after_dot digits decode_pairs based_number flag_spelled message_type_spelled message_type_word hexadecimal_spelled route_spelled
example_13 = refl

example_14 : data_spelled Byte ([]) ≡ None
unfolding address_read part_at_front part_after_dot digits decode_pairs based_number flag_spelled message_type_spelled message_type_word hexadecimal_spelled route_spelled
example_14 = refl

example_15 : data_spelled Short (codes "1500") ≡ (Some (5 ∷ 220 ∷ []))
unfolding address_read part_at_front part_after_dot digits decode_pairs based_number flag_spelled message_type_spelled message_type_word hexadecimal_spelled route_spelled
example_15 = refl

example_16 : data_spelled Short (codes "65536") ≡ None
unfolding address_read part_at_front part_after_dot digits decode_pairs based_number flag_spelled message_type_spelled message_type_word hexadecimal_spelled route_spelled
example_16 = refl

example_17 : data_spelled Long (codes "4294967295") ≡ (Some (255 ∷ 255 ∷ 255 ∷ 255 ∷ []))
unfolding address_read part_at_front part_after_dot digits decode_pairs based_number flag_spelled message_type_spelled message_type_word hexadecimal_spelled route_spelled
example_17 = refl

example_18 : data_spelled Long (codes "4294967296") ≡ None
unfolding address_read part_at_front part_after_dot digits decode_pairs based_number flag_spelled message_type_spelled message_type_word hexadecimal_spelled route_spelled
example_18 = refl

example_19 : data_spelled Signed (codes "-3600") ≡ (Some (255 ∷ 255 ∷ 241 ∷ 240 ∷ []))
unfolding address_read part_at_front part_after_dot digits decode_pairs based_number flag_spelled message_type_spelled message_type_word hexadecimal_spelled route_spelled
example_19 = refl

example_20 : data_spelled Signed (codes "2147483647") ≡ (Some (127 ∷ 255 ∷ 255 ∷ 255 ∷ []))
unfolding address_read part_at_front part_after_dot digits decode_pairs based_number flag_spelled message_type_spelled message_type_word hexadecimal_spelled route_spelled
example_20 = refl

example_21 : data_spelled Signed (codes "2147483648") ≡ None
unfolding address_read part_at_front part_after_dot digits decode_pairs based_number flag_spelled message_type_spelled message_type_word hexadecimal_spelled route_spelled
example_21 = refl

example_22 : data_spelled Signed (codes "-2147483648") ≡ (Some (128 ∷ 0 ∷ 0 ∷ 0 ∷ []))
unfolding address_read part_at_front part_after_dot digits decode_pairs based_number flag_spelled message_type_spelled message_type_word hexadecimal_spelled route_spelled
example_22 = refl

example_23 : data_spelled Signed (codes "-2147483649") ≡ None
unfolding address_read part_at_front part_after_dot digits decode_pairs based_number flag_spelled message_type_spelled message_type_word hexadecimal_spelled route_spelled
example_23 = refl

example_24 : data_spelled Shorts (codes "68, 296,0x1fc") ≡ (Some (0 ∷ 68 ∷ 1 ∷ 40 ∷ 1 ∷ 252 ∷ []))
unfolding address_read part_at_front part_after_dot digits decode_pairs based_number flag_spelled message_type_spelled message_type_word hexadecimal_spelled route_spelled
example_24 = refl

example_25 : data_spelled Codes (codes "1,3, 255") ≡ (Some (1 ∷ 3 ∷ 255 ∷ []))
unfolding address_read part_at_front part_after_dot digits decode_pairs based_number flag_spelled message_type_spelled message_type_word hexadecimal_spelled route_spelled
example_25 = refl

example_26 : data_spelled Text (codes " a\\, b ") ≡ (Some (97 ∷ 44 ∷ 32 ∷ 98 ∷ []))
unfolding address_read part_at_front part_after_dot digits decode_pairs based_number flag_spelled message_type_spelled message_type_word hexadecimal_spelled route_spelled
example_26 = refl

example_27 : data_spelled Text (codes "a\\\\,b") ≡ (Some (97 ∷ 92 ∷ 44 ∷ 98 ∷ []))
unfolding address_read part_at_front part_after_dot digits decode_pairs based_number flag_spelled message_type_spelled message_type_word hexadecimal_spelled route_spelled
example_27 = refl

example_28 : data_spelled Text (codes "a,b") ≡ None
unfolding address_read part_at_front part_after_dot digits decode_pairs based_number flag_spelled message_type_spelled message_type_word hexadecimal_spelled route_spelled
example_28 = refl

example_29 : data_spelled Text (codes "x") ≡ (Some (120 ∷ []))
unfolding address_read part_at_front part_after_dot digits decode_pairs based_number flag_spelled message_type_spelled message_type_word hexadecimal_spelled route_spelled
example_29 = refl

example_30 : data_spelled Name (codes "example.org") ≡ (Some (7 ∷ 101 ∷ 120 ∷ 97 ∷ 109 ∷ 112 ∷ 108 ∷ 101 ∷ 3 ∷ 111 ∷ 114 ∷ 103 ∷ 0 ∷ []))
unfolding address_read part_at_front part_after_dot digits decode_pairs based_number flag_spelled message_type_spelled message_type_word hexadecimal_spelled route_spelled
example_30 = refl

example_31 : data_spelled Name (codes "example.org.") ≡ (Some (7 ∷ 101 ∷ 120 ∷ 97 ∷ 109 ∷ 112 ∷ 108 ∷ 101 ∷ 3 ∷ 111 ∷ 114 ∷ 103 ∷ 0 ∷ []))
unfolding address_read part_at_front part_after_dot digits decode_pairs based_number flag_spelled message_type_spelled message_type_word hexadecimal_spelled route_spelled
example_31 = refl

example_32 : data_spelled Name (codes "a..b") ≡ None
unfolding address_read part_at_front part_after_dot digits decode_pairs based_number flag_spelled message_type_spelled message_type_word hexadecimal_spelled route_spelled
example_32 = refl

example_33 : data_spelled Name (codes ".") ≡ None
unfolding address_read part_at_front part_after_dot digits decode_pairs based_number flag_spelled message_type_spelled message_type_word hexadecimal_spelled route_spelled
example_33 = refl

example_34 : data_spelled Names (codes "eng.example.org, example.org.") ≡ (Some (3 ∷ 101 ∷ 110 ∷ 103 ∷ 7 ∷ 101 ∷ 120 ∷ 97 ∷ 109 ∷ 112 ∷ 108 ∷ 101 ∷ 3 ∷ 111 ∷ 114 ∷ 103 ∷ 0 ∷ 7 ∷ 101 ∷ 120 ∷ 97 ∷ 109 ∷ 112 ∷ 108 ∷ 101 ∷ 3 ∷ 111 ∷ 114 ∷ 103 ∷ 0 ∷ []))
unfolding address_read part_at_front part_after_dot digits decode_pairs based_number flag_spelled message_type_spelled message_type_word hexadecimal_spelled route_spelled
example_34 = refl

example_35 : data_spelled Names (codes "xxxxxxxxxxxxxxxxxxxxxxxxxxxxxxxxxxxxxxxxxxxxxxxxxxxxxxxxxxxxxxx.y") ≡ (Some (63 ∷ 120 ∷ 120 ∷ 120 ∷ 120 ∷ 120 ∷ 120 ∷ 120 ∷ 120 ∷ 120 ∷ 120 ∷ 120 ∷ 120 ∷ 120 ∷ 120 ∷ 120 ∷ 120 ∷ 120 ∷ 120 ∷ 120 ∷ 120 ∷ 120 ∷ 120 ∷ 120 ∷ 120 ∷ 120 ∷ 120 ∷ 120 ∷ 120 ∷ 120 ∷ 120 ∷ 120 ∷ 120 ∷ 120 ∷ 120 ∷ 120 ∷ 120 ∷ 120 ∷ 120 ∷ 120 ∷ 120 ∷ 120 ∷ 120 ∷ 120 ∷ 120 ∷ 120 ∷ 120 ∷ 120 ∷ 120 ∷ 120 ∷ 120 ∷ 120 ∷ 120 ∷ 120 ∷ 120 ∷ 120 ∷ 120 ∷ 120 ∷ 120 ∷ 120 ∷ 120 ∷ 120 ∷ 120 ∷ 120 ∷ 1 ∷ 121 ∷ 0 ∷ []))
unfolding address_read part_at_front part_after_dot digits decode_pairs based_number flag_spelled message_type_spelled message_type_word hexadecimal_spelled route_spelled
example_35 = refl

example_36 : data_spelled Names (codes "xxxxxxxxxxxxxxxxxxxxxxxxxxxxxxxxxxxxxxxxxxxxxxxxxxxxxxxxxxxxxxxx") ≡ None
unfolding address_read part_at_front part_after_dot digits decode_pairs based_number flag_spelled message_type_spelled message_type_word hexadecimal_spelled route_spelled
example_36 = refl

example_37 : data_spelled Bytes (codes "0x01:02 0a") ≡ (Some (1 ∷ 2 ∷ 10 ∷ []))
unfolding address_read part_at_front part_after_dot digits decode_pairs based_number flag_spelled message_type_spelled message_type_word hexadecimal_spelled route_spelled
example_37 = refl

example_38 : data_spelled MessageType (codes "5") ≡ (Some (5 ∷ []))
unfolding address_read part_at_front part_after_dot digits decode_pairs based_number flag_spelled message_type_spelled message_type_word hexadecimal_spelled route_spelled
example_38 = refl

example_39 : data_spelled Routes (codes "10.0.0.0/8 - 192.0.2.1, 198.51.100.0/24 - 192.0.2.2") ≡ (Some (8 ∷ 10 ∷ 192 ∷ 0 ∷ 2 ∷ 1 ∷ 24 ∷ 198 ∷ 51 ∷ 100 ∷ 192 ∷ 0 ∷ 2 ∷ 2 ∷ []))
unfolding address_read part_at_front part_after_dot digits decode_pairs based_number flag_spelled message_type_spelled message_type_word hexadecimal_spelled route_spelled
example_39 = refl

example_40 : data_spelled Routes (codes "0.0.0.0/0-192.0.2.1") ≡ (Some (0 ∷ 192 ∷ 0 ∷ 2 ∷ 1 ∷ []))
unfolding address_read part_at_front part_after_dot digits decode_pairs based_number flag_spelled message_type_spelled message_type_word hexadecimal_spelled route_spelled
example_40 = refl

example_41 : data_spelled Routes (codes "10.229.0.128/25 - 10.229.0.1") ≡ (Some (25 ∷ 10 ∷ 229 ∷ 0 ∷ 128 ∷ 10 ∷ 229 ∷ 0 ∷ 1 ∷ []))
unfolding address_read part_at_front part_after_dot digits decode_pairs based_number flag_spelled message_type_spelled message_type_word hexadecimal_spelled route_spelled
example_41 = refl

example_42 : data_spelled Routes (codes "10.1.2.3/8 - 192.0.2.1") ≡ None
unfolding address_read part_at_front part_after_dot digits decode_pairs based_number flag_spelled message_type_spelled message_type_word hexadecimal_spelled route_spelled
example_42 = refl

example_43 : data_spelled Routes (codes "10.0.0.0/33 - 192.0.2.1") ≡ None
unfolding address_read part_at_front part_after_dot digits decode_pairs based_number flag_spelled message_type_spelled message_type_word hexadecimal_spelled route_spelled
example_43 = refl

example_44 : data_spelled MessageType (codes "1 DISCOVER") ≡ (Some (1 ∷ []))
unfolding address_read part_at_front part_after_dot digits decode_pairs based_number flag_spelled message_type_spelled message_type_word hexadecimal_spelled route_spelled
example_44 = refl

example_45 : data_spelled MessageType (codes "9") ≡ None
unfolding address_read part_at_front part_after_dot digits decode_pairs based_number flag_spelled message_type_spelled message_type_word hexadecimal_spelled route_spelled
example_45 = refl

example_46 : data_spelled MessageType (codes "2 DISCOVER") ≡ None
unfolding address_read part_at_front part_after_dot digits decode_pairs based_number flag_spelled message_type_spelled message_type_word hexadecimal_spelled route_spelled
example_46 = refl

example_47 : data_spelled Pairs (codes "192.0.2.0") ≡ None
unfolding address_read part_at_front part_after_dot digits decode_pairs based_number flag_spelled message_type_spelled message_type_word hexadecimal_spelled route_spelled
example_47 = refl

example_48 : data_spelled Bytes ([]) ≡ None
unfolding address_read part_at_front part_after_dot digits decode_pairs based_number flag_spelled message_type_spelled message_type_word hexadecimal_spelled route_spelled
example_48 = refl

example_49 : fields_spelled (fields.Uint8 ∷ fields.Address ∷ fields.Text ∷ []) false (codes "1, 192.0.2.1, a\\,b") ≡ (Some (1 ∷ 192 ∷ 0 ∷ 2 ∷ 1 ∷ 97 ∷ 44 ∷ 98 ∷ []))
unfolding address_read part_at_front part_after_dot digits decode_pairs based_number flag_spelled message_type_spelled message_type_word hexadecimal_spelled route_spelled
example_49 = refl

example_50 : fields_spelled (fields.Uint16 ∷ []) true (codes "1,2,0x03") ≡ (Some (0 ∷ 1 ∷ 0 ∷ 2 ∷ 0 ∷ 3 ∷ []))
unfolding address_read part_at_front part_after_dot digits decode_pairs based_number flag_spelled message_type_spelled message_type_word hexadecimal_spelled route_spelled
example_50 = refl

example_51 : fields_spelled (fields.Uint16 ∷ []) false (codes "1,2") ≡ None
unfolding address_read part_at_front part_after_dot digits decode_pairs based_number flag_spelled message_type_spelled message_type_word hexadecimal_spelled route_spelled
example_51 = refl

example_52 : fields_spelled (fields.Int8 ∷ []) false (codes "-1") ≡ (Some (255 ∷ []))
unfolding address_read part_at_front part_after_dot digits decode_pairs based_number flag_spelled message_type_spelled message_type_word hexadecimal_spelled route_spelled
example_52 = refl

example_53 : fields_spelled (fields.Int8 ∷ []) false (codes "-128") ≡ (Some (128 ∷ []))
unfolding address_read part_at_front part_after_dot digits decode_pairs based_number flag_spelled message_type_spelled message_type_word hexadecimal_spelled route_spelled
example_53 = refl

example_54 : fields_spelled (fields.Int8 ∷ []) false (codes "-129") ≡ None
unfolding address_read part_at_front part_after_dot digits decode_pairs based_number flag_spelled message_type_spelled message_type_word hexadecimal_spelled route_spelled
example_54 = refl

example_55 : fields_spelled (fields.Int8 ∷ []) false (codes "127") ≡ (Some (127 ∷ []))
unfolding address_read part_at_front part_after_dot digits decode_pairs based_number flag_spelled message_type_spelled message_type_word hexadecimal_spelled route_spelled
example_55 = refl

example_56 : fields_spelled (fields.Int8 ∷ []) false (codes "128") ≡ None
unfolding address_read part_at_front part_after_dot digits decode_pairs based_number flag_spelled message_type_spelled message_type_word hexadecimal_spelled route_spelled
example_56 = refl

example_57 : fields_spelled (fields.Int16 ∷ []) false (codes "-2") ≡ (Some (255 ∷ 254 ∷ []))
unfolding address_read part_at_front part_after_dot digits decode_pairs based_number flag_spelled message_type_spelled message_type_word hexadecimal_spelled route_spelled
example_57 = refl

example_58 : fields_spelled (fields.Int16 ∷ []) false (codes "32767") ≡ (Some (127 ∷ 255 ∷ []))
unfolding address_read part_at_front part_after_dot digits decode_pairs based_number flag_spelled message_type_spelled message_type_word hexadecimal_spelled route_spelled
example_58 = refl

example_59 : fields_spelled (fields.Int16 ∷ []) false (codes "32768") ≡ None
unfolding address_read part_at_front part_after_dot digits decode_pairs based_number flag_spelled message_type_spelled message_type_word hexadecimal_spelled route_spelled
example_59 = refl

example_60 : fields_spelled (fields.Int16 ∷ []) false (codes "-32769") ≡ None
unfolding address_read part_at_front part_after_dot digits decode_pairs based_number flag_spelled message_type_spelled message_type_word hexadecimal_spelled route_spelled
example_60 = refl

example_61 : fields_spelled (fields.Int32 ∷ []) false (codes "-3600") ≡ (Some (255 ∷ 255 ∷ 241 ∷ 240 ∷ []))
unfolding address_read part_at_front part_after_dot digits decode_pairs based_number flag_spelled message_type_spelled message_type_word hexadecimal_spelled route_spelled
example_61 = refl

example_62 : fields_spelled (fields.Uint32 ∷ []) false (codes "258") ≡ (Some (0 ∷ 0 ∷ 1 ∷ 2 ∷ []))
unfolding address_read part_at_front part_after_dot digits decode_pairs based_number flag_spelled message_type_spelled message_type_word hexadecimal_spelled route_spelled
example_62 = refl

example_63 : fields_spelled (fields.Tuple ∷ []) false (codes "abc") ≡ (Some (3 ∷ 97 ∷ 98 ∷ 99 ∷ []))
unfolding address_read part_at_front part_after_dot digits decode_pairs based_number flag_spelled message_type_spelled message_type_word hexadecimal_spelled route_spelled
example_63 = refl

example_64 : fields_spelled (fields.Tuple ∷ fields.Tuple ∷ []) false (codes "a\\, b , c") ≡ (Some (4 ∷ 97 ∷ 44 ∷ 32 ∷ 98 ∷ 1 ∷ 99 ∷ []))
unfolding address_read part_at_front part_after_dot digits decode_pairs based_number flag_spelled message_type_spelled message_type_word hexadecimal_spelled route_spelled
example_64 = refl

example_65 : fields_spelled (fields.Tuple ∷ []) false (codes "xxxxxxxxxxxxxxxxxxxxxxxxxxxxxxxxxxxxxxxxxxxxxxxxxxxxxxxxxxxxxxxxxxxxxxxxxxxxxxxxxxxxxxxxxxxxxxxxxxxxxxxxxxxxxxxxxxxxxxxxxxxxxxxxxxxxxxxxxxxxxxxxxxxxxxxxxxxxxxxxxxxxxxxxxxxxxxxxxxxxxxxxxxxxxxxxxxxxxxxxxxxxxxxxxxxxxxxxxxxxxxxxxxxxxxxxxxxxxxxxxxxxxxxxxxxxxxxx") ≡ None
unfolding address_read part_at_front part_after_dot digits decode_pairs based_number flag_spelled message_type_spelled message_type_word hexadecimal_spelled route_spelled
example_65 = refl

example_66 : fields_spelled [] false [] ≡ (Some [])
unfolding address_read part_at_front part_after_dot digits decode_pairs based_number flag_spelled message_type_spelled message_type_word hexadecimal_spelled route_spelled
example_66 = refl

example_67 : fields_spelled [] false (codes "1") ≡ None
unfolding address_read part_at_front part_after_dot digits decode_pairs based_number flag_spelled message_type_spelled message_type_word hexadecimal_spelled route_spelled
example_67 = refl

example_68 : fields_spelled (fields.Uint8 ∷ fields.Uint16 ∷ []) false (codes "1") ≡ None
unfolding address_read part_at_front part_after_dot digits decode_pairs based_number flag_spelled message_type_spelled message_type_word hexadecimal_spelled route_spelled
example_68 = refl

example_69 : fields_spelled (fields.Uint8 ∷ fields.Uint16 ∷ []) false (codes "1,2") ≡ (Some (1 ∷ 0 ∷ 2 ∷ []))
unfolding address_read part_at_front part_after_dot digits decode_pairs based_number flag_spelled message_type_spelled message_type_word hexadecimal_spelled route_spelled
example_69 = refl

example_70 : fields_spelled (fields.Uint8 ∷ fields.Uint16 ∷ []) false (codes "1,2,3") ≡ None
unfolding address_read part_at_front part_after_dot digits decode_pairs based_number flag_spelled message_type_spelled message_type_word hexadecimal_spelled route_spelled
example_70 = refl

example_71 : fields_spelled (fields.Uint8 ∷ fields.Uint16 ∷ []) true (codes "1,2,3") ≡ (Some (1 ∷ 0 ∷ 2 ∷ 0 ∷ 3 ∷ []))
unfolding address_read part_at_front part_after_dot digits decode_pairs based_number flag_spelled message_type_spelled message_type_word hexadecimal_spelled route_spelled
example_71 = refl

example_72 : fields_spelled (fields.Uint8 ∷ fields.Uint16 ∷ []) true (codes "1") ≡ None
unfolding address_read part_at_front part_after_dot digits decode_pairs based_number flag_spelled message_type_spelled message_type_word hexadecimal_spelled route_spelled
example_72 = refl

example_73 : fields_spelled (fields.Uint8 ∷ []) true (codes "1,,2") ≡ None
unfolding address_read part_at_front part_after_dot digits decode_pairs based_number flag_spelled message_type_spelled message_type_word hexadecimal_spelled route_spelled
example_73 = refl

example_74 : fields_spelled (fields.Uint8 ∷ []) true (codes "1,") ≡ None
unfolding address_read part_at_front part_after_dot digits decode_pairs based_number flag_spelled message_type_spelled message_type_word hexadecimal_spelled route_spelled
example_74 = refl

example_75 : fields_spelled (fields.Uint8 ∷ fields.Address ∷ []) true (codes "7, 192.0.2.1, 192.0.2.2") ≡ (Some (7 ∷ 192 ∷ 0 ∷ 2 ∷ 1 ∷ 192 ∷ 0 ∷ 2 ∷ 2 ∷ []))
unfolding address_read part_at_front part_after_dot digits decode_pairs based_number flag_spelled message_type_spelled message_type_word hexadecimal_spelled route_spelled
example_75 = refl

example_76 : fields_spelled (fields.Uint8 ∷ fields.Address ∷ []) true (codes "7, 192.0.2.1, 8") ≡ None
unfolding address_read part_at_front part_after_dot digits decode_pairs based_number flag_spelled message_type_spelled message_type_word hexadecimal_spelled route_spelled
example_76 = refl

example_77 : fields_spelled (fields.Text ∷ []) true (codes "a,b") ≡ (Some (97 ∷ 98 ∷ []))
unfolding address_read part_at_front part_after_dot digits decode_pairs based_number flag_spelled message_type_spelled message_type_word hexadecimal_spelled route_spelled
example_77 = refl

example_78 : fields_spelled (fields.Text ∷ []) false (codes "a,b") ≡ None
unfolding address_read part_at_front part_after_dot digits decode_pairs based_number flag_spelled message_type_spelled message_type_word hexadecimal_spelled route_spelled
example_78 = refl

example_79 : fields_spelled (fields.Text ∷ fields.Flag ∷ []) false (codes "a\\\\,b, true") ≡ (Some (97 ∷ 92 ∷ 44 ∷ 98 ∷ 1 ∷ []))
unfolding address_read part_at_front part_after_dot digits decode_pairs based_number flag_spelled message_type_spelled message_type_word hexadecimal_spelled route_spelled
example_79 = refl

example_80 : fields_spelled (fields.Flag ∷ fields.Name ∷ []) false (codes "false, example.org") ≡ (Some (0 ∷ 7 ∷ 101 ∷ 120 ∷ 97 ∷ 109 ∷ 112 ∷ 108 ∷ 101 ∷ 3 ∷ 111 ∷ 114 ∷ 103 ∷ 0 ∷ []))
unfolding address_read part_at_front part_after_dot digits decode_pairs based_number flag_spelled message_type_spelled message_type_word hexadecimal_spelled route_spelled
example_80 = refl

example_81 : fields_spelled (fields.Bytes ∷ fields.Uint8 ∷ []) false (codes "0x01:02 0a, 3") ≡ (Some (1 ∷ 2 ∷ 10 ∷ 3 ∷ []))
unfolding address_read part_at_front part_after_dot digits decode_pairs based_number flag_spelled message_type_spelled message_type_word hexadecimal_spelled route_spelled
example_81 = refl

example_82 : fields_spelled (fields.Uint8 ∷ []) false (codes "+7") ≡ (Some (7 ∷ []))
unfolding address_read part_at_front part_after_dot digits decode_pairs based_number flag_spelled message_type_spelled message_type_word hexadecimal_spelled route_spelled
example_82 = refl

example_83 : fields_spelled (fields.Uint8 ∷ []) false (codes "+0x7") ≡ (Some (7 ∷ []))
unfolding address_read part_at_front part_after_dot digits decode_pairs based_number flag_spelled message_type_spelled message_type_word hexadecimal_spelled route_spelled
example_83 = refl

example_84 : fields_spelled (fields.Uint8 ∷ []) false (codes "++7") ≡ None
unfolding address_read part_at_front part_after_dot digits decode_pairs based_number flag_spelled message_type_spelled message_type_word hexadecimal_spelled route_spelled
example_84 = refl

example_85 : fields_spelled (fields.Uint8 ∷ []) false (codes "+") ≡ None
unfolding address_read part_at_front part_after_dot digits decode_pairs based_number flag_spelled message_type_spelled message_type_word hexadecimal_spelled route_spelled
example_85 = refl

example_86 : fields_spelled (fields.Uint32 ∷ []) false (codes " +4294967295 ") ≡ (Some (255 ∷ 255 ∷ 255 ∷ 255 ∷ []))
unfolding address_read part_at_front part_after_dot digits decode_pairs based_number flag_spelled message_type_spelled message_type_word hexadecimal_spelled route_spelled
example_86 = refl

example_87 : fields_spelled (fields.Int8 ∷ []) false (codes "+128") ≡ None
unfolding address_read part_at_front part_after_dot digits decode_pairs based_number flag_spelled message_type_spelled message_type_word hexadecimal_spelled route_spelled
example_87 = refl

example_88 : fields_spelled (fields.Int8 ∷ []) false (codes "+127") ≡ (Some (127 ∷ []))
unfolding address_read part_at_front part_after_dot digits decode_pairs based_number flag_spelled message_type_spelled message_type_word hexadecimal_spelled route_spelled
example_88 = refl

example_89 : fields_spelled (fields.Int8 ∷ []) false (codes "+-7") ≡ None
unfolding address_read part_at_front part_after_dot digits decode_pairs based_number flag_spelled message_type_spelled message_type_word hexadecimal_spelled route_spelled
example_89 = refl

example_90 : fields_spelled [] false (codes " ") ≡ None
unfolding address_read part_at_front part_after_dot digits decode_pairs based_number flag_spelled message_type_spelled message_type_word hexadecimal_spelled route_spelled
example_90 = refl
