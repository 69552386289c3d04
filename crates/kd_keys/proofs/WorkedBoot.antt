-- Worked examples: what objects of Kea's give to the boot fields, by hand.
use Rattle.std.proofs.Common.{◌≡◌, ◌++◌, replicate, codes, Some, None, refl}
use Rattle.std.specs.Fmt.{digits}
use Rattle.std.specs.Str.{chars, is_utf8}
use Rattle.serde_json.proofs.OnLiterals.{serde_json_on_literals}
use Rattle.kd_classes.specs.Boot.{no_boot}
use Rattle.kd_fields.specs.Text.{value_spelled}
use Rattle.kd_keys.specs.Boot.{field_given, kea_boot, own_boot, without_zero}
use Rattle.kd_wire.specs.Steps.{◌>>=◌}

-- a name and a file, with zeros behind them
example_1 : (value_spelled (codes "{\"server-hostname\": \"tftp\", \"boot-file-name\": \"/x.efi\"}") >>= kea_boot) ≡ Some (record { next_server = None; server_name = Some (codes "tftp" ++ replicate 60 0); file_name = Some (codes "/x.efi" ++ replicate 122 0) })
unfolding serde_json_on_literals chars digits is_utf8 value_spelled field_given kea_boot
example_1 = refl

-- empty texts give nothing, as do keys that are absent
example_2 : (value_spelled (codes "{\"next-server\": \"\", \"server-hostname\": \"\", \"boot-file-name\": \"\"}") >>= kea_boot) ≡ Some no_boot
unfolding serde_json_on_literals chars digits is_utf8 value_spelled field_given kea_boot
example_2 = refl

example_3 : (value_spelled (codes "{}") >>= own_boot) ≡ Some no_boot
unfolding serde_json_on_literals chars digits is_utf8 value_spelled field_given kea_boot own_boot
example_3 = refl

-- a class or a reservation does not give 0.0.0.0
example_4 : without_zero (record { next_server = Some 0; server_name = None; file_name = None }) ≡ no_boot
example_4 = refl

-- a name of 63 bytes, one of 64, and a file with a zero in its name
example_5 : (value_spelled (codes "{\"server-hostname\": \"aaaaaaaaaaaaaaaaaaaaaaaaaaaaaaaaaaaaaaaaaaaaaaaaaaaaaaaaaaaaaaa\"}") >>= kea_boot) ≡ Some (record { next_server = None; server_name = Some (replicate 63 97 ++ replicate 1 0); file_name = None })
unfolding serde_json_on_literals chars digits is_utf8 value_spelled field_given kea_boot
example_5 = refl

example_6 : (value_spelled (codes "{\"server-hostname\": \"aaaaaaaaaaaaaaaaaaaaaaaaaaaaaaaaaaaaaaaaaaaaaaaaaaaaaaaaaaaaaaaa\"}") >>= kea_boot) ≡ None
unfolding serde_json_on_literals chars digits is_utf8 value_spelled field_given kea_boot
example_6 = refl

example_7 : (value_spelled (codes "{\"boot-file-name\": \"a\\u0000b\"}") >>= kea_boot) ≡ None
unfolding serde_json_on_literals chars digits is_utf8 value_spelled field_given kea_boot
example_7 = refl

-- a number is no name
example_8 : (value_spelled (codes "{\"boot-file-name\": 1}") >>= kea_boot) ≡ None
unfolding serde_json_on_literals chars digits is_utf8 value_spelled field_given kea_boot
example_8 = refl
