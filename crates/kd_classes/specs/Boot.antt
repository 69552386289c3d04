-- The fields of a reply by which a client boots (RFC 2131 section 2, figure 1): `siaddr`, `sname` and
-- `file`. Parts of a configuration give values to them, one after another (Kea Administrator
-- Reference Manual, section Fixed Fields in DHCPv4).
use Rattle.std.specs.Prelude.{Bool, ◌&&◌, List, [], ◌∷◌, None, is_none}
use Rattle.std.specs.Option.{option_or}
use Rattle.kd_classes.specs.declared.boot.Boot.{Boot}

-- nothing is given to any field
abbrev pub no_boot : Boot
no_boot = record { next_server = None; server_name = None; file_name = None }

-- nothing is given to any of the fields
abbrev pub gives_nothing : Boot → Bool
gives_nothing boot =
    is_none boot.next_server && (is_none boot.server_name && is_none boot.file_name)

-- each value of the first, or else that of the second
abbrev pub boot_or : Boot → Boot → Boot
boot_or a b =
    record {
      next_server = option_or a.next_server b.next_server;
      server_name = option_or a.server_name b.server_name;
      file_name = option_or a.file_name b.file_name;
    }

-- what several give, one after another: each value is that of the first that has one
abbrev pub first_boot : List Boot → Boot
first_boot [] = no_boot
first_boot (boot ∷ boots) = boot_or boot (first_boot boots)
