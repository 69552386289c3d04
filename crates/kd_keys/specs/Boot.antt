-- What an object of Kea's gives to the fields of a reply by which its client boots (Kea Administrator
-- Reference Manual, section Fixed Fields in DHCPv4): `next-server`, `server-hostname` and
-- `boot-file-name`. A key that is absent or an empty text gives nothing.
use Rattle.std.specs.Prelude.{ℕ, ◌-◌, ◌==◌, Bool, ◌&&◌, nat_lt, List, [], ◌∷◌, ◌++◌, length, replicate, codes, Option, Some, None, if◌then◌else◌}
use Rattle.std.specs.List.{list_all}
use Rattle.serde_json.specs.Data.{Data}
use Rattle.serde_json.specs.Find.{get}
use Rattle.kd_classes.specs.Boot.{gives_nothing}
use Rattle.kd_classes.specs.declared.boot.Boot.{Boot}
use Rattle.kd_fields.specs.Steps.{only_if}
use Rattle.kd_fields.specs.Values.{address_given, text_if_given}
use Rattle.kd_keys.specs.Keys.{is_plain, word}
use Rattle.kd_keys.specs.Values.{unless_empty}
use Rattle.kd_wire.specs.Steps.{◌>>=◌}

-- the address of a server: any but 255.255.255.255
unfoldable pub server_in : Data → Option (Option ℕ)
server_in d = do
  address ← address_given d
  only_if (nat_lt address 4294967295) (Some address)

-- the next server that a value gives; an empty text is none
abbrev pub next_server_given : Option Data → Option (Option ℕ)
next_server_given None = Some None
next_server_given (Some d) = if is_plain (word []) d then Some None else server_in d

-- a byte that may be in the text of a field, which a zero ends (RFC 2131 section 2)
abbrev pub is_field_byte : ℕ → Bool
is_field_byte b = nat_lt 0 b && nat_lt b 256

-- a text may be in a field of n bytes, with a zero behind it
abbrev pub is_field_text : ℕ → List ℕ → Bool
is_field_text n text = nat_lt (length text) n && list_all is_field_byte text

-- a text in a field of n bytes: zeros are behind it
abbrev pub zero_filled : ℕ → List ℕ → List ℕ
zero_filled n text = text ++ replicate (n - length text) 0

-- a text in a field of n bytes, if there is a text
abbrev pub field_by : ℕ → Option (List ℕ) → Option (Option (List ℕ))
field_by n None = Some None
field_by n (Some text) = only_if (is_field_text n text) (Some (zero_filled n text))

-- the text that a value gives, in a field of n bytes; an empty text is none
unfoldable pub field_given : ℕ → Option Data → Option (Option (List ℕ))
field_given n value = do
  text ← text_if_given value
  field_by n (unless_empty text)

-- what the whole server, a network or a subnet gives to the fields
unfoldable pub kea_boot : Data → Option Boot
kea_boot d = do
  next_server ← next_server_given (get (codes "next-server") d)
  server_name ← field_given 64 (get (codes "server-hostname") d)
  file_name ← field_given 128 (get (codes "boot-file-name") d)
  Some (record { next_server = next_server; server_name = server_name; file_name = file_name })

-- an address, unless it is 0.0.0.0
abbrev pub nonzero_server : Option ℕ → Option ℕ
nonzero_server None = None
nonzero_server (Some address) = if address == 0 then None else Some address

-- the same without the address 0.0.0.0, which hides no other of a class or a reservation
abbrev pub without_zero : Boot → Boot
without_zero boot =
    record {
      next_server = nonzero_server boot.next_server;
      server_name = boot.server_name;
      file_name = boot.file_name;
    }

-- what a class or a reservation gives to the fields
unfoldable pub own_boot : Data → Option Boot
own_boot d = do
  boot ← kea_boot d
  Some (without_zero boot)

-- what is given as a list: without a value, if nothing is
abbrev pub boot_listed : Boot → List Boot
boot_listed boot = if gives_nothing boot then [] else boot ∷ []
