-- What a text of Kea's gives to the boot fields of a reply obeys what all that is given to them obeys.
use Rattle.std.proofs.Common.{◌≡◌, ℕ, zero, suc, ◌-◌, ◌^◌, ◌<◌, nat_lt, Bool, true, false, ◌==◌, List, [], ◌∷◌, length, replicate, codes, Option, Some, None, IfSome, arith, if◌then◌else◌, ltb-true, subst}
use Rattle.std.proofs.lemmas.List.{length-append, length-replicate}
use Rattle.std.specs.List.{AllByRecursion, list_all}
use Rattle.std.specs.Option.{option_or}
use Rattle.kd_classes.specs.Boot.{boot_or, gives_nothing}
use Rattle.kd_classes.specs.declared.boot.Boot.{Boot}
use Rattle.kd_config.proofs.Tests.{both_passed, some_is}
use Rattle.kd_config.specs.Sound.{IsBoot}
use Rattle.kd_json.proofs.Came.{came_from, passed_only}
use Rattle.kd_fields.specs.Values.{address_given, text_if_given}
use Rattle.kd_kea.proofs.SoundParts.{each_of_both}
use Rattle.kd_keys.specs.Boot.{boot_listed, field_by, field_given, is_field_byte, is_field_text, kea_boot, next_server_given, own_boot, nonzero_server, zero_filled, server_in, without_zero}
use Rattle.kd_keys.specs.Keys.{is_plain, word}
use Rattle.kd_keys.specs.Values.{unless_empty}
use Rattle.serde_json.specs.Data.{Data}
use Rattle.serde_json.specs.Find.{get}

-- ---- texts in fields

-- each is a byte
abbrev AreAllBytes : List ℕ → Type 0
AreAllBytes bytes = AllByRecursion (λ b. b < 256) bytes

zeros_are : (n : ℕ) → AreAllBytes (replicate n 0)
zeros_are zero = tt
zeros_are (suc n) = (omega arith, zeros_are n)

text_is : (text : List ℕ) → list_all is_field_byte text ≡ true → AreAllBytes text
text_is [] e = tt
text_is (b ∷ text) e =
    let both = both_passed (is_field_byte b) (list_all is_field_byte text) e in
    let byte = both_passed (nat_lt 0 b) (nat_lt b 256) both.0 in
    (ltb-true b 256 byte.1, text_is text both.1)

padded_size : (n : ℕ) (text : List ℕ) → is_field_text n text ≡ true → length (zero_filled n text) ≡ n
padded_size n text e =
    let both = both_passed (nat_lt (length text) n) (list_all is_field_byte text) e in
    omega (arith, length-append text (replicate (n - length text) 0), length-replicate {A = ℕ} (n - length text) 0, ltb-true (length text) n both.0)

padded_bytes : (n : ℕ) (text : List ℕ) → is_field_text n text ≡ true → AreAllBytes (zero_filled n text)
padded_bytes n text e =
    let both = both_passed (nat_lt (length text) n) (list_all is_field_byte text) e in
    each_of_both (λ (b : ℕ). b < 256) text (replicate (n - length text) 0) (text_is text both.1) (zeros_are (n - length text))

-- what holds for each text with zeros behind it holds for what a key gives
by_sound : (P : List ℕ → Type 0) (n : ℕ) → ((text : List ℕ) → is_field_text n text ≡ true → P (zero_filled n text)) → (text field : Option (List ℕ)) → field_by n text ≡ Some field → IfSome field P
by_sound P n holds None field e = subst (λ (f : Option (List ℕ)). IfSome f P) (some_is None field e) tt
by_sound P n holds (Some text) field e =
    let test = passed_only (is_field_text n text) (Some (zero_filled n text)) field e in
    subst (λ (f : Option (List ℕ)). IfSome f P) test.1 (holds text test.0)

field_sound : (P : List ℕ → Type 0) (n : ℕ) → ((text : List ℕ) → is_field_text n text ≡ true → P (zero_filled n text)) → (value : Option Data) (field : Option (List ℕ)) → field_given n value ≡ Some field → IfSome field P
unfolding field_given
field_sound P n holds value field e =
    let text = came_from (text_if_given value) _ field e in
    by_sound P n holds (unless_empty text.first) field text.gives

-- ---- the next server

-- a number of 32 bits, if there is one
abbrev IsServer : Option ℕ → Type 0
IsServer server = IfSome server (λ address. address < 2 ^ 32)

in_sound : (d : Data) (server : Option ℕ) → server_in d ≡ Some server → IsServer server
unfolding server_in
in_sound d server e =
    let address = came_from (address_given d) _ server e in
    let test = passed_only (nat_lt address.first 4294967295) (Some address.first) server address.gives in
    subst IsServer test.1 (omega (arith, ltb-true address.first 4294967295 test.0))

server_given_sound : (value : Option Data) (server : Option ℕ) → next_server_given value ≡ Some server → IsServer server
server_given_sound None server e = subst IsServer (some_is None server e) tt
server_given_sound (Some d) server e = by (is_plain (word []) d) e where
  by : (b : Bool) → ◌≡◌ {A = Option (Option ℕ)} (if b then Some None else server_in d) (Some server) → IsServer server
  by true h = subst IsServer (some_is None server h) tt
  by false h = in_sound d server h

zero_sound : (server : Option ℕ) → IsServer server → IsServer (nonzero_server server)
zero_sound None h = tt
zero_sound (Some address) h = by (address == 0) where
  by : (b : Bool) → IsServer (if b then None else Some address)
  by true = tt
  by false = h

-- ---- all fields

-- what the whole server, a network or a subnet gives
pub boot_sound : (d : Data) (boot : Boot) → kea_boot d ≡ Some boot → IsBoot boot
unfolding kea_boot
boot_sound d boot e =
    let server = came_from (next_server_given (get (codes "next-server") d)) _ boot e in
    let name = came_from (field_given 64 (get (codes "server-hostname") d)) _ boot server.gives in
    let file = came_from (field_given 128 (get (codes "boot-file-name") d)) _ boot name.gives in
    subst IsBoot (some_is _ boot file.gives) (record {
      next_server = server_given_sound (get (codes "next-server") d) server.first server.is;
      server_name = field_sound _ 64 (λ text e. record { size = padded_size 64 text e; bytes_are = padded_bytes 64 text e }) (get (codes "server-hostname") d) name.first name.is;
      file_name = field_sound _ 128 (λ text e. record { size = padded_size 128 text e; bytes_are = padded_bytes 128 text e }) (get (codes "boot-file-name") d) file.first file.is;
    })

-- what a class or a reservation gives
pub own_sound : (d : Data) (boot : Boot) → own_boot d ≡ Some boot → IsBoot boot
unfolding own_boot
own_sound d boot e =
    let given = came_from (kea_boot d) _ boot e in
    let sound = boot_sound d given.first given.is in
    subst IsBoot (some_is (without_zero given.first) boot given.gives) (record {
      next_server = zero_sound given.first.next_server sound.next_server;
      server_name = sound.server_name;
      file_name = sound.file_name;
    })

either_sound : {A : Type 0} (P : A → Type 0) (a b : Option A) → IfSome a P → IfSome b P → IfSome (option_or a b) P
either_sound P None b first second = second
either_sound P (Some x) b first second = first

-- what two give, the first before the second
pub or_sound : (a b : Boot) → IsBoot a → IsBoot b → IsBoot (boot_or a b)
or_sound a b first second =
    record {
      next_server = either_sound _ a.next_server b.next_server first.next_server second.next_server;
      server_name = either_sound _ a.server_name b.server_name first.server_name second.server_name;
      file_name = either_sound _ a.file_name b.file_name first.file_name second.file_name;
    }

-- what is given, as a list
pub listed_sound : (boot : Boot) → IsBoot boot → AllByRecursion IsBoot (boot_listed boot)
listed_sound boot sound = by (gives_nothing boot) where
  by : (b : Bool) → AllByRecursion IsBoot (if b then [] else boot ∷ [])
  by true = tt
  by false = (sound, tt)
