-- The client of a reservation that a text of Kea's describes obeys what every client obeys.
use Rattle.std.proofs.Common.{◌≡◌, ◌≤◌, ℕ, nat_le, List, length, arith, Option, None, Some, option_map, subst, refl}
use Rattle.std.specs.Prelude.{option_and_then}
use borrow.Author.Tests.{leb-true}
use Rattle.serde_json.specs.Data.{Data}
use Rattle.serde_json.specs.Find.{as_str, get}
use Rattle.kd_config.proofs.Tests.{some_is}
use Rattle.kd_config.specs.Sound.{IsFrom, IsIdentity}
use Rattle.kd_config.specs.declared.reservation.Identity.{Identity}
use Rattle.kd_config.specs.declared.reservation.Identity.TheVariants as clients
use Rattle.kd_config.specs.declared.reservation.IdentityKind.{IdentityKind}
use Rattle.kd_config.specs.declared.reservation.IdentityKind.TheVariants as kinds
use Rattle.kd_json.proofs.Came.{came_from, passed, passed_only}
use Rattle.kd_json.proofs.Sounds.{bytes_sound}
use Rattle.kd_keys.specs.HostClient.{host_bytes, client_if_given, kea_client, most_bytes, one_client}
use Rattle.kd_keys.specs.HostKinds.{kind_key}
use Rattle.kd_keys.specs.Quoted.{bytes_in_quotes, bytes_written, quoted_or_hex}
use Rattle.kd_keys.specs.Values.{is_whole_text}

few_written : (most : ℕ) (quoted : Option (List ℕ)) (d : Data) (bytes : List ℕ) → quoted_or_hex most quoted d ≡ Some bytes → length bytes ≤ most
few_written most (Some read) d bytes e =
    let few = passed_only (nat_le (length read) most) read bytes e in
    subst (λ (bs : List ℕ). length bs ≤ most) few.1 (leb-true (length read) most few.0)
few_written most None d bytes e =
    let whole = passed (is_whole_text d) _ bytes e in (bytes_sound 0 most d bytes whole.1).below

-- the bytes of a client: at least one, and not too many
bytes_of_client : (kind : IdentityKind) (d : Data) (bytes : List ℕ) → host_bytes kind d ≡ Some bytes → IsFrom 1 (most_bytes kind) (length bytes)
unfolding host_bytes
bytes_of_client kind d bytes e =
    let read = came_from (bytes_written (most_bytes kind) d) _ bytes e in
    let some = passed_only (nat_le 1 (length read.first)) read.first bytes read.gives in
    subst (λ (bs : List ℕ). IsFrom 1 (most_bytes kind) (length bs)) some.1 (record {
      above = leb-true 1 (length read.first) some.0;
      below = few_written (most_bytes kind) (option_and_then bytes_in_quotes (as_str d)) d read.first read.is;
    })

given_bytes : (kind : IdentityKind) (value : Option Data) (bytes : List ℕ) → client_if_given kind value ≡ Some (Some bytes) → IsFrom 1 (most_bytes kind) (length bytes)
given_bytes kind None bytes e = absurd (cc)
given_bytes kind (Some d) bytes e = by (host_bytes kind d) refl e where
  by : (read : Option (List ℕ)) → host_bytes kind d ≡ read → option_map Some read ≡ Some (Some bytes) → IsFrom 1 (most_bytes kind) (length bytes)
  by None h k = absurd (cc)
  by (Some bs) h k = subst (λ b. IsFrom 1 (most_bytes kind) (length b)) (inner bs bytes k) (bytes_of_client kind d bs h) where
    inner : (x y : List ℕ) → Some (Some x) ≡ Some (Some y) → x ≡ y
    inner x y same = cc

-- if there are bytes by a kind of identity, they have a right length
abbrev HasLength : IdentityKind → Option (List ℕ) → Type 0
HasLength kind given = (b : List ℕ) → given ≡ Some b → IsFrom 1 (most_bytes kind) (length b)

wider : (n : ℕ) → IsFrom 1 128 n → IsFrom 1 255 n
wider n is = (let a = is.above in let b = is.below in record { above = a; below = omega (arith, b) })

one_sound : (hardware duid circuit client : Option (List ℕ)) (identity : Identity) → HasLength kinds.Hardware hardware → HasLength kinds.Duid duid → HasLength kinds.Circuit circuit → HasLength kinds.ClientId client → one_client hardware duid circuit client ≡ Some identity → IsIdentity identity
one_sound (Some b) None None None identity f g h k e = subst IsIdentity (some_is (clients.Hardware b) identity e) (f b refl)
one_sound None (Some b) None None identity f g h k e = subst IsIdentity (some_is (clients.Duid b) identity e) (wider (length b) (g b refl))
one_sound None None (Some b) None identity f g h k e = subst IsIdentity (some_is (clients.Circuit b) identity e) (h b refl)
one_sound None None None (Some b) identity f g h k e = subst IsIdentity (some_is (clients.ClientId b) identity e) (k b refl)
one_sound None None None None identity f g h k e = absurd (cc)
one_sound (Some a) (Some b) circuit client identity f g h k e = absurd (cc)
one_sound (Some a) None (Some b) client identity f g h k e = absurd (cc)
one_sound (Some a) None None (Some b) identity f g h k e = absurd (cc)
one_sound None (Some a) (Some b) client identity f g h k e = absurd (cc)
one_sound None (Some a) None (Some b) identity f g h k e = absurd (cc)
one_sound None None (Some a) (Some b) identity f g h k e = absurd (cc)

pub client_sound : (d : Data) (identity : Identity) → kea_client d ≡ Some identity → IsIdentity identity
unfolding kea_client
client_sound d identity e =
    let hardware = came_from (client_if_given kinds.Hardware (get (kind_key kinds.Hardware) d)) _ identity e in
    let duid = came_from (client_if_given kinds.Duid (get (kind_key kinds.Duid) d)) _ identity hardware.gives in
    let circuit = came_from (client_if_given kinds.Circuit (get (kind_key kinds.Circuit) d)) _ identity duid.gives in
    let client = came_from (client_if_given kinds.ClientId (get (kind_key kinds.ClientId) d)) _ identity circuit.gives in
    one_sound hardware.first duid.first circuit.first client.first identity
    (by kinds.Hardware (get (kind_key kinds.Hardware) d) hardware.first hardware.is)
    (by kinds.Duid (get (kind_key kinds.Duid) d) duid.first duid.is)
    (by kinds.Circuit (get (kind_key kinds.Circuit) d) circuit.first circuit.is)
    (by kinds.ClientId (get (kind_key kinds.ClientId) d) client.first client.is)
    client.gives where
      by : (kind : IdentityKind) (value : Option Data) (given : Option (List ℕ)) → client_if_given kind value ≡ Some given → HasLength kind given
      by kind value given h b same = given_bytes kind value b (subst (λ o. client_if_given kind value ≡ Some o) same h)
