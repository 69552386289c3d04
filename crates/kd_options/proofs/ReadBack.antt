-- A header's bytes read back as the header (RFC 2131 section 2).
use Rattle.std.proofs.Common.{◌≡◌, ℕ, ◌+◌, ◌-◌, ◌*◌, ◌^◌, ◌<◌, ◌≤◌, Bool, true, false, List, [], ◌∷◌, ◌++◌, length, take, drop, Ok, Err, refl, sym, ap, ◌∙◌, arith, append_assoc, length-append, drop-drop, eq-eqb, inl, inr, slice_index}
use Rattle.std.specs.Prelude.{◌⊎◌, ◌==◌, ◌||◌, not, nat_lt, if◌then◌else◌}
use Rattle.std.specs.Int.{bytes_high_first}
use Rattle.std.proofs.lemmas.Bool.{le-ltb}
use Rattle.std.proofs.lemmas.List.{take_at, drop_at}
use Rattle.std.proofs.lemmas.Nat.{from_be_bytes-to_be_bytes_2, from_be_bytes-to_be_bytes_4}
use Rattle.kd_wire.specs.Header.{bytes_at, cookie, header_bytes, header_of, header_read, number_at}
use Rattle.kd_wire.specs.declared.header.Header.{Header}
use Rattle.kd_wire.specs.declared.header.WireFault.TheVariants.{Short, Long, Cookie, BadOp}
use Rattle.kd_options.specs.Laws.{IsHeader}

-- what follows a field
behind : (bytes : List ℕ) (i n : ℕ) (field rest : List ℕ) → drop i bytes ≡ field ++ rest → length field ≡ n → drop (i + n) bytes ≡ rest
behind bytes i n field rest at size = sym (drop-drop n i bytes) ∙ ap (drop n) at ∙ drop_at field rest n size

-- a field that comes first in the bytes from its offset on
field_is : (bytes : List ℕ) (i n : ℕ) (field rest : List ℕ) → drop i bytes ≡ field ++ rest → length field ≡ n → bytes_at i n bytes ≡ field
field_is bytes i n field rest at size =
    let width : i + n - i ≡ n = omega arith in
    ap (λ k. take k (drop i bytes)) width ∙ ap (take n) at ∙ take_at field rest n size

-- the number of two bytes, and of four
abbrev two : List ℕ → ℕ
two ys = slice_index ys 0 * 256 ^ 1 + (slice_index ys 1 * 256 ^ 0 + 0)

abbrev four : List ℕ → ℕ
four ys = slice_index ys 0 * 256 ^ 3 + (slice_index ys 1 * 256 ^ 2 + (slice_index ys 2 * 256 ^ 1 + (slice_index ys 3 * 256 ^ 0 + 0)))

two_back : (x : ℕ) → x < 2 ^ 16 → two (bytes_high_first 2 x) ≡ x
two_back x fits = let back = from_be_bytes-to_be_bytes_2 x fits in omega (arith, back)

four_back : (x : ℕ) → x < 2 ^ 32 → four (bytes_high_first 4 x) ≡ x
four_back x fits = let back = from_be_bytes-to_be_bytes_4 x fits in omega (arith, back)

-- a number whose bytes come first in the bytes from its offset on
number_is_2 : (bytes : List ℕ) (i x : ℕ) (rest : List ℕ) → drop i bytes ≡ bytes_high_first 2 x ++ rest → x < 2 ^ 16 → number_at i 2 bytes ≡ x
number_is_2 bytes i x rest at fits =
    ap two (field_is bytes i 2 (bytes_high_first 2 x) rest at refl) ∙ two_back x fits

number_is_4 : (bytes : List ℕ) (i x : ℕ) (rest : List ℕ) → drop i bytes ≡ bytes_high_first 4 x ++ rest → x < 2 ^ 32 → number_at i 4 bytes ≡ x
number_is_4 bytes i x rest at fits =
    ap four (field_is bytes i 4 (bytes_high_first 4 x) rest at refl) ∙ four_back x fits

-- lists one after another, taken from the beginning
from_front : (a b c d : ℕ) (x1 x2 x3 x4 x5 x6 x7 x8 x9 x10 x11 rest : List ℕ) → a ∷ b ∷ c ∷ d ∷ [] ++ x1 ++ x2 ++ x3 ++ x4 ++ x5 ++ x6 ++ x7 ++ x8 ++ x9 ++ x10 ++ x11 ++ rest ≡ a ∷ b ∷ c ∷ d ∷ (x1 ++ (x2 ++ (x3 ++ (x4 ++ (x5 ++ (x6 ++ (x7 ++ (x8 ++ (x9 ++ (x10 ++ (x11 ++ rest)))))))))))
from_front a b c d x1 x2 x3 x4 x5 x6 x7 x8 x9 x10 x11 rest = simp append_assoc

-- the header's tests pass one after another
passes : (short long cookie_is op_is : Bool) (header : Header) → short ≡ false → long ≡ false → cookie_is ≡ true → op_is ≡ true → (if short then Err Short else if long then Err Long else if not cookie_is then Err Cookie else if op_is then Ok header else Err BadOp) ≡ Ok header
passes short long cookie_is op_is header a b c d = rw (a, b, c, d) refl

known_op : (op : ℕ) → (op ≡ 1) ⊎ (op ≡ 2) → (op == 1 || op == 2) ≡ true
known_op op (inl is) = rw is refl
known_op op (inr is) = rw is refl

module _ (h : Header) (rest : List ℕ) where
  -- the bytes from each field on, with the cookie and the rest after them
  abbrev from_cookie : List ℕ
  from_cookie = bytes_high_first 4 cookie ++ rest

  abbrev from_file : List ℕ
  from_file = h.file ++ from_cookie

  abbrev from_sname : List ℕ
  from_sname = h.sname ++ from_file

  abbrev from_chaddr : List ℕ
  from_chaddr = h.chaddr ++ from_sname

  abbrev from_giaddr : List ℕ
  from_giaddr = bytes_high_first 4 h.giaddr ++ from_chaddr

  abbrev from_siaddr : List ℕ
  from_siaddr = bytes_high_first 4 h.siaddr ++ from_giaddr

  abbrev from_yiaddr : List ℕ
  from_yiaddr = bytes_high_first 4 h.yiaddr ++ from_siaddr

  abbrev from_ciaddr : List ℕ
  from_ciaddr = bytes_high_first 4 h.ciaddr ++ from_yiaddr

  abbrev from_flags : List ℕ
  from_flags = bytes_high_first 2 h.flags ++ from_ciaddr

  abbrev from_secs : List ℕ
  from_secs = bytes_high_first 2 h.secs ++ from_flags

  abbrev from_xid : List ℕ
  from_xid = bytes_high_first 4 h.xid ++ from_secs

  abbrev fields : List ℕ
  fields = h.op ∷ h.htype ∷ h.hlen ∷ h.hops ∷ from_xid

  -- a header's bytes are its fields in order
  bytes_are : header_bytes h ++ rest ≡ fields
  unfolding header_bytes
  bytes_are =
      from_front h.op h.htype h.hlen h.hops (bytes_high_first 4 h.xid) (bytes_high_first 2 h.secs) (bytes_high_first 2 h.flags) (bytes_high_first 4 h.ciaddr) (bytes_high_first 4 h.yiaddr) (bytes_high_first 4 h.siaddr) (bytes_high_first 4 h.giaddr) h.chaddr h.sname h.file (bytes_high_first 4 cookie) rest

  module _ (bytes : List ℕ) (whole : bytes ≡ fields) (is : IsHeader h) where
    -- each field at its offset
    at_xid : drop 4 bytes ≡ from_xid
    at_xid = ap (drop 4) whole

    at_secs : drop 8 bytes ≡ from_secs
    at_secs = behind bytes 4 4 (bytes_high_first 4 h.xid) from_secs at_xid refl

    at_flags : drop 10 bytes ≡ from_flags
    at_flags = behind bytes 8 2 (bytes_high_first 2 h.secs) from_flags at_secs refl

    at_ciaddr : drop 12 bytes ≡ from_ciaddr
    at_ciaddr = behind bytes 10 2 (bytes_high_first 2 h.flags) from_ciaddr at_flags refl

    at_yiaddr : drop 16 bytes ≡ from_yiaddr
    at_yiaddr = behind bytes 12 4 (bytes_high_first 4 h.ciaddr) from_yiaddr at_ciaddr refl

    at_siaddr : drop 20 bytes ≡ from_siaddr
    at_siaddr = behind bytes 16 4 (bytes_high_first 4 h.yiaddr) from_siaddr at_yiaddr refl

    at_giaddr : drop 24 bytes ≡ from_giaddr
    at_giaddr = behind bytes 20 4 (bytes_high_first 4 h.siaddr) from_giaddr at_siaddr refl

    at_chaddr : drop 28 bytes ≡ from_chaddr
    at_chaddr = behind bytes 24 4 (bytes_high_first 4 h.giaddr) from_chaddr at_giaddr refl

    at_sname : drop 44 bytes ≡ from_sname
    at_sname = behind bytes 28 16 (h.chaddr) from_sname at_chaddr is.chaddr.size

    at_file : drop 108 bytes ≡ from_file
    at_file = behind bytes 44 64 (h.sname) from_file at_sname is.sname.size

    at_cookie : drop 236 bytes ≡ from_cookie
    at_cookie = behind bytes 108 128 (h.file) from_cookie at_file is.file.size

    cookie_at : number_at 236 4 bytes ≡ cookie
    cookie_at = number_is_4 bytes 236 cookie rest at_cookie (omega arith)

    -- the fields that the bytes have are the header's
    fields_back : header_of bytes ≡ h
    unfolding header_of
    fields_back = λ i. record {
      op = slice_index (whole i) 0;
      htype = slice_index (whole i) 1;
      hlen = slice_index (whole i) 2;
      hops = slice_index (whole i) 3;
      xid = number_is_4 bytes 4 h.xid from_secs at_xid is.xid i;
      secs = number_is_2 bytes 8 h.secs from_flags at_secs is.secs i;
      flags = number_is_2 bytes 10 h.flags from_ciaddr at_flags is.flags i;
      ciaddr = number_is_4 bytes 12 h.ciaddr from_yiaddr at_ciaddr is.ciaddr i;
      yiaddr = number_is_4 bytes 16 h.yiaddr from_siaddr at_yiaddr is.yiaddr i;
      siaddr = number_is_4 bytes 20 h.siaddr from_giaddr at_siaddr is.siaddr i;
      giaddr = number_is_4 bytes 24 h.giaddr from_chaddr at_giaddr is.giaddr i;
      chaddr = field_is bytes 28 16 h.chaddr from_sname at_chaddr is.chaddr.size i;
      sname = field_is bytes 44 64 h.sname from_file at_sname is.sname.size i;
      file = field_is bytes 108 128 h.file from_cookie at_file is.file.size i;
    }

    -- bytes that begin with a header and are not too long have that header
    reads : (h.op ≡ 1) ⊎ (h.op ≡ 2) → 240 ≤ length bytes → length bytes ≤ 4096 → header_read bytes ≡ Ok h
    unfolding header_read
    reads op least most =
        passes (nat_lt (length bytes) 240) (nat_lt 4096 (length bytes)) (number_at 236 4 bytes == cookie) (slice_index bytes 0 == 1 || slice_index bytes 0 == 2) (header_of bytes) (le-ltb (length bytes) 240 least) (le-ltb 4096 (length bytes) most) (eq-eqb (number_at 236 4 bytes) cookie cookie_at) (ap (λ b. slice_index b 0 == 1 || slice_index b 0 == 2) whole ∙ known_op h.op op) ∙ ap Ok fields_back

-- a header's bytes and what follows them, up to 4,096 bytes, have that header
pub header_back : (h : Header) (rest : List ℕ) → IsHeader h → (h.op ≡ 1) ⊎ (h.op ≡ 2) → 240 ≤ length (header_bytes h ++ rest) → length (header_bytes h ++ rest) ≤ 4096 → header_read (header_bytes h ++ rest) ≡ Ok h
header_back h rest is op least most = reads h rest (header_bytes h ++ rest) (bytes_are h rest) is op least most

-- a header and its cookie are 240 bytes
pub length-header_bytes : (h : Header) → IsHeader h → length (header_bytes h) ≡ 240
unfolding header_bytes
length-header_bytes h is = simp length-append (omega (arith, is.chaddr.size, is.sname.size, is.file.size))
