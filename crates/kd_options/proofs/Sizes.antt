-- How long the parts of a message can be: its header's fields have their sizes, an option has at
-- most the datagram's bytes, and a sub-option at most 255 bytes.
use Rattle.std.proofs.Common.{◌≡◌, ℕ, zero, suc, ◌+◌, ◌-◌, ◌*◌, ◌^◌, ◌<◌, ◌≤◌, Bool, true, false, List, [], ◌∷◌, ◌++◌, length, take, drop, filter, map, get_or, Option, Some, None, refl, sym, ap, subst, arith}
use Rattle.std.specs.Prelude.{◌==◌, if◌then◌else◌, not, ◌||◌, nat_eq, nat_lt, Ok, Err, IfSome, MatchOption, slice_index}
use Rattle.std.specs.List.{AllByRecursion, flat_map}
use Rattle.std.specs.Map.{lookup}
use Rattle.std.proofs.lemmas.Bool.{ltb-false}
use Rattle.std.proofs.lemmas.List.{length-append, length-drop, length-take}
use Rattle.kd_wire.specs.Area.{Piece, Slot, pad, piece, spelled, piece_of, IsArea}
use Rattle.kd_wire.specs.Header.{bytes_at, number_at, cookie, header_of, header_read}
use Rattle.kd_wire.specs.declared.header.Header.{Header}
use Rattle.kd_wire.specs.declared.header.WireFault.TheVariants as wire
use Rattle.kd_options.specs.Joined.{joined, codes, options_of, value_of, options_field, file_field, sname_field, IsAreaIf, AreasInUse, uses_file, uses_sname}
use Rattle.kd_options.specs.Laws.{IsField, IsHeader, MessagesHaveSizes}
use Rattle.kd_options.specs.Message.{Seen, AreBytes, IsMessage}
use Rattle.kd_options.specs.RelayWalk.{subs_from, are_whole_from, sub_options_in, relay_list}

-- bytes are in range if the byte at each index is
pub bytes_all : (xs : List ℕ) → ((i : ℕ) → get_or xs i 0 < 256) → AreBytes xs
bytes_all [] h = tt
bytes_all (x ∷ xs) h = (h 0, bytes_all xs (λ i. h (suc i)))

-- what holds of both lists holds of their join
all_append : (xs ys : List ℕ) → AreBytes xs → AreBytes ys → AreBytes (xs ++ ys)
all_append [] ys a b = b
all_append (x ∷ xs) ys a b = (a.0, all_append xs ys a.1 b)

all_front : (xs ys : List ℕ) → AreBytes (xs ++ ys) → AreBytes xs
all_front [] ys a = tt
all_front (x ∷ xs) ys a = (a.0, all_front xs ys a.1)

all_back : (xs ys : List ℕ) → AreBytes (xs ++ ys) → AreBytes ys
all_back [] ys a = a
all_back (x ∷ xs) ys a = all_back xs ys a.1

all_take : (n : ℕ) (xs : List ℕ) → AreBytes xs → AreBytes (take n xs)
all_take zero xs a = tt
all_take (suc n) [] a = tt
all_take (suc n) (x ∷ xs) a = (a.0, all_take n xs a.1)

all_drop : (n : ℕ) (xs : List ℕ) → AreBytes xs → AreBytes (drop n xs)
all_drop zero xs a = a
all_drop (suc n) [] a = tt
all_drop (suc n) (x ∷ xs) a = all_drop n xs a.1

-- how many bytes pieces have in all
abbrev total : List Piece → ℕ
total [] = 0
total (p ∷ ps) = length p.1 + total ps

total-append : (ps qs : List Piece) → total (ps ++ qs) ≡ total ps + total qs
total-append [] qs = omega arith
total-append (p ∷ ps) qs = let e = total-append ps qs in omega (arith, e)

-- the values of pieces are bytes
abbrev HaveBytes : List Piece → Type 0
HaveBytes ps = AllByRecursion (λ p. AreBytes p.1) ps

have-append : (ps qs : List Piece) → HaveBytes ps → HaveBytes qs → HaveBytes (ps ++ qs)
have-append [] qs a b = b
have-append (p ∷ ps) qs a b = (a.0, have-append ps qs a.1 b)

-- slots have at least the bytes of their pieces
slots_total : (slots : List Slot) → total (flat_map piece_of slots) ≤ length (flat_map spelled slots)
slots_total [] = omega arith
slots_total (pad ∷ slots) = let le = slots_total slots in omega (arith, le)
slots_total (piece code value ∷ slots) =
    let le = slots_total slots in
    let e = length-append value (flat_map spelled slots) in
    omega (arith, le, e)

slots_bytes : (slots : List Slot) → AreBytes (flat_map spelled slots) → HaveBytes (flat_map piece_of slots)
slots_bytes [] a = tt
slots_bytes (pad ∷ slots) a = slots_bytes slots a.1
slots_bytes (piece code value ∷ slots) a = (all_front value (flat_map spelled slots) a.1.1, slots_bytes slots (all_back value (flat_map spelled slots) a.1.1))

-- what holds of an area's pieces
abbrev Holds : ℕ → List Piece → Type 0
Holds most ps = (total ps ≤ most) × HaveBytes ps

area_holds : (bytes : List ℕ) (ps : List Piece) → AreBytes bytes → IsArea bytes ps → Holds (length bytes) ps
area_holds bytes ps a is =
    let le = slots_total is.slots in
    let size = ap length is.begins.whole in
    let parts = length-append (flat_map spelled is.slots) is.after in
    let b : AreBytes (flat_map spelled is.slots) = all_front (flat_map spelled is.slots) is.after (subst AreBytes is.begins.whole a) in
    let P : List Piece → Type 0 = Holds (length bytes) in
    subst P (sym is.pieces) (omega (arith, le, size, parts), slots_bytes is.slots b)

area_if_holds : (used : Bool) (bytes : List ℕ) (ps : List Piece) → AreBytes bytes → IsAreaIf used bytes ps → Holds (length bytes) ps
area_if_holds true bytes ps a is = area_holds bytes ps a is
area_if_holds false bytes ps a is = let P : List Piece → Type 0 = Holds (length bytes) in subst P (sym is) (omega arith, tt)

-- a value is at most as long as all pieces, and bytes
joined_holds : (code : ℕ) (ps : List Piece) → HaveBytes ps → (length (joined code ps) ≤ total ps) × AreBytes (joined code ps)
joined_holds code [] a = (omega arith, tt)
joined_holds code (p ∷ ps) a = by (p.0 == code) (joined_holds code ps a.1) where
  by : (b : Bool) → (length (joined code ps) ≤ total ps) × AreBytes (joined code ps)
      → (length (flat_map (λ p. p.1) (if b then p ∷ filter (λ p. p.0 == code) ps else filter (λ p. p.0 == code) ps)) ≤ length p.1 + total ps) × AreBytes (flat_map (λ p. p.1) (if b then p ∷ filter (λ p. p.0 == code) ps else filter (λ p. p.0 == code) ps))
  by true h = let e = length-append p.1 (joined code ps) in (omega (arith, e, h.0), all_append p.1 (joined code ps) a.0 h.1)
  by false h = (omega (arith, h.0), h.1)

-- what holds of each joined value holds of each option's value
looked_up : (P : List ℕ → Type 0) (code : ℕ) (ps : List Piece) (cs : List ℕ) → ((c : ℕ) → P (joined c ps)) → MatchOption (lookup (nat_eq code) (map (λ c. (c, joined c ps)) cs)) (Unit {0}) P
looked_up P code ps [] h = tt
looked_up P code ps (c ∷ cs) h = by (nat_eq code c) (looked_up P code ps cs h) where
  by : (b : Bool) → MatchOption (lookup (nat_eq code) (map (λ c. (c, joined c ps)) cs)) (Unit {0}) P → MatchOption (if b then Some (joined c ps) else lookup (nat_eq code) (map (λ c. (c, joined c ps)) cs)) (Unit {0}) P
  by true rest = h c
  by false rest = rest

range_size : (n i : ℕ) (bytes : List ℕ) → length (bytes_at i n bytes) ≤ n
range_size n i bytes =
    let e = length-take (i + n - i) (drop i bytes) in
    omega (arith, e)

range_bytes : (n i : ℕ) (bytes : List ℕ) → AreBytes bytes → AreBytes (bytes_at i n bytes)
range_bytes n i bytes a = all_take (i + n - i) (drop i bytes) (all_drop i bytes a)

-- a readable datagram has at least 240 bytes
least : (bytes : List ℕ) (header : Header) → header_read bytes ≡ Ok header → 240 ≤ length bytes
unfolding header_read
least bytes header is = by (nat_lt (length bytes) 240) refl is where
  by : (short : Bool) → nat_lt (length bytes) 240 ≡ short
      → (if short then Err wire.Short else if nat_lt 4096 (length bytes) then Err wire.Long else if not (number_at 236 4 bytes == cookie) then Err wire.Cookie else if slice_index bytes 0 == 1 || slice_index bytes 0 == 2 then Ok (header_of bytes) else Err wire.BadOp) ≡ Ok header → 240 ≤ length bytes
  by true e is = let none : ⊥ = cc in absurd none
  by false e is = ltb-false _ _ e

-- a readable datagram has at most 4,096 bytes
room : (bytes : List ℕ) (header : Header) → header_read bytes ≡ Ok header → length bytes ≤ 4096
unfolding header_read
room bytes header is = by (nat_lt (length bytes) 240) (nat_lt 4096 (length bytes)) refl is where
  by : (short long : Bool) → nat_lt 4096 (length bytes) ≡ long
      → (if short then Err wire.Short else if long then Err wire.Long else if not (number_at 236 4 bytes == cookie) then Err wire.Cookie else if slice_index bytes 0 == 1 || slice_index bytes 0 == 2 then Ok (header_of bytes) else Err wire.BadOp) ≡ Ok header → length bytes ≤ 4096
  by true long e is = let none : ⊥ = cc in absurd none
  by false true e is = let none : ⊥ = cc in absurd none
  by false false e is = ltb-false _ _ e

-- the header that a readable datagram has
header_is : (bytes : List ℕ) (header : Header) → header_read bytes ≡ Ok header → header_of bytes ≡ header
unfolding header_read
header_is bytes header is = by (nat_lt (length bytes) 240) (nat_lt 4096 (length bytes)) (number_at 236 4 bytes == cookie) (slice_index bytes 0 == 1 || slice_index bytes 0 == 2) is where
  by : (short long same known : Bool) → (if short then Err wire.Short else if long then Err wire.Long else if not same then Err wire.Cookie else if known then Ok (header_of bytes) else Err wire.BadOp) ≡ Ok header → header_of bytes ≡ header
  by true long same known is = let none : ⊥ = cc in absurd none
  by false true same known is = let none : ⊥ = cc in absurd none
  by false false false known is = let none : ⊥ = cc in absurd none
  by false false true false is = let none : ⊥ = cc in absurd none
  by false false true true is = cc

byte_at : (xs : List ℕ) (i : ℕ) → AreBytes xs → slice_index xs i < 256
byte_at [] i a = omega arith
byte_at (x ∷ xs) zero a = a.0
byte_at (x ∷ xs) (suc i) a = byte_at xs i a.1

two_short : (xs : List ℕ) → AreBytes xs → slice_index xs 0 * 256 ^ 1 + (slice_index xs 1 * 256 ^ 0 + 0) < 2 ^ 16
two_short xs a =
    let b0 = byte_at xs 0 a in
    let b1 = byte_at xs 1 a in
    omega (arith, b0, b1)

four_short : (xs : List ℕ) → AreBytes xs → slice_index xs 0 * 256 ^ 3 + (slice_index xs 1 * 256 ^ 2 + (slice_index xs 2 * 256 ^ 1 + (slice_index xs 3 * 256 ^ 0 + 0))) < 2 ^ 32
four_short xs a =
    let b0 = byte_at xs 0 a in
    let b1 = byte_at xs 1 a in
    let b2 = byte_at xs 2 a in
    let b3 = byte_at xs 3 a in
    omega (arith, b0, b1, b2, b3)

-- bytes at an offset are a field
field_at : (i n : ℕ) (bytes : List ℕ) → AreBytes bytes → i + n ≤ length bytes → IsField n (bytes_at i n bytes)
field_at i n bytes a le = record {
  size = let e = length-take (i + n - i) (drop i bytes) in let d = length-drop i bytes in omega (arith, e, d, le);
  bytes_are = range_bytes n i bytes a;
}

-- the header of enough bytes has its fields
fields_of : (bytes : List ℕ) → AreBytes bytes → 240 ≤ length bytes → IsHeader (header_of bytes)
unfolding header_of
fields_of bytes a le = record {
  op = byte_at bytes 0 a;
  htype = byte_at bytes 1 a;
  hlen = byte_at bytes 2 a;
  hops = byte_at bytes 3 a;
  xid = four_short (bytes_at 4 4 bytes) (range_bytes 4 4 bytes a);
  secs = two_short (bytes_at 8 2 bytes) (range_bytes 2 8 bytes a);
  flags = two_short (bytes_at 10 2 bytes) (range_bytes 2 10 bytes a);
  ciaddr = four_short (bytes_at 12 4 bytes) (range_bytes 4 12 bytes a);
  yiaddr = four_short (bytes_at 16 4 bytes) (range_bytes 4 16 bytes a);
  siaddr = four_short (bytes_at 20 4 bytes) (range_bytes 4 20 bytes a);
  giaddr = four_short (bytes_at 24 4 bytes) (range_bytes 4 24 bytes a);
  chaddr = field_at 28 16 bytes a (omega (arith, le));
  sname = field_at 44 64 bytes a (omega (arith, le));
  file = field_at 108 128 bytes a (omega (arith, le));
}

-- a message's header has its fields
header_fields : (m : Seen) → IsMessage m → IsHeader m.header
header_fields m is = subst IsHeader (header_is is.datagram m.header is.reads.header) (fields_of is.datagram is.bytes_are (least is.datagram m.header is.reads.header))

-- a message's datagram has at most 4,096 bytes
pub len_short : (m : Seen) → IsMessage m → m.len ≤ 4096
len_short m is = let most = room is.datagram m.header is.reads.header in omega (arith, most, is.reads.len)

-- what holds of the pieces of all areas
pieces_hold : (bytes : List ℕ) (ps : List Piece) → AreBytes bytes → length bytes ≤ 4096 → AreasInUse bytes ps → Holds 4096 ps
pieces_hold bytes ps a most areas =
    let one = area_holds (options_field bytes) areas.field (all_drop 240 bytes a) areas.field_is in
    let two = area_if_holds (uses_file (value_of 52 (options_of areas.field))) (file_field bytes) areas.file (range_bytes 128 108 bytes a) areas.file_is in
    let three = area_if_holds (uses_sname (value_of 52 (options_of areas.field))) (sname_field bytes) areas.sname (range_bytes 64 44 bytes a) areas.sname_is in
    let first = length-drop 240 bytes in
    let second = range_size 128 108 bytes in
    let third = range_size 64 44 bytes in
    let sum = total-append (areas.field ++ areas.file) areas.sname in
    let rest = total-append areas.field areas.file in
    let P : List Piece → Type 0 = Holds 4096 in
    subst P (sym areas.in_order) (omega (arith, one.0, two.0, three.0, first, second, third, sum, rest, most), have-append (areas.field ++ areas.file) areas.sname (have-append areas.field areas.file one.1 two.1) three.1)

-- a value that an option of a message can have
abbrev IsValue : List ℕ → Type 0
IsValue value = (length value ≤ 4096) × AreBytes value

value_is : (m : Seen) → IsMessage m → (code : ℕ) → MatchOption (value_of code m.options) (Unit {0}) IsValue
value_is m is code =
    let hold = pieces_hold is.datagram is.reads.options.pieces is.bytes_are (room is.datagram m.header is.reads.header) is.reads.options.in_use in
    let P : List Piece → Type 0 = λ os. MatchOption (value_of code os) (Unit {0}) IsValue in
    subst P (sym is.reads.options.joins) (looked_up IsValue code is.reads.options.pieces (codes is.reads.options.pieces) (λ c. let h = joined_holds c is.reads.options.pieces hold.1 in (omega (arith, h.0, hold.0), h.1)))

-- an option of a message has at most 4,096 bytes
value_short : (m : Seen) → IsMessage m → (code : ℕ) → IfSome (value_of code m.options) (λ value. length value ≤ 4096)
value_short m is code = by (value_of code m.options) (value_is m is code) where
  by : (o : Option (List ℕ)) → MatchOption o (Unit {0}) IsValue → IfSome o (λ value. length value ≤ 4096)
  by None h = tt
  by (Some value) h = h.0

subs_short : (skip : ℕ) (bytes : List ℕ) (code : ℕ) → AreBytes bytes → MatchOption (lookup (nat_eq code) (subs_from skip bytes)) (Unit {0}) (λ value. length value ≤ 255)
unfolding subs_from
subs_short skip [] code a = tt
subs_short (suc skip) (b ∷ bytes) code a = subs_short skip bytes code a.1
subs_short zero (c ∷ []) code a = tt
subs_short zero (c ∷ n ∷ bytes) code a = by (nat_eq code c) (subs_short n bytes code a.1.1) where
  by : (b : Bool) → MatchOption (lookup (nat_eq code) (subs_from n bytes)) (Unit {0}) (λ value. length value ≤ 255) → MatchOption (if b then Some (take n bytes) else lookup (nat_eq code) (subs_from n bytes)) (Unit {0}) (λ value. length value ≤ 255)
  by true rest = let e = length-take n bytes in let byte : n < 256 = a.1.0 in omega (arith, e, byte)
  by false rest = rest

-- a sub-option of a message's relay information has at most 255 bytes
relay_short : (m : Seen) → IsMessage m → (code : ℕ) → IfSome (lookup (nat_eq code) (relay_list m.options)) (λ value. length value ≤ 255)
relay_short m is code = by (value_of 82 m.options) (value_is m is 82) where
  by : (o : Option (List ℕ)) → MatchOption o (Unit {0}) IsValue → MatchOption (lookup (nat_eq code) (sub_options_in o)) (Unit {0}) (λ value. length value ≤ 255)
  by None h = tt
  by (Some value) h = whole (are_whole_from 0 value) (subs_short 0 value code h.1) where
    whole : (b : Bool) → MatchOption (lookup (nat_eq code) (subs_from 0 value)) (Unit {0}) (λ value. length value ≤ 255) → MatchOption (lookup (nat_eq code) (if b then subs_from 0 value else [])) (Unit {0}) (λ value. length value ≤ 255)
    whole true h = h
    whole false h = tt

-- each message has its sizes
pub has_sizes : MessagesHaveSizes
has_sizes m is = record {
  fields = header_fields m is;
  datagram = len_short m is;
  kind = is.reads.readable.kind;
  option = value_short m is;
  sub_option = relay_short m is;
}
