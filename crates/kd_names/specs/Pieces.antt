-- Domain names and classless routes in the value of an option. Both are pieces whose first byte
-- says how long they are.
use Rattle.std.specs.Prelude.{ℕ, zero, suc, ◌+◌, ◌-◌, ◌*◌, ◌/◌, ◌%◌, ◌^◌, ◌==◌, ◌&&◌, ◌||◌, not, nat_le, nat_lt, Bool, false, if◌then◌else◌, List, [], ◌∷◌, length, slice_index, take}
use Rattle.std.specs.List.{list_all}

-- bytes cut into pieces behind the first `skip` bytes: the first byte of a piece says by `extent`
-- how many bytes follow it; the last piece ends with the bytes
abbrev pub pieces_behind : (ℕ → ℕ) → ℕ → List ℕ → List (List ℕ)
pieces_behind extent skip [] = []
pieces_behind extent zero (b ∷ bytes) =
    (b ∷ take (extent b) bytes) ∷ pieces_behind extent (extent b) bytes
pieces_behind extent (suc skip) (b ∷ bytes) = pieces_behind extent skip bytes

-- ---- domain names (RFC 1035 section 3.1, without compression)

-- the labels of names, each after its length; the empty label, a zero, ends a name
abbrev pub labels_of : List ℕ → List (List ℕ)
labels_of value = pieces_behind (λ n. n) 0 value

-- a byte that a label may have: a printable one but for space, quotation mark, comma, dot and
-- backslash
abbrev pub is_label_byte : ℕ → Bool
is_label_byte b = nat_lt 32 b && nat_lt b 127 && not (b == 34 || b == 44 || b == 46 || b == 92)

-- a label after its length: 1 to 63 bytes that a label may have
abbrev pub is_label : List ℕ → Bool
is_label [] = false
is_label (n ∷ bytes) =
    nat_lt 0 n && nat_le n 63 && length bytes == n && list_all is_label_byte bytes

-- the empty label
abbrev pub is_end : List ℕ → Bool
is_end [] = false
is_end (n ∷ bytes) = n == 0

-- labels go on as names, after `size` bytes of a name: each name has a label or more and then the
-- empty one, at most 255 bytes in all
abbrev pub go_on_as_names : ℕ → List (List ℕ) → Bool
go_on_as_names size [] = size == 0
go_on_as_names size (label ∷ labels) =
    if is_end label then nat_lt 0 size && go_on_as_names 0 labels
    else is_label label && nat_lt (size + length label) 255
    && go_on_as_names (size + length label) labels

-- one or more names
abbrev pub are_names : List ℕ → Bool
are_names value = nat_lt 0 (length value) && go_on_as_names 0 (labels_of value)

-- ---- classless routes (RFC 3442)

-- how many bytes of an address the first bits reach
abbrev pub bytes_of_bits : ℕ → ℕ
bytes_of_bits bits = (bits + 7) / 8

-- the routes of a value: the length of the prefix in bits, the bytes of it that these bits reach,
-- and the four bytes of the router
abbrev pub routes_of : List ℕ → List (List ℕ)
routes_of value = pieces_behind (λ bits. bytes_of_bits bits + 4) 0 value

-- no bit of the last byte is set that the prefix does not reach
abbrev pub is_clear : ℕ → List ℕ → Bool
is_clear bits bytes =
    slice_index bytes (length bytes - 1) % 2 ^ (8 * length bytes - bits) == 0

-- a route: a prefix of at most 32 bits, clear behind them, and a router
abbrev pub is_route : List ℕ → Bool
is_route [] = false
is_route (bits ∷ bytes) =
    nat_le bits 32 && length bytes == bytes_of_bits bits + 4
    && is_clear bits (take (bytes_of_bits bits) bytes)

-- one or more routes
abbrev pub are_routes : List ℕ → Bool
are_routes value = nat_lt 0 (length value) && list_all is_route (routes_of value)
