-- The text of a reply: which items are kept (our own profile of RFC 2132 section 9.10 on room), and
-- how they are written (RFC 2131 section 2, RFC 2132 section 2, RFC 3396 section 6).
use Rattle.std.specs.Prelude.{ℕ, ◌+◌, ◌-◌, ◌*◌, ◌<◌, ◌≤◌, max, nat_le, List, [], ◌∷◌, ◌++◌, length, map, replicate, sum_by, if◌then◌else◌}
use Rattle.std.specs.Int.{div_ceil}
use Rattle.std.specs.List.{flat_map, range_with_len}
use Rattle.std.specs.Fork.{slice_chunk}
use Rattle.kd_wire.specs.Area.{Piece, piece, spelled}
use Rattle.kd_wire.specs.Header.{header_bytes}
use Rattle.kd_wire.specs.declared.header.Header.{Header}
use Rattle.kd_options.specs.declared.fault.WriteFault.{WriteFault}
use Rattle.kd_options.specs.declared.fault.WriteFault.TheVariants.{TooLong, Memory}
use Rattle.kd_options.specs.declared.item.Item.{Item}

-- how many pieces a value of n bytes has: pieces of 255 and a last one, and one for an empty value
abbrev pub piece_count : ℕ → ℕ
piece_count n = max 1 (div_ceil n 255)

-- what a value of n bytes costs: its bytes, and a code and a length for each piece
abbrev pub cost_of : ℕ → ℕ
cost_of n = n + 2 * piece_count n

-- what an item costs
abbrev pub item_cost : Item → ℕ
item_cost item = cost_of (length item.value)

-- what an item costs if it is obligatory
abbrev pub obligatory_cost : Item → ℕ
obligatory_cost item = if item.obligatory then item_cost item else 0

-- what an item costs if it may be left out
abbrev pub optional_cost : Item → ℕ
optional_cost item = if item.obligatory then 0 else item_cost item

-- what header, cookie and all obligatory items cost
abbrev pub base_cost : List Item → ℕ
base_cost items = 240 + sum_by obligatory_cost items

-- the items kept when this much is already used: always an obligatory item, another item if it fits
-- with an End
abbrev pub kept_from : ℕ → ℕ → List Item → List Item
kept_from used room [] = []
kept_from used room (item ∷ items) =
    if item.obligatory then item ∷ kept_from used room items
    else if nat_le (used + item_cost item + 1) room then item
    ∷ kept_from (used + item_cost item) room items
    else kept_from used room items

-- the kept items: all obligatory ones, and each other item that fits beside them and those kept
-- before it
abbrev pub kept : ℕ → List Item → List Item
kept room items = kept_from (base_cost items) room items

-- the obligatory items fit
abbrev pub ItemsFit : ℕ → List Item → Type 0
ItemsFit room items = base_cost items + 1 ≤ room

-- the first k pieces of a value: 255 bytes each, or the remaining bytes
abbrev pub first_pieces : ℕ → List ℕ → ℕ → List Piece
first_pieces code value k = map (λ j. (code, slice_chunk value 255 j)) (range_with_len 0 k)

-- the pieces of an item
abbrev pub pieces_of : Item → List Piece
pieces_of item = first_pieces item.code item.value (piece_count (length item.value))

-- the bytes of pieces
abbrev pub pieces_text : List Piece → List ℕ
pieces_text pieces = flat_map (λ p. spelled (piece p.0 p.1)) pieces

-- the bytes of items
abbrev pub items_text : List Item → List ℕ
items_text items = pieces_text (flat_map pieces_of items)

-- the bytes of the first k pieces
abbrev pub first_text : ℕ → List ℕ → ℕ → List ℕ
first_text code value k = pieces_text (first_pieces code value k)

-- a text with zeros up to 300 bytes
abbrev pub padded : List ℕ → List ℕ
padded text = text ++ replicate (300 - length text) 0

-- header and cookie, the kept items in order, End
abbrev pub unpadded : Header → ℕ → List Item → List ℕ
unpadded header room items = header_bytes header ++ (items_text (kept room items) ++ 255 ∷ [])

-- a reply's text: the same, with zeros up to 300 bytes
abbrev pub reply_text : Header → ℕ → List Item → List ℕ
reply_text header room items = padded (unpadded header room items)

-- what a fault of writing means: the obligatory items do not fit; out of memory comes only if they
-- do
abbrev pub IsWriteFault : ℕ → List Item → WriteFault → Type 0
IsWriteFault room items TooLong = room < base_cost items + 1
IsWriteFault room items Memory = ItemsFit room items
