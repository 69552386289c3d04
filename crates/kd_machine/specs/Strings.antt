-- What the tokens on byte strings compute (our own choice where Kea's manual leaves room).
use Rattle.std.specs.Prelude.{ℕ, ℤ, pos, ◌-◌, ◌/◌, ◌%◌, ◌+◌, Bool, int_lt, nat_le, nat_lt, unsigned_abs, if◌then◌else◌, List, [], ◌∷◌, ◌++◌, length, take, drop, Option, Some, None}
use Rattle.std.specs.List.{flat_map}

-- a number below zero
abbrev pub is_negative : ℤ → Bool
is_negative z = int_lt z (pos 0)

-- where a substring begins in a string of `size` bytes: a negative start counts from the end; none
-- if it is before the first byte or not before the end
abbrev pub start_in : ℤ → ℕ → Option ℕ
start_in start size =
    if is_negative start then
    (if nat_le (unsigned_abs start) size then Some (size - unsigned_abs start) else None)
    else (if nat_lt (unsigned_abs start) size then Some (unsigned_abs start) else None)

-- the substring that begins at b: `count` bytes, or all to the end; a negative count takes the
-- bytes before b, without the byte at b
abbrev pub part : Option ℤ → ℕ → List ℕ → List ℕ
part None b bytes = drop b bytes
part (Some count) b bytes =
    if is_negative count then drop (b - unsigned_abs count) (take b bytes) else take
    (unsigned_abs count) (drop b bytes)

-- the substring that begins at b; empty if it begins nowhere
abbrev pub part_from : Option ℕ → Option ℤ → List ℕ → List ℕ
part_from None count bytes = []
part_from (Some b) count bytes = part count b bytes

-- the substring of a string by a start and a count
abbrev pub substring : ℤ → Option ℤ → List ℕ → List ℕ
substring start count bytes = part_from (start_in start (length bytes)) count bytes

-- a hexadecimal digit in lower case
abbrev pub lower_digit : ℕ → ℕ
lower_digit n = if nat_lt n 10 then 0x30 + n else 0x57 + n

-- the two digits of a byte
abbrev pub byte_digits : ℕ → List ℕ
byte_digits b = lower_digit (b / 16) ∷ lower_digit (b % 16) ∷ []

-- the two digits of each byte, with a separator between bytes
abbrev pub hex_of : List ℕ → List ℕ → List ℕ
hex_of separator [] = []
hex_of separator (b ∷ bytes) = byte_digits b ++ flat_map (λ c. separator ++ byte_digits c) bytes
