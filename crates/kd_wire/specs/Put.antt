-- Bytes written over others at an offset, with nothing else changed.
use Rattle.std.specs.Prelude.{ℕ, ◌+◌, List, ◌++◌, length, take, drop}

-- these bytes are at this offset, and the bytes before and after them are the old ones
abbrev pub with_bytes_at : ℕ → List ℕ → List ℕ → List ℕ
with_bytes_at at bytes old = take at old ++ bytes ++ drop (at + length bytes) old
