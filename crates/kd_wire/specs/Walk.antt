-- The pieces of an area, computed byte by byte: what the iterator still has to give. Proofs tie
-- these two functions to the definition of an area's pieces; no public contract but the iterator's
-- own cites them.
use Rattle.std.specs.Prelude.{ℕ, zero, suc, Bool, true, false, List, [], ◌∷◌, ◌==◌, if◌then◌else◌, take}
use Rattle.kd_wire.specs.Area.{Piece}

-- the pieces in the bytes after the first `skip`
unfoldable pub pieces_from : ℕ → List ℕ → List Piece
pieces_from skip [] = []
pieces_from (suc skip) (b ∷ bytes) = pieces_from skip bytes
pieces_from zero (zero ∷ bytes) = pieces_from zero bytes
pieces_from zero (suc code ∷ []) = []
pieces_from zero (suc code ∷ n ∷ bytes) =
    if suc code == 255 then [] else (suc code, take n bytes) ∷ pieces_from n bytes

-- whether there are at least `skip` bytes and no option after them is cut off
unfoldable pub is_whole_from : ℕ → List ℕ → Bool
is_whole_from zero [] = true
is_whole_from (suc skip) [] = false
is_whole_from (suc skip) (b ∷ bytes) = is_whole_from skip bytes
is_whole_from zero (zero ∷ bytes) = is_whole_from zero bytes
is_whole_from zero (suc code ∷ []) = suc code == 255
is_whole_from zero (suc code ∷ n ∷ bytes) = if suc code == 255 then true else is_whole_from n bytes
