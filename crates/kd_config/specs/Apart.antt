-- Ranges that have no address in common.
use Rattle.std.specs.Prelude.{ℕ, Bool, true, not, ◌&&◌, ◌||◌, nat_le, List, [], ◌∷◌}
use Rattle.std.specs.List.{list_any}
use Rattle.kd_config.specs.declared.range.Range.{Range}

-- an address is in a range
abbrev pub has : Range → ℕ → Bool
has range address = nat_le range.first address && nat_le address range.last

-- two non-empty ranges share an address: one contains the first address of the other
abbrev pub share_one : Range → Range → Bool
share_one a b = has a b.first || has b a.first

-- no two ranges share an address; none of them is empty
abbrev pub lie_apart : List Range → Bool
lie_apart [] = true
lie_apart (r ∷ rs) = not (list_any (share_one r) rs) && lie_apart rs
