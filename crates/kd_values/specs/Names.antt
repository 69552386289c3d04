-- Domain names and classless routes in option data. A name is labels between dots, perhaps with a
-- dot behind it; its value is not compressed (RFC 1035 section 3.1). A route is `192.0.2.0/24 -
-- 192.0.2.1` (RFC 3442).
use Rattle.std.specs.Prelude.{ℕ, ◌==◌, ◌&&◌, nat_lt, if◌then◌else◌, List, [], ◌∷◌, ◌++◌, Option, Some, None, drop, length, take}
use Rattle.std.specs.List.{list_all, slice_split}
use Rattle.memchr.specs.Find.{is_byte}
use Rattle.kd_expr.specs.Lexing.{address_read}
use Rattle.kd_names.specs.Pieces.{bytes_of_bits, is_label, is_route}
use Rattle.kd_wire.specs.Steps.{◌>>=◌}
use Rattle.kd_values.specs.Numbers.{based_number}
use Rattle.kd_values.specs.Parts.{halves_at, trimmed, values_in}

-- a label after its length
abbrev pub label_spelled : List ℕ → Option (List ℕ)
label_spelled label =
    if is_label (length label ∷ label) then Some (length label ∷ label) else None

-- a text without a dot at its end
abbrev pub without_last_dot : List ℕ → List ℕ
without_last_dot [] = []
without_last_dot (b ∷ []) = if b == 46 then [] else b ∷ []
without_last_dot (b ∷ c ∷ text) = b ∷ without_last_dot (c ∷ text)

-- a name of at most 255 bytes: its labels and a zero
abbrev pub name_spelled : List ℕ → Option (List ℕ)
name_spelled text = do
  labels ← values_in label_spelled (slice_split (is_byte 46) (without_last_dot text))
  if nat_lt (length labels) 255 then Some (labels ++ 0 ∷ []) else None

-- a route of a prefix's address and its length in bits, and a router; no bit of the address is set
-- that the length does not reach
abbrev pub route_of_parts : List ℕ → ℕ → List ℕ → Option (List ℕ)
route_of_parts address bits router =
    if list_all (λ b. b == 0) (drop (bytes_of_bits bits) address)
    && is_route (bits ∷ take (bytes_of_bits bits) address ++ router)
    then Some (bits ∷ take (bytes_of_bits bits) address ++ router) else None

-- a route
unfoldable pub route_spelled : List ℕ → Option (List ℕ)
route_spelled text = do
  halves ← halves_at 45 text
  prefix ← halves_at 47 (trimmed halves.0)
  address ← address_read prefix.0
  bits ← based_number 10 33 prefix.1
  router ← address_read (trimmed halves.1)
  route_of_parts address bits router
