-- Bytes cut into pieces.
use Rattle.std.proofs.Common.{◌≡◌, ◌∙◌, ℕ, zero, suc, ◌-◌, ◌<◌, List, [], ◌∷◌, drop, get_or, length, refl, ap, ap₂, arith, if◌then◌else◌, ne_eqb, sym, take}
use Rattle.std.specs.Prelude.{◌==◌}
use Rattle.std.proofs.lemmas.List.{drop_more, take_rest}
use Rattle.kd_names.specs.Pieces.{pieces_behind}
use Rattle.kd_names.specs.Values.{comma, comma_before}

-- behind bytes that are skipped
skipped : (extent : ℕ → ℕ) (skip : ℕ) (bytes : List ℕ) → pieces_behind extent skip bytes ≡ pieces_behind extent 0 (drop skip bytes)
skipped extent zero bytes = refl
skipped extent (suc skip) [] = refl
skipped extent (suc skip) (b ∷ bytes) = skipped extent skip bytes

-- bytes are a piece, and then others
pub piece_and_others : (extent : ℕ → ℕ) (b : ℕ) (bytes : List ℕ) → pieces_behind extent 0 (b ∷ bytes) ≡ (b ∷ take (extent b) bytes) ∷ pieces_behind extent 0 (drop (extent b) bytes)
piece_and_others extent b bytes = ap (λ others. (b ∷ take (extent b) bytes) ∷ others) (skipped extent (extent b) bytes)

-- bytes are the first one and the rest
pub first_and_rest : (bytes : List ℕ) → 0 < length bytes → get_or bytes 0 0 ∷ take (length bytes - 1) (drop 1 bytes) ≡ bytes
first_and_rest bytes some = ap (λ rest. get_or bytes 0 0 ∷ rest) (take_rest bytes 1) ∙ sym (drop_more bytes 0 0 some)

-- the first piece of bytes, and the bytes of the others
pub cut_first : (extent : ℕ → ℕ) (left piece behind : List ℕ) (count : ℕ) → 0 < length left → count ≡ extent (get_or left 0 0)
    → piece ≡ take count (take (length left - 1) (drop 1 left)) → behind ≡ drop count (take (length left - 1) (drop 1 left))
    → pieces_behind extent 0 left ≡ (get_or left 0 0 ∷ piece) ∷ pieces_behind extent 0 behind
cut_first extent left piece behind count some is front back =
    let rest = take (length left - 1) (drop 1 left) in
    sym (ap (pieces_behind extent 0) (first_and_rest left some))
    ∙ piece_and_others extent (get_or left 0 0) rest
    ∙ ap₂ (λ x y. (get_or left 0 0 ∷ x) ∷ pieces_behind extent 0 y) (ap (λ n. take n rest) (sym is) ∙ sym front) (ap (λ n. drop n rest) (sym is) ∙ sym back)

-- a comma stands before bytes, and none before their end
pub comma_is : (extent : ℕ → ℕ) (bytes : List ℕ) → comma_before (pieces_behind extent 0 bytes) ≡ (if length bytes == 0 then [] else comma)
comma_is extent [] = refl
comma_is extent (b ∷ bytes) = rw (ne_eqb (suc (length bytes)) 0 (λ e. absurd (omega (arith, e)))) refl
