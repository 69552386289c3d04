-- The least end of rows.
use Rattle.std.proofs.Common.{◌≡◌, ℕ, ◌+◌, ◌<◌, ◌≤◌, List, [], ◌∷◌, ◌++◌, get_or, length, min, take, zero, suc, refl, ap, sym, ◌∙◌, arith}
use Rattle.std.specs.List.{All}
use Rattle.std.proofs.lemmas.List.{take_all, take_more}
use Rattle.kd_rows.specs.declared.row.Row.{Row}
use Rattle.kd_rows.specs.Table.{least_of}

least_more : (rows : List Row) (row : Row) → least_of (rows ++ row ∷ []) ≡ min row.ends (least_of rows)
least_more [] row = refl
least_more (r ∷ rows) row = let h = least_more rows row in omega arith

-- the least end with one more row
pub least_next : (rows : List Row) (i : ℕ) (row : Row) (least next : ℕ) → i < length rows → row ≡ get_or rows i row → least ≡ least_of (take i rows) → next ≡ min row.ends least → next ≡ least_of (take (i + 1) rows)
least_next rows i row least next within is so_far more =
    more ∙ ap (min row.ends) so_far ∙ sym (ap least_of (take_more rows i row within ∙ ap (λ (x : Row). take i rows ++ x ∷ []) (sym is)) ∙ least_more (take i rows) row)

-- the least end of all rows
pub least_last : (rows : List Row) (i least : ℕ) → length rows ≤ i → least ≡ least_of (take i rows) → least ≡ least_of rows
least_last rows i least all so_far = so_far ∙ ap least_of (take_all i rows all)

-- no row ends before it
pub least_bound : (rows : List Row) → All (λ (row : Row). least_of rows ≤ row.ends) rows
least_bound [] k d within = absurd (omega arith)
least_bound (r ∷ rows) zero d within = omega arith
least_bound (r ∷ rows) (suc k) d within = let h = least_bound rows k d (omega arith) in omega arith
