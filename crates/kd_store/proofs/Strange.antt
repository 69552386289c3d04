-- Rows in ascending order, and rows that are not the beginning of any table of leases.
use Rattle.std.proofs.Common.{◌≡◌, ◌⊎◌, inl, inr, ℕ, ℤ, pos, ◌+◌, ◌^◌, ◌<◌, ◌≤◌, List, [], ◌∷◌, ◌++◌, length, map, refl, sym, ap₂, subst, ◌∙◌, arith}
use Rattle.std.proofs.lemmas.List.{map_push}
use Rattle.std.proofs.lemmas.List.Elements.{All-head, All-tail}
use Rattle.std.specs.List.{All}
use Rattle.sqlite.specs.declared.types.Value.TheVariants.{Int}
use Rattle.sqlite.specs.Order.{Row as Columns, column}
use Rattle.kd_keeps.specs.declared.fault.Cause.TheVariants.{OutOfMemory}
use Rattle.kd_keeps.specs.declared.fault.StoreFault.{StoreFault}
use Rattle.kd_keeps.specs.declared.fault.StoreFault.TheVariants.{Schema, Sql}
use Rattle.kd_rows.specs.declared.row.Row.{Row}
use Rattle.kd_rows.specs.Row.{state_number}
use Rattle.kd_rows.specs.Table.{Rise, RiseFrom}
use Rattle.kd_store.specs.Lease.{columns_of}
use Rattle.kd_store.specs.Fault.{IsLease, IsStrange, first_five}
use Rattle.kd_store.specs.Statement.{IsNoRow, IsUnreadRow}
use Rattle.kd_store.proofs.Tables.{row_once, state_small}

-- the address after the last
abbrev pub end_of : ℕ → List Row → ℕ
end_of n [] = n
end_of n (row ∷ rows) = end_of (row.address + 1) rows

pub end_push : (n : ℕ) (rows : List Row) (row : Row) → end_of n (rows ++ row ∷ []) ≡ row.address + 1
end_push n [] row = refl
end_push n (y ∷ rows) row = end_push (y.address + 1) rows row

pub rise_push : (n : ℕ) (rows : List Row) (row : Row) → RiseFrom n rows → end_of n rows ≤ row.address → RiseFrom n (rows ++ row ∷ [])
rise_push n [] row rise le = (le, tt)
rise_push n (y ∷ rows) row rise le = (rise.0, rise_push (y.address + 1) rows row rise.1 le)

rise_end : (n : ℕ) (rows : List Row) (row : Row) → RiseFrom n (rows ++ row ∷ []) → end_of n rows ≤ row.address
rise_end n [] row rise = rise.0
rise_end n (y ∷ rows) row rise = rise_end (y.address + 1) rows row rise.1

-- there are at most as many rows as addresses below that one
pub length_end : (n : ℕ) (rows : List Row) → RiseFrom n rows → n + length rows ≤ end_of n rows
length_end n [] rise = omega arith
length_end n (y ∷ rows) rise =
    let rest = length_end (y.address + 1) rows rise.1 in
    let first : n ≤ y.address = rise.0 in
    omega arith

rows_once : (a b : List Row) → map columns_of a ≡ map columns_of b → a ≡ b
rows_once [] [] e = refl
rows_once [] (y ∷ b) e = absurd cc
rows_once (x ∷ a) [] e = absurd cc
rows_once (x ∷ a) (y ∷ b) e =
    let head : columns_of x ≡ columns_of y = cc in
    let tail : map columns_of a ≡ map columns_of b = cc in
    ap₂ (λ r rows. r ∷ rows) (row_once x y head) (rows_once a b tail)

no_last : (given : List Columns) (shown : Columns) → IsNoRow shown → (table : List Row) → All IsLease table → ¬ (map columns_of table ≡ map first_five (given ++ shown ∷ []))
no_last [] shown none [] all are = absurd cc
no_last [] shown none (row ∷ table) all are = none row (All-head IsLease row table all) cc
no_last (y ∷ given) shown none [] all are = absurd cc
no_last (y ∷ given) shown none (row ∷ table) all are = no_last given shown none table (All-tail IsLease row table all) cc

-- no table has columns that are not those of any lease
pub strange_row : (given : List Columns) (shown : Columns) → IsNoRow shown → IsStrange (given ++ shown ∷ [])
strange_row given shown none table rise all = no_last given shown none table all

-- nor a row after a row at its own address or a higher one
pub strange_order : (rows : List Row) (row : Row) (given : List Columns) (shown : Columns) → map columns_of rows ≡ map first_five given → columns_of row ≡ first_five shown → row.address < end_of 0 rows
    → IsStrange (given ++ shown ∷ [])
strange_order rows row given shown were is low table rise all are =
    let both : map columns_of (rows ++ row ∷ []) ≡ map first_five (given ++ shown ∷ []) =
    map_push columns_of rows row ∙ ap₂ (λ (a : List Columns) (b : Columns). a ++ b ∷ []) were is ∙ sym (map_push first_five given shown) in
    absurd (omega (arith, rise_end 0 rows row (subst Rise (rows_once table (rows ++ row ∷ []) (are ∙ sym both)) rise)))

-- ---- a third column that is not a number

there : (shown : Columns) (n : ℤ) → column shown 2 ≡ Int n → 2 < length shown
there [] n is = absurd cc
there (a ∷ []) n is = absurd cc
there (a ∷ b ∷ []) n is = absurd cc
there (a ∷ b ∷ c ∷ shown) n is = omega arith

pub no_number : (shown : Columns) (fault : StoreFault) → (fault ≡ Sql OutOfMemory) ⊎ ((fault ≡ Schema) × (2 < length shown → ¬ ((n : ℕ) × (column shown 2 ≡ Int (pos n)) × (n < 2 ^ 32)))) → IsUnreadRow shown fault
no_number shown fault (inl h) = inl h
no_number shown fault (inr h) = inr (
  h.0,
  λ row lease is.
      let third : column shown 2 ≡ Int (pos (state_number row.state)) = cc in
      h.1 (there shown (pos (state_number row.state)) third) (state_number row.state, third, state_small row.state),
)
