-- Runs of addresses that all have rows.
use Rattle.std.proofs.Common.{◌≡◌, ℕ, ◌<◌, ◌≤◌, List, Option, Some, None, IsSome, arith, ap, length, get_or, is_some, ⊎_elim}
use Rattle.std.proofs.lemmas.Bool.{cases_lt}
use Rattle.std.proofs.lemmas.Bool.Decides.{nat_tests}
use Rattle.kd_rows.specs.Full.{AreFull}
use Rattle.kd_rows.specs.Table.{IsFirstGap, Rise, row_at, with_row}
use Rattle.kd_rows.specs.declared.full.Run.{Run}
use Rattle.kd_rows.specs.declared.row.Row.{Row}
use Rattle.kd_rows.proofs.Places.{is_at, read_at}
use Rattle.kd_rows.proofs.Sets.{row_at-with_row}

-- the address of an existing row has a row
pub has_at : (rows : List Row) (i : ℕ) (e : Row) → Rise rows → i < length rows → e ≡ get_or rows i e → IsSome (row_at rows e.address)
has_at rows i e rise within is = ap is_some ((is_at rows e.address i rise within (λ d. read_at rows i e d within is)).found e)

-- an address that had a row has one after a row is set
pub has_after : (row : Row) (rows : List Row) (a : ℕ) → IsSome (row_at rows a) → IsSome (row_at (with_row row rows) a)
has_after row rows a has = let h = row_at-with_row row rows a in grind (arith, nat_tests)

-- the address of the row that is set has a row
pub has_set : (row : Row) (rows : List Row) → IsSome (row_at (with_row row rows) row.address)
has_set row rows = let h = row_at-with_row row rows row.address in grind (arith, nat_tests)

-- runs stay full
pub full_after : (row : Row) (rows : List Row) (runs : List Run) → AreFull rows runs → AreFull (with_row row rows) runs
full_after row rows runs full = λ k d within a from to. has_after row rows a (full k d within a from to)

-- the first gap after addresses that have rows
pub gap_after : (rows : List Row) (first start last : ℕ) (gap : Option ℕ) → first ≤ start → ((a : ℕ) → first ≤ a → a < start → IsSome (row_at rows a)) → IsFirstGap rows start last gap → IsFirstGap rows first last gap
gap_after rows first start last None order before is = λ a from to. ⊎_elim (λ early. before a from early) (λ late. is a late to) (cases_lt a start)
gap_after rows first start last (Some gap) order before is =
    (omega (arith, is.0), is.1, is.2, λ a from to. ⊎_elim (λ early. before a from early) (λ late. is.3 a late to) (cases_lt a start))
