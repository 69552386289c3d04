-- The next address of a table is the next untaken one: the table skips no other addresses but
-- reserved ones.
use Rattle.std.proofs.Common.{◌≡◌, ℕ, ◌<◌, ◌≤◌, Bool, true, false, not, ◌&&◌, ◌||◌, List, Option, Some, None, is_none, is_some, option_map, refl, sym, ap, ◌∙◌, arith}
use Rattle.std.proofs.lemmas.Bool.{false≢true}
use Rattle.std.proofs.lemmas.Bool.Decides.{nat_tests}
use Rattle.kd_rows.specs.Table.{row_at}
use Rattle.kd_rows.specs.Withheld.{IsFirstFree, IsNextOpenEnded, is_taken, is_withheld}
use Rattle.kd_rows.specs.declared.row.Row.{Row}
use Rattle.kd_lease.specs.Choice.{Asking, has_such, live_row, reserved_anywhere}
use Rattle.kd_lease.specs.Seeking.{IsNextUntaken, is_vacant, untaken}
use Rattle.kd_lease.specs.Withholding.{WithholdsReserved}

-- an address with a row, or withheld
fresh_taken : (q : Asking) (xs : List ℕ) (a : ℕ) → WithholdsReserved q.config xs → is_taken q.rows xs a ≡ true → is_vacant q true a ≡ false
fresh_taken q xs a all h = by (row_at q.rows a) (reserved_anywhere q.config a) (ap (λ b. is_some (row_at q.rows a) || b) (sym (all a)) ∙ h) where
  by : (o : Option Row) (r : Bool) → (is_some o || r) ≡ true → (is_none o && not r) ≡ false
  by None true h = refl
  by None false h = absurd (false≢true h)
  by (Some row) r h = refl

free_row : (q : Asking) (xs : List ℕ) (a : ℕ) → is_taken q.rows xs a ≡ false → untaken q true a ≡ true
free_row q xs a h = by (row_at q.rows a) (is_withheld xs a) h where
  by : (o : Option Row) (r : Bool) → (is_some o || r) ≡ false → is_none o ≡ true
  by None r h = refl
  by (Some row) r h = absurd (false≢true (sym h))

pub free_next : (q : Asking) (xs : List ℕ) (first last : ℕ) (found : Option ℕ) → WithholdsReserved q.config xs → IsFirstFree q.rows xs first last found → IsNextUntaken q true first last found
free_next q xs first last None all h = λ a low high. fresh_taken q xs a all (h a low high)
free_next q xs first last (Some found) all h = (h.0, h.1, free_row q xs found h.2, λ a low less. fresh_taken q xs a all (h.3 a low less))

live : (q : Asking) (row : Row) → q.now < row.ends → not (live_row q.now row) ≡ false
live q row h = grind (arith, nat_tests)

ended : (q : Asking) (row : Row) → row.ends ≤ q.now → not (live_row q.now row) ≡ true
ended q row h = grind (arith, nat_tests)

-- an address without a row, or whose row has not ended, or that is reserved
closed : (q : Asking) (a : ℕ) → ((row : Row) → row_at q.rows a ≡ Some row → reserved_anywhere q.config a ≡ false → q.now < row.ends) → is_vacant q false a ≡ false
closed q a h = by (row_at q.rows a) (reserved_anywhere q.config a) h where
  drop : (t : Bool) → (t && false) ≡ false
  drop true = refl
  drop false = refl

  by : (o : Option Row) (r : Bool) → ((row : Row) → o ≡ Some row → r ≡ false → q.now < row.ends) → (has_such (λ row. not (live_row q.now row)) o && not r) ≡ false
  by None r h = refl
  by (Some row) true h = drop (not (live_row q.now row))
  by (Some row) false h = rw (live q row (h row refl refl)) refl

has_ended : (q : Asking) (row : Row) → row_at q.rows row.address ≡ Some row → row.ends ≤ q.now → untaken q false row.address ≡ true
has_ended q row there h = rw (there, ended q row h) refl

pub open_ended_next : (q : Asking) (xs : List ℕ) (first last : ℕ) (found : Option Row) → WithholdsReserved q.config xs → IsNextOpenEnded q.rows xs first last q.now found → IsNextUntaken q false first last (option_map (λ row. row.address) found)
open_ended_next q xs first last None all h = λ a low high. closed q a (λ row there out. h a row low high (all a ∙ out) there)
open_ended_next q xs first last (Some found) all h = (h.1, h.2, has_ended q found h.0 h.4, λ a low less. closed q a (λ row there out. h.5 a row low less (all a ∙ out) there))
