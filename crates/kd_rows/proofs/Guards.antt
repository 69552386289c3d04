-- A table with withheld addresses, after a row is set.
use Rattle.std.proofs.Common.{◌≡◌, ℕ, ◌+◌, ◌-◌, ◌<◌, ◌≤◌, min, Bool, true, false, not, ◌&&◌, ◌||◌, List, refl, sym, ap, ◌∙◌, subst, Option, Some, is_some, if◌then◌else◌, ◌==◌, nat_lt, arith}
use Rattle.std.proofs.lemmas.Bool.{eqb-true}
use Rattle.std.proofs.lemmas.Bool.Decides.{nat_tests}
use Rattle.kd_rows.specs.declared.row.Row.{Row}
use Rattle.kd_rows.specs.Index.{IsBound, IsBounded, IsLower, IsNow, block_number, end_at}
use Rattle.kd_rows.specs.Open.{AreBare, open_rows}
use Rattle.kd_rows.specs.Table.{Rise, row_at, with_row}
use Rattle.kd_rows.specs.Withheld.{is_withheld}
use Rattle.kd_rows.proofs.Bounds.{bounded_set, kept_is}
use Rattle.kd_rows.proofs.Opens.{open_with}
use Rattle.kd_rows.proofs.Sets.{row_at-with_row}

-- a withheld address that gets a row is no longer bare
pub bare_set : (row : Row) (rows : List Row) (withheld bare new : List ℕ) → AreBare rows withheld bare → ((a : ℕ) → is_withheld new a ≡ (not (row.address == a) && is_withheld bare a)) → AreBare (with_row row rows) withheld new
bare_set row rows withheld bare new old others a = others a ∙ ap (λ (b : Bool). not (row.address == a) && b) (old a) ∙ by (row.address == a) ∙ sym (ap (λ (o : Option Row). not (is_some o) && is_withheld withheld a) (row_at-with_row row rows a)) where
  by : (b : Bool) → (not b && (not (is_some (row_at rows a)) && is_withheld withheld a)) ≡ (not (is_some (if b then Some row else row_at rows a)) && is_withheld withheld a)
  by true = refl
  by false = refl

-- a row at an address that is not withheld changes none of them
pub bare_kept : (row : Row) (rows : List Row) (withheld bare : List ℕ) → AreBare rows withheld bare → is_withheld withheld row.address ≡ false → AreBare (with_row row rows) withheld bare
bare_kept row rows withheld bare old out a = old a ∙ by (row.address == a) refl ∙ sym (ap (λ (o : Option Row). not (is_some o) && is_withheld withheld a) (row_at-with_row row rows a)) where
  nothing : (b c : Bool) → (b && false) ≡ (c && false)
  nothing true true = refl
  nothing true false = refl
  nothing false true = refl
  nothing false false = refl

  by : (b : Bool) → (row.address == a) ≡ b → (not (is_some (row_at rows a)) && is_withheld withheld a) ≡ (not (is_some (if b then Some row else row_at rows a)) && is_withheld withheld a)
  by true e =
      let here : is_withheld withheld a ≡ false = ap (is_withheld withheld) (sym (eqb-true row.address a e)) ∙ out in
      rw here (nothing (not (is_some (row_at rows a))) false)
  by false e = refl

-- the bounds after a row is set that is not withheld
pub open_bounded : (withheld : List ℕ) (rows bounds : List Row) (row bound : Row) (held kept : Option ℕ) → Rise rows → is_withheld withheld row.address ≡ false → IsBounded (open_rows withheld rows) bounds → bound.address ≡ block_number row.address
    → held ≡ end_at bounds (block_number row.address) → IsLower held row.ends kept → IsNow (open_rows withheld (with_row row rows)) (block_number row.address) kept bound.ends → IsBounded (open_rows withheld (with_row row rows)) (with_row bound bounds)
open_bounded withheld rows bounds row bound held kept rise out old same is lower now =
    let e : open_rows withheld (with_row row rows) ≡ with_row row (open_rows withheld rows) = open_with withheld 0 rows row rise out in
    let there = subst (λ (xs : List Row). IsNow xs (block_number row.address) kept bound.ends) e now in
    let least = kept_is (open_rows withheld rows) bounds row held kept bound.ends old is lower there in
    subst (λ (xs : List Row). IsBounded xs (with_row bound bounds)) (sym e)
    (bounded_set (open_rows withheld rows) bounds row bound old same (subst (λ (n : ℕ). IsBound (with_row row (open_rows withheld rows)) n bound.ends) (sym same) least))

-- the room for new addresses after one takes its place
pub room_kept : (b : Bool) (room rows_room bounds_room left rows_left : ℕ) → room ≤ min rows_room bounds_room → left ≡ room - (if b then 0 else 1) → rows_left ≡ rows_room - (if b then 0 else 1) → left ≤ min rows_left bounds_room
room_kept true room rows_room bounds_room left rows_left enough one two = omega arith
room_kept false room rows_room bounds_room left rows_left enough one two = omega arith

-- what remains plus what a new address takes is what was there
pub room_back : (b : Bool) (room rows_room rows_left : ℕ) → room ≤ rows_room → (b || nat_lt 0 room) ≡ true → rows_left ≡ rows_room - (if b then 0 else 1) → rows_left + (if b then 0 else 1) ≡ rows_room
room_back true room rows_room rows_left enough spare one = omega arith
room_back false room rows_room rows_left enough spare one = let h : 0 < room = grind (arith, nat_tests) in omega arith
