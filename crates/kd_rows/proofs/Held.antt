-- How long the rows of each state hold.
use Rattle.std.proofs.Common.{◌≡◌, ℕ, ◌+◌, ◌<◌, ◌≤◌, List, length, get_or, sym, ap, subst, ⊎_elim, ◌∙◌, arith}
use Rattle.std.specs.List.{All}
use Rattle.std.proofs.lemmas.Bool.{cases_lt}
use Rattle.std.proofs.lemmas.List.{get_or_default}
use Rattle.kd_rows.specs.declared.holds.Holds.{Holds}
use Rattle.kd_rows.specs.declared.row.Row.{Row}
use Rattle.kd_rows.specs.declared.row.State.{State}
use Rattle.kd_rows.specs.Holds.{AreHolds, IsLonger, hold_of}
use Rattle.kd_rows.specs.Table.{with_row}
use Rattle.kd_rows.proofs.Sets.{all-with_row}

-- a row that holds no longer than its state allows
abbrev pub IsHeld : Holds → Row → Type 0
IsHeld holds row = row.ends ≤ row.changed + hold_of holds row.state

longer : (old new : Holds) (row other : Row) → IsLonger old row new → IsHeld old other → IsHeld new other
longer old new row other more held = omega (arith, held, more.others other.state)

-- after a row is set
pub held_after : (row : Row) (rows : List Row) (old new : Holds) → AreHolds old rows → IsLonger old row new → AreHolds new (with_row row rows)
held_after row rows old new held more = all-with_row (IsHeld new) row rows more.own (λ k d within. longer old new row (get_or rows k d) more (held k d within))

-- the first rows and one more
pub held_more : (rows : List Row) (i : ℕ) (row : Row) (old new : Holds) → i < length rows → row ≡ get_or rows i row → IsLonger old row new → ((k : ℕ) (d : Row) → k < i → k < length rows → IsHeld old (get_or rows k d)) → (k : ℕ) (d : Row) → k < i + 1 → k < length rows → IsHeld new (get_or rows k d)
held_more rows i row old new inside is more held k d low within = ⊎_elim
    (λ l. longer old new row (get_or rows k d) more (held k d l within))
    (λ l. let e : k ≡ i = omega arith in
    let same : get_or rows k d ≡ row = ap (λ (j : ℕ). get_or rows j d) e ∙ get_or_default rows i d row inside ∙ sym is in
    subst (IsHeld new) (sym same) more.own)
    (cases_lt k i)

-- what holds of each row of a state
pub held_of : (rows : List Row) (holds : Holds) (state : State) (longest : ℕ) → AreHolds holds rows → longest ≡ hold_of holds state → All (λ (row : Row). row.state ≡ state → row.ends ≤ row.changed + longest) rows
held_of rows holds state longest held is k d within = λ same.
    let h = held k d within in
    let e = ap (hold_of holds) same in
    omega (arith, h, e, is)
