-- The newest row of a client in a state is the first from where these rows begin in the age order.
use Rattle.std.proofs.Common.{◌≡◌, ℕ, ◌+◌, ◌-◌, ◌<◌, ◌≤◌, ◌^◌, Bool, true, false, ◌&&◌, ◌||◌, ◌==◌, not, nat_eq, nat_lt, List, length, get_or, refl, sym, ap, ◌∙◌, subst, Option, Some, None, is_some, ⊎_elim, arith}
use Rattle.std.specs.Cmp.Lexicographic.{bytes_decides, pointwise, slice_cmp}
use Rattle.std.specs.List.{All}
use Rattle.std.specs.Ordering.{is_lt, nat_cmp, ordering_then}
use Rattle.std.specs.declared.cmp.Ordering.{Ordering}
use Rattle.std.specs.declared.cmp.Ordering.TheVariants.{Less, Equal, Greater}
use Rattle.std.proofs.lemmas.Bool.{cases_Bool, cases_eq, cases_lt, eqb-true, eq-eqb, false≢true}
use Rattle.std.proofs.lemmas.Bool.Decides.{nat_tests}
use Rattle.std.proofs.lemmas.Map.Lookups.{exact_bytes, exact_unsigned}
use Rattle.std.proofs.lemmas.Option.{same_Some}
use Rattle.kd_rows.specs.declared.age.Age.{Age}
use Rattle.kd_rows.specs.declared.row.Row.{Row}
use Rattle.kd_rows.specs.Ages.{IsAgeFrom, IsAgeStart, is_between, is_of_place, key_of_age}
use Rattle.kd_rows.specs.Index.{IsKeyBelow, IsIndex, IsKeyPlace, age_at, age_key, age_of, key_order, order_in}
use Rattle.kd_rows.specs.Zones.{group_in, is_in_group}
use Rattle.kd_rows.specs.Row.{IsInRange}
use Rattle.kd_rows.specs.Table.{IsNewestRow, is_after, is_newer_row, row_at}
use Rattle.kd_rows.proofs.Ages.{age_key_order, comes_first, same_group}
use Rattle.kd_rows.proofs.Bounds.{row_all}
use Rattle.kd_rows.proofs.Keys.{Stands, listed_at}

-- the position after a row, from the greatest time of all
abbrev IsAfterAt : ℕ → Option Row → ℕ → ℕ → Type 0
IsAfterAt m None left address = (left ≡ 0) × (address ≡ 0)
IsAfterAt m (Some row) left address = (left + row.changed ≡ m) × (address ≡ row.address + 1)

-- the seconds from the time at which a row was set to the greatest time
abbrev pub left_of : Row → ℕ
left_of row = 2 ^ 64 - 1 - row.changed

-- the row of the address at an index
abbrev pub IsThere : List Row → List ℕ → ℕ → Row → Type 0
IsThere rows ages i row = row_at rows (get_or ages i 0) ≡ Some row

-- the rows that are sought, in parts: of the client and the group, at the addresses, after another
-- row
pub aged_parts : (cuts : List ℕ) (client : List ℕ) (group : ℕ) (before : Option Row) (place : Age) (first last : ℕ) (row : Row) → IsAgeStart client group before place → is_in_group cuts client group first last before row ≡ (is_of_place cuts place row && (is_between first last row && is_after before row))
aged_parts cuts client group before place first last row start =
    sym (ap (λ (c : List ℕ). pointwise nat_eq row.client c && ((group_in cuts row == group) && (not (nat_lt row.address first) && (not (nat_lt last row.address) && is_after before row)))) start.owner)
    ∙ sym (ap (λ (s : ℕ). pointwise nat_eq row.client place.client.now && ((group_in cuts row == s) && (not (nat_lt row.address first) && (not (nat_lt last row.address) && is_after before row)))) start.kind)
    ∙ parts (pointwise nat_eq row.client place.client.now) (group_in cuts row == place.group) (not (nat_lt row.address first)) (not (nat_lt last row.address)) (is_after before row) where
      parts : (b s f l t : Bool) → (b && (s && (f && (l && t)))) ≡ ((b && s) && ((f && l) && t))
      parts true true true l t = refl
      parts true true false l t = refl
      parts true false f l t = refl
      parts false s f l t = refl

-- the key of a row of the client and the group
of_key : (cuts : List ℕ) (place : Age) (row : Row) → is_of_place cuts place row ≡ true → age_of cuts row ≡ age_key place.client.now place.group (left_of row)
of_key cuts place row is = by (pointwise nat_eq row.client place.client.now) refl is where
  by : (b : Bool) → pointwise nat_eq row.client place.client.now ≡ b → (b && (group_in cuts row == place.group)) ≡ true → age_of cuts row ≡ age_key place.client.now place.group (left_of row)
  by true e h =
      let c : row.client ≡ place.client.now = (bytes_decides row.client place.client.now).0 e in
      let s : group_in cuts row ≡ place.group = eqb-true (group_in cuts row) place.group h in
      ap (λ (xs : List ℕ). age_key xs (group_in cuts row) (left_of row)) c ∙ ap (λ (n : ℕ). age_key place.client.now n (left_of row)) s
  by false e h = absurd (false≢true h)

key_there : (cuts : List ℕ) (rows : List Row) (ages : List ℕ) (i : ℕ) (row : Row) → IsThere rows ages i row → age_at cuts rows (get_or ages i 0) ≡ (age_of cuts row, get_or ages i 0)
key_there cuts rows ages i row there = ap (λ (o : Option Row). (order_in (age_of cuts) o, get_or ages i 0)) there

-- a row comes after another if it does not come before the position after that row
after_from : (m : ℕ) (before : Option Row) (row : Row) (left address : ℕ) → IsAfterAt m before left address → row.changed ≤ m → is_after before row ≡ not (comes_first (m - row.changed) row.address left address)
after_from m None row left address h low =
    let l = h.0 in
    let a = h.1 in
    grind (arith, nat_tests)
after_from m (Some before) row left address h low =
    let l = h.0 in
    let a = h.1 in
    grind (arith, nat_tests)

from_at : (before : Option Row) (left address : ℕ) → IsAgeFrom before left address → IsAfterAt (2 ^ 64 - 1) before left address
from_at None left address h = h
from_at (Some row) left address h = h

-- of two rows, if the first comes before the second in the age order, the second is not newer
older : (m c d a b : ℕ) → c ≤ m → d ≤ m → comes_first (m - c) a (m - d) b ≡ true → (nat_lt c d || ((d == c) && nat_lt b a)) ≡ false
older m c d a b l r h = grind (arith, nat_tests)

-- what is true of the index where a walk begins
pub record Walk (cuts : List ℕ) (rows : List Row) (ages : List ℕ) (from : Age) (start : ℕ) : Type 0 where
  pub indexed : IsIndex (age_of cuts) rows ages
  pub ranged : All IsInRange rows
  pub begins : IsKeyPlace (age_at cuts rows) ages (key_of_age from) start

-- what a walk maintains: no row that was passed is at the addresses
pub record Passed (rows : List Row) (ages : List ℕ) (start place first last : ℕ) : Type 0 where
  pub order : start ≤ place
  pub others : (i : ℕ) (row : Row) → start ≤ i → i < place → IsThere rows ages i row → is_between first last row ≡ false

-- a row in range was set early
early : (rows : List Row) (a : ℕ) (row : Row) → All IsInRange rows → row_at rows a ≡ Some row → row.changed ≤ 2 ^ 64 - 1
early rows a row ranged there = let h = (row_all IsInRange rows a row ranged there).0.set_at in omega arith

address_there : (rows : List Row) (a : ℕ) (row : Row) → row_at rows a ≡ Some row → row.address ≡ a
address_there rows a row there = (row_all (λ (r : Row). Unit {0}) rows a row (λ k d within. tt) there).1

-- the key at an index where a row of the client and the group is
key_is : (cuts : List ℕ) (rows : List Row) (ages : List ℕ) (from : Age) (i : ℕ) (row : Row) → IsThere rows ages i row → is_of_place cuts from row ≡ true → age_at cuts rows (get_or ages i 0) ≡ (age_key from.client.now from.group (left_of row), row.address)
key_is cuts rows ages from i row there is =
    key_there cuts rows ages i row there ∙ ap (λ (xs : List ℕ). (xs, get_or ages i 0)) (of_key cuts from row is)
    ∙ ap (λ (a : ℕ). (age_key from.client.now from.group (left_of row), a)) (sym (address_there rows (get_or ages i 0) row there))

-- whether it comes before the position from which the sought rows begin
before_from : (cuts : List ℕ) (rows : List Row) (ages : List ℕ) (from : Age) (i : ℕ) (row : Row) → IsThere rows ages i row → is_of_place cuts from row ≡ true → is_lt (key_order (age_at cuts rows (get_or ages i 0)) (key_of_age from)) ≡ comes_first (left_of row) row.address from.left from.address
before_from cuts rows ages from i row there is =
    ap (λ (k : List ℕ × ℕ). is_lt (key_order k (key_of_age from))) (key_is cuts rows ages from i row there is)
    ∙ same_group from.client.now from.group (left_of row) from.left row.address from.address

-- and so whether it comes after the row after which they are sought
after_is : (cuts : List ℕ) (rows : List Row) (ages : List ℕ) (from : Age) (start i : ℕ) (client : List ℕ) (group : ℕ) (before : Option Row) (row : Row) → Walk cuts rows ages from start → IsAgeStart client group before from → IsThere rows ages i row → is_of_place cuts from row ≡ true → is_after before row ≡ not (is_lt (key_order (age_at cuts rows (get_or ages i 0)) (key_of_age from)))
after_is cuts rows ages from start i client group before row walk begin there is =
    after_from (2 ^ 64 - 1) before row from.left from.address (from_at before from.left from.address begin.from) (early rows (get_or ages i 0) row walk.ranged there)
    ∙ ap not (sym (before_from cuts rows ages from i row there is))

-- one part that fails
last_fails : (o b t : Bool) → (o ≡ true → t ≡ false) → (o && (b && t)) ≡ false
last_fails true true t h = h refl
last_fails true false t h = refl
last_fails false b t h = refl

middle_fails : (o b t : Bool) → b ≡ false → (o && (b && t)) ≡ false
middle_fails true b t h = rw h refl
middle_fails false b t h = refl

all_hold : (o b t : Bool) → o ≡ true → b ≡ true → t ≡ true → (o && (b && t)) ≡ true
all_hold true true true f g h = refl
all_hold false b t f g h = f
all_hold true false t f g h = g
all_hold true true false f g h = h

-- no row before the start is sought
not_before : (cuts : List ℕ) (rows : List Row) (ages : List ℕ) (from : Age) (start first last i : ℕ) (client : List ℕ) (group : ℕ) (before : Option Row) (row : Row) → Walk cuts rows ages from start → IsAgeStart client group before from → i < start → IsThere rows ages i row → is_in_group cuts client group first last before row ≡ false
not_before cuts rows ages from start first last i client group before row walk begin low there =
    aged_parts cuts client group before from first last row begin
    ∙ last_fails (is_of_place cuts from row) (is_between first last row) (is_after before row) (λ is. after_is cuts rows ages from start i client group before row walk begin there is ∙ ap (λ (o : Ordering). not (is_lt o)) (walk.begins.below i low))

-- nor any that was passed
passed_none : (cuts : List ℕ) (rows : List Row) (ages : List ℕ) (from : Age) (start place first last i : ℕ) (client : List ℕ) (group : ℕ) (before : Option Row) (row : Row) → Walk cuts rows ages from start → IsAgeStart client group before from → Passed rows ages start place first last → i < place → IsThere rows ages i row → is_in_group cuts client group first last before row ≡ false
passed_none cuts rows ages from start place first last i client group before row walk begin passed low there = ⊎_elim
    (λ l. not_before cuts rows ages from start first last i client group before row walk begin l there)
    (λ l. aged_parts cuts client group before from first last row begin ∙ middle_fails (is_of_place cuts from row) (is_between first last row) (is_after before row) (passed.others i row l low there))
    (cases_lt i start)

-- if the first of two keys is not below one but below another, client and state are equal
tied : (o p q r t u : Ordering) → (ordering_then (ordering_then o (ordering_then p q)) r ≡ Less → ⊥) → ordering_then (ordering_then o (ordering_then p t)) u ≡ Less → (o ≡ Equal) × (p ≡ Equal)
tied Less p q r t u h g = absurd (h refl)
tied Equal Less q r t u h g = absurd (h refl)
tied Equal Equal q r t u h g = (refl, refl)
tied Equal Greater q r t u h g = cc
tied Greater p q r t u h g = cc

-- a key that is not below one key of a client and a group, but below another, belongs to both
same_of : (c d : List ℕ) (s u t v w a b e : ℕ) → (IsKeyBelow (age_key c s t, a) (age_key d u v, b) → ⊥) → IsKeyBelow (age_key c s t, a) (age_key d u w, e) → (c ≡ d) × (s ≡ u)
same_of c d s u t v w a b e not_first second =
    let h = tied (slice_cmp nat_cmp c d) (nat_cmp s u) (nat_cmp t v) (nat_cmp a b) (nat_cmp t w) (nat_cmp a e) (λ l. not_first (age_key_order c d s u t v a b ∙ l)) (sym (age_key_order c d s u t w a e) ∙ second) in
    (exact_bytes c d h.0, exact_unsigned s u h.1)

-- after a row of another client or group none of theirs follows
none_behind : (cuts : List ℕ) (rows : List Row) (ages : List ℕ) (from : Age) (start i j : ℕ) (row other : Row) → Walk cuts rows ages from start → start ≤ i → i < j → j < length ages → IsThere rows ages i row → IsThere rows ages j other → is_of_place cuts from row ≡ false → is_of_place cuts from other ≡ false
none_behind cuts rows ages from start i j row other walk after order within here there out =
    ⊎_elim (λ own. absurd (false≢true (sym out ∙ of_both (same own)))) (λ e. e) (cases_Bool (is_of_place cuts from other)) where
      key : age_at cuts rows (get_or ages i 0) ≡ (age_key row.client (group_in cuts row) (left_of row), get_or ages i 0)
      key = key_there cuts rows ages i row here

      same : is_of_place cuts from other ≡ true → (row.client ≡ from.client.now) × (group_in cuts row ≡ from.group)
      same own = same_of row.client from.client.now (group_in cuts row) from.group (left_of row) from.left (left_of other) (get_or ages i 0) from.address other.address
          (λ h. walk.begins.above i after (omega arith) (subst (λ (k : List ℕ × ℕ). IsKeyBelow k (key_of_age from)) (sym key) h))
          (subst (λ (k : List ℕ × ℕ). IsKeyBelow k (age_key from.client.now from.group (left_of other), other.address)) key (subst (λ (k : List ℕ × ℕ). IsKeyBelow (age_at cuts rows (get_or ages i 0)) k) (key_is cuts rows ages from j other there own) (walk.indexed.rising i j order within)))

      of_both : (row.client ≡ from.client.now) × (group_in cuts row ≡ from.group) → is_of_place cuts from row ≡ true
      of_both h = rw ((bytes_decides row.client from.client.now).1 h.0) (eq-eqb (group_in cuts row) from.group h.1)

-- an existing row is at an index
stands : (cuts : List ℕ) (rows : List Row) (ages : List ℕ) (from : Age) (start a : ℕ) (row : Row) → Walk cuts rows ages from start → row_at rows a ≡ Some row → (i : ℕ) × (i < length ages) × IsThere rows ages i row
stands cuts rows ages from start a row walk there = by (listed_at ages a (walk.indexed.same a ∙ ap is_some there)) where
  by : Stands ages a → (i : ℕ) × (i < length ages) × IsThere rows ages i row
  by s = (s.place, s.within, subst (λ (x : ℕ). row_at rows x ≡ Some row) (sym s.here) there)

-- if the walk ends, no row is sought
pub none_at_end : (cuts : List ℕ) (rows : List Row) (ages : List ℕ) (from : Age) (start place first last : ℕ) (client : List ℕ) (group : ℕ) (before : Option Row) → Walk cuts rows ages from start → IsAgeStart client group before from → Passed rows ages start place first last → length ages ≤ place → IsNewestRow rows (is_in_group cuts client group first last before) None
none_at_end cuts rows ages from start place first last client group before walk begin passed all = λ a row there.
    let s = stands cuts rows ages from start a row walk there in
    passed_none cuts rows ages from start place first last s.0 client group before row walk begin passed (omega (arith, s.1)) s.2

-- nor if it comes to a row of another client or group
pub none_left : (cuts : List ℕ) (rows : List Row) (ages : List ℕ) (from : Age) (start place first last : ℕ) (client : List ℕ) (group : ℕ) (before : Option Row) (here : Row) → Walk cuts rows ages from start → IsAgeStart client group before from → Passed rows ages start place first last → place < length ages → row_at rows here.address ≡ Some here → here.address ≡ get_or ages place 0 → is_of_place cuts from here ≡ false → IsNewestRow rows (is_in_group cuts client group first last before) None
none_left cuts rows ages from start place first last client group before here walk begin passed within found is out = λ a row at.
    let there : IsThere rows ages place here = subst (λ (x : ℕ). row_at rows x ≡ Some here) is found in
    let s = stands cuts rows ages from start a row walk at in
    ⊎_elim (λ l. passed_none cuts rows ages from start place first last s.0 client group before row walk begin passed l s.2)
    (λ l. aged_parts cuts client group before from first last row begin ∙ ap (λ (b : Bool). b && (is_between first last row && is_after before row)) (⊎_elim
    (λ e. let same : row ≡ here = same_Some row here (sym s.2 ∙ subst (λ (j : ℕ). IsThere rows ages j here) (sym e) there) in subst (λ (r : Row). is_of_place cuts from r ≡ false) (sym same) out)
    (λ n. none_behind cuts rows ages from start place s.0 here row walk passed.order (omega arith) s.1 there s.2 out)
    (cases_eq s.0 place)))
    (cases_lt s.0 place)

-- the first sought row from the start is the newest
pub newest_here : (cuts : List ℕ) (rows : List Row) (ages : List ℕ) (from : Age) (start place first last : ℕ) (client : List ℕ) (group : ℕ) (before : Option Row) (here : Row) → Walk cuts rows ages from start → IsAgeStart client group before from → Passed rows ages start place first last → place < length ages → row_at rows here.address ≡ Some here → here.address ≡ get_or ages place 0 → is_of_place cuts from here ≡ true → is_between first last here ≡ true → IsNewestRow rows (is_in_group cuts client group first last before) (Some here)
newest_here cuts rows ages from start place first last client group before here walk begin passed within found at is between = (found, sought, others) where
  there : IsThere rows ages place here
  there = subst (λ (x : ℕ). row_at rows x ≡ Some here) at found

  after : is_after before here ≡ true
  after = after_is cuts rows ages from start place client group before here walk begin there is ∙ by (key_order (age_at cuts rows (get_or ages place 0)) (key_of_age from)) (walk.begins.above place passed.order within) where
    by : (o : Ordering) → (o ≡ Less → ⊥) → not (is_lt o) ≡ true
    by Less h = absurd (h refl)
    by Equal h = refl
    by Greater h = refl

  sought : is_in_group cuts client group first last before here ≡ true
  sought = aged_parts cuts client group before from first last here begin ∙ all_hold (is_of_place cuts from here) (is_between first last here) (is_after before here) is between after

  others : (a : ℕ) (other : Row) → row_at rows a ≡ Some other → is_in_group cuts client group first last before other ≡ true → is_newer_row other here ≡ false
  others a other at_a aged = by (stands cuts rows ages from start a other walk at_a) where
    of_other : is_of_place cuts from other ≡ true
    of_other = first_holds (is_of_place cuts from other) (is_between first last other && is_after before other) (sym (aged_parts cuts client group before from first last other begin) ∙ aged) where
      first_holds : (o b : Bool) → (o && b) ≡ true → o ≡ true
      first_holds true b h = refl
      first_holds false b h = h

    by : (i : ℕ) × (i < length ages) × IsThere rows ages i other → is_newer_row other here ≡ false
    by s = ⊎_elim
        (λ l. absurd (false≢true (sym (passed_none cuts rows ages from start place first last s.0 client group before other walk begin passed l s.2) ∙ aged)))
        (λ l. ⊎_elim
        (λ e. let same : other ≡ here = same_Some other here (sym s.2 ∙ subst (λ (j : ℕ). IsThere rows ages j here) (sym e) there) in subst (λ (r : Row). is_newer_row r here ≡ false) (sym same) (itself here.changed here.address))
        (λ n. older (2 ^ 64 - 1) here.changed other.changed here.address other.address (early rows here.address here walk.ranged found) (early rows a other walk.ranged at_a) (behind s (omega arith)))
        (cases_eq s.0 place))
        (cases_lt s.0 place) where
          itself : (c a : ℕ) → (nat_lt c c || ((c == c) && nat_lt a a)) ≡ false
          itself c a = grind (arith, nat_tests)

          behind : (s : (i : ℕ) × (i < length ages) × IsThere rows ages i other) → place < s.0 → comes_first (left_of here) here.address (left_of other) other.address ≡ true
          behind s order =
              sym (same_group from.client.now from.group (left_of here) (left_of other) here.address other.address)
              ∙ ap is_lt (subst (λ (k : List ℕ × ℕ). IsKeyBelow k (age_key from.client.now from.group (left_of other), other.address)) (key_is cuts rows ages from place here there is)
              (subst (λ (k : List ℕ × ℕ). IsKeyBelow (age_at cuts rows (get_or ages place 0)) k) (key_is cuts rows ages from s.0 other s.2 of_other) (walk.indexed.rising place s.0 order s.1)))

-- a walk begins
pub passed_first : (rows : List Row) (ages : List ℕ) (start first last : ℕ) → Passed rows ages start start first last
passed_first rows ages start first last = record { order = omega arith; others = λ i row low high there. absurd (omega arith) }
