-- The newest row over several zones.
use Rattle.std.proofs.Common.{◌≡◌, ℕ, ◌+◌, ◌*◌, ◌<◌, ◌≤◌, Bool, true, false, ◌&&◌, ◌||◌, ◌==◌, not, nat_lt, List, Option, Some, None, refl, sym, ap, ◌∙◌, ⊎_elim, arith, if◌then◌else◌}
use Rattle.std.proofs.lemmas.Bool.{cases_lt, or_cases, or_left, or_right, false≢true}
use Rattle.std.proofs.lemmas.Bool.Decides.{nat_tests}
use Rattle.kd_rows.specs.Row.{state_number}
use Rattle.kd_rows.specs.Table.{IsNewestRow, belongs_to, is_after, is_aged, is_newer_row, row_at}
use Rattle.kd_rows.specs.Zones.{IsNextZone, group_number, is_in_group, is_kind, newer_of_rows, zone_in}
use Rattle.kd_rows.specs.declared.row.Row.{Row}
use Rattle.kd_rows.specs.declared.row.State.{State}
use Rattle.kd_rows.proofs.Zoning.{zones_rise}

-- the newest row by one test is the newest by another test with the same results
pub newest_alike : (rows : List Row) (p r : Row → Bool) (best : Option Row) → ((a : ℕ) (row : Row) → row_at rows a ≡ Some row → r row ≡ p row) → IsNewestRow rows p best → IsNewestRow rows r best
newest_alike rows p r None same h = λ a row at. same a row at ∙ h a row at
newest_alike rows p r (Some f) same h = (h.0, same f.address f h.0 ∙ h.1, λ a row at is. h.2 a row at (sym (same a row at) ∙ is))

-- one of two is false
pub or_no : (t u : Bool) → t ≡ false → (t || u) ≡ u
or_no false u e = refl
or_no true u e = absurd (false≢true (sym e))

pub no_or : (t u : Bool) → u ≡ false → (t || u) ≡ t
no_or false u e = e
no_or true u e = refl

-- if x is not newer than y, and y not newer than z, x is not newer than z
newer_chain : (x y z : Row) → is_newer_row x y ≡ false → is_newer_row y z ≡ false → is_newer_row x z ≡ false
newer_chain x y z = by x.changed y.changed z.changed x.address y.address z.address where
  by : (l m n a b c : ℕ) → (nat_lt m l || ((l == m) && nat_lt a b)) ≡ false → (nat_lt n m || ((m == n) && nat_lt b c)) ≡ false → (nat_lt n l || ((l == n) && nat_lt a c)) ≡ false
  by l m n a b c h g = grind (arith, nat_tests)

newer_step : (x y z : Row) → is_newer_row x y ≡ false → is_newer_row z y ≡ true → is_newer_row x z ≡ false
newer_step x y z = by x.changed y.changed z.changed x.address y.address z.address where
  by : (l m n a b c : ℕ) → (nat_lt m l || ((l == m) && nat_lt a b)) ≡ false → (nat_lt m n || ((n == m) && nat_lt c b)) ≡ true → (nat_lt n l || ((l == n) && nat_lt a c)) ≡ false
  by l m n a b c h g = grind (arith, nat_tests)

-- the newer of the newest of two kinds is the newest of both
pub newest_of_two : (rows : List Row) (p r each : Row → Bool) (x y : Option Row) → ((a : ℕ) (row : Row) → row_at rows a ≡ Some row → each row ≡ (p row || r row)) → IsNewestRow rows p x → IsNewestRow rows r y → IsNewestRow rows each (newer_of_rows x y)
newest_of_two rows p r each None y same h g = newest_alike rows r each y (λ a row at. same a row at ∙ or_no (p row) (r row) (h a row at)) g
newest_of_two rows p r each (Some x) None same h g = newest_alike rows p each (Some x) (λ a row at. same a row at ∙ no_or (p row) (r row) (g a row at)) h
newest_of_two rows p r each (Some x) (Some y) same h g = by (is_newer_row y x) refl where
  by : (t : Bool) → is_newer_row y x ≡ t → IsNewestRow rows each (if t then Some y else Some x)
  by true e = (g.0, same y.address y g.0 ∙ or_right (p y) (r y) g.1, λ a row at is. ⊎_elim (λ k. newer_step row x y (h.2 a row at k) e) (g.2 a row at) (or_cases (p row) (r row) (sym (same a row at) ∙ is)))
  by false e = (h.0, same x.address x h.0 ∙ or_left (p x) (r x) h.1, λ a row at is. ⊎_elim (h.2 a row at) (λ k. newer_chain row y x (g.2 a row at k) e) (or_cases (p row) (r row) (sym (same a row at) ∙ is)))

-- the rows in the zones before one
abbrev pub is_aged_below : List ℕ → List ℕ → State → ℕ → ℕ → Option Row → ℕ → Row → Bool
is_aged_below cuts client state first last before zone row = is_aged client state first last before row && nat_lt (zone_in cuts row.address) zone

-- the state and the zone can be read from the number of a group
split : (s t z w : ℕ) → z < 4294967296 → w < 4294967296 → (s * 4294967296 + z == t * 4294967296 + w) ≡ ((s == t) && (z == w))
split s t z w low high = grind (arith, nat_tests)

zone_fits : (cuts : List ℕ) (a : ℕ) → zone_in cuts a < 4294967296
zone_fits cuts a = omega arith

pub grouped_is : (cuts client : List ℕ) (state : State) (zone first last : ℕ) (before : Option Row) (row : Row) → zone < 4294967296 → is_in_group cuts client (group_number state zone) first last before row ≡ (is_aged client state first last before row && (zone_in cuts row.address == zone))
grouped_is cuts client state zone first last before row fits =
    ap (λ (t : Bool). belongs_to client row && (t && (not (nat_lt row.address first) && (not (nat_lt last row.address) && is_after before row)))) (split (state_number row.state) (state_number state) (zone_in cuts row.address) zone (zone_fits cuts row.address) fits)
    ∙ by (belongs_to client row) (state_number row.state == state_number state) (zone_in cuts row.address == zone) (not (nat_lt row.address first) && (not (nat_lt last row.address) && is_after before row)) where
      by : (b s z t : Bool) → (b && ((s && z) && t)) ≡ ((b && (s && t)) && z)
      by true true true true = refl
      by true true true false = refl
      by true true false true = refl
      by true true false false = refl
      by true false z t = refl
      by false s z t = refl

-- an aged row is of its client and in its state, at addresses up to the last
pub aged_kind : (client : List ℕ) (state : State) (first last : ℕ) (before : Option Row) (row : Row) → is_aged client state first last before row ≡ true → (is_kind client state row ≡ true) × (first ≤ row.address) × (row.address ≤ last)
aged_kind client state first last before row = by (belongs_to client row) (state_number row.state == state_number state) (nat_lt row.address first) (nat_lt last row.address) (is_after before row) refl refl where
  by : (b s f l t : Bool) → nat_lt row.address first ≡ f → nat_lt last row.address ≡ l → (b && (s && (not f && (not l && t)))) ≡ true → ((b && s) ≡ true) × (first ≤ row.address) × (row.address ≤ last)
  by true true false false t e f h = (refl, (let g : first ≤ row.address = grind (arith, nat_tests) in g), (let g : row.address ≤ last = grind (arith, nat_tests) in g))
  by true true false true t e f h = absurd (false≢true h)
  by true true true l t e f h = absurd (false≢true h)
  by true false f l t e g h = absurd (false≢true h)
  by false s f l t e g h = absurd (false≢true h)

-- no row is in a zone before the first
pub none_below : (rows : List Row) (cuts client : List ℕ) (state : State) (first last zone : ℕ) (before : Option Row) → zone ≡ zone_in cuts first → IsNewestRow rows (is_aged_below cuts client state first last before zone) None
none_below rows cuts client state first last zone before is a row at = by (is_aged client state first last before row) refl where
  low : (t : Bool) → first ≤ row.address → nat_lt (zone_in cuts row.address) zone ≡ t → nat_lt (zone_in cuts row.address) zone ≡ false
  low t le e = let r : zone_in cuts first ≤ zone_in cuts row.address = zones_rise cuts first row.address le in grind (arith, nat_tests)

  by : (t : Bool) → is_aged client state first last before row ≡ t → (t && nat_lt (zone_in cuts row.address) zone) ≡ false
  by true e = low (nat_lt (zone_in cuts row.address) zone) (aged_kind client state first last before row e).1 refl
  by false e = refl

-- one more zone, and those up to the next in which there are rows
pub zone_more : (rows : List Row) (cuts client : List ℕ) (state : State) (first last zone next : ℕ) (before best found : Option Row) → zone < 4294967296
    → IsNewestRow rows (is_aged_below cuts client state first last before zone) best → IsNewestRow rows (is_in_group cuts client (group_number state zone) first last before) found
    → IsNextZone rows cuts client state zone (Some next) → IsNewestRow rows (is_aged_below cuts client state first last before next) (newer_of_rows best found)
zone_more rows cuts client state first last zone next before best found fits h g n = newest_of_two rows (is_aged_below cuts client state first last before zone) (is_in_group cuts client (group_number state zone) first last before) (is_aged_below cuts client state first last before next) best found each h g where
  pick : (m : ℕ) → (m < next → m ≤ zone) → nat_lt m next ≡ (nat_lt m zone || (m == zone))
  pick m k = let l : zone < next = n.0 in ⊎_elim
      (λ less. let e : m ≤ zone = k less in grind (arith, nat_tests))
      (λ more. grind (arith, nat_tests))
      (cases_lt m next)

  by : (t : Bool) (row : Row) → is_aged client state first last before row ≡ t → (t ≡ true → zone_in cuts row.address < next → zone_in cuts row.address ≤ zone) → (t && nat_lt (zone_in cuts row.address) next) ≡ ((t && nat_lt (zone_in cuts row.address) zone) || (t && (zone_in cuts row.address == zone)))
  by true row e k = pick (zone_in cuts row.address) (k refl)
  by false row e k = refl

  each : (a : ℕ) (row : Row) → row_at rows a ≡ Some row → is_aged_below cuts client state first last before next row ≡ (is_aged_below cuts client state first last before zone row || is_in_group cuts client (group_number state zone) first last before row)
  each a row at =
      by (is_aged client state first last before row) row refl (λ e. n.1 a row at (aged_kind client state first last before row e).0)
      ∙ ap (λ (t : Bool). is_aged_below cuts client state first last before zone row || t) (sym (grouped_is cuts client state zone first last before row fits))

-- all zones, if no row of the client in the state is in a later zone, or the addresses end
pub all_zones : (rows : List Row) (cuts client : List ℕ) (state : State) (first last zone : ℕ) (before best found : Option Row) → zone < 4294967296
    → IsNewestRow rows (is_aged_below cuts client state first last before zone) best → IsNewestRow rows (is_in_group cuts client (group_number state zone) first last before) found
    → ((a : ℕ) (row : Row) → row_at rows a ≡ Some row → is_kind client state row ≡ true → row.address ≤ last → zone_in cuts row.address ≤ zone)
    → IsNewestRow rows (is_aged client state first last before) (newer_of_rows best found)
all_zones rows cuts client state first last zone before best found fits h g last_zone = newest_of_two rows (is_aged_below cuts client state first last before zone) (is_in_group cuts client (group_number state zone) first last before) (is_aged client state first last before) best found each h g where
  pick : (m : ℕ) → m ≤ zone → true ≡ (nat_lt m zone || (m == zone))
  pick m le = grind (arith, nat_tests)

  by : (t : Bool) (row : Row) → is_aged client state first last before row ≡ t → (t ≡ true → zone_in cuts row.address ≤ zone) → t ≡ ((t && nat_lt (zone_in cuts row.address) zone) || (t && (zone_in cuts row.address == zone)))
  by true row e k = pick (zone_in cuts row.address) (k refl)
  by false row e k = refl

  each : (a : ℕ) (row : Row) → row_at rows a ≡ Some row → is_aged client state first last before row ≡ (is_aged_below cuts client state first last before zone row || is_in_group cuts client (group_number state zone) first last before row)
  each a row at =
      by (is_aged client state first last before row) row refl (λ e. let k = aged_kind client state first last before row e in last_zone a row at k.0 k.2)
      ∙ ap (λ (t : Bool). is_aged_below cuts client state first last before zone row || t) (sym (grouped_is cuts client state zone first last before row fits))

-- the zones before one contain all rows, if the addresses end before it
pub zones_passed : (rows : List Row) (cuts client : List ℕ) (state : State) (first last zone : ℕ) (before best : Option Row) → zone_in cuts last < zone → IsNewestRow rows (is_aged_below cuts client state first last before zone) best → IsNewestRow rows (is_aged client state first last before) best
zones_passed rows cuts client state first last zone before best over = newest_alike rows (is_aged_below cuts client state first last before zone) (is_aged client state first last before) best each where
  within : (row : Row) → row.address ≤ last → true ≡ nat_lt (zone_in cuts row.address) zone
  within row le = let r : zone_in cuts row.address ≤ zone_in cuts last = zones_rise cuts row.address last le in grind (arith, nat_tests)

  by : (t : Bool) (row : Row) → (t ≡ true → row.address ≤ last) → t ≡ (t && nat_lt (zone_in cuts row.address) zone)
  by true row k = within row (k refl)
  by false row k = refl

  each : (a : ℕ) (row : Row) → row_at rows a ≡ Some row → is_aged client state first last before row ≡ is_aged_below cuts client state first last before zone row
  each a row at = by (is_aged client state first last before row) row (λ e. (aged_kind client state first last before row e).2)
