-- The newest of a client's addresses by the age of its rows.
use Rattle.std.proofs.Common.{◌≡◌, ℕ, ◌+◌, ◌-◌, ◌*◌, ◌<◌, ◌≤◌, Bor, Bool, true, false, ◌&&◌, ◌||◌, ◌==◌, nat_lt, nat_le, not, List, [], ◌∷◌, length, get_or, take, suc, Option, Some, None, refl, sym, ap, subst, ◌∙◌, ⊎_elim, arith, if◌then◌else◌}
use Rattle.std.specs.List.{All, list_any}
use Rattle.std.specs.Option.{option_copied}
use Rattle.std.proofs.lemmas.Bool.{and_from, and_parts, eq-eqb, eqb-true, or_cases, or_left, or_right, false≢true}
use Rattle.std.proofs.lemmas.Bool.Decides.{nat_tests}
use Rattle.std.proofs.lemmas.List.{take_all}
use Rattle.std.proofs.lemmas.List.Folds.{list_any_more}
use Rattle.std.proofs.lemmas.Option.{none-some, same_Some}
use Rattle.kd_config.specs.declared.pool.Pool.{Pool}
use Rattle.kd_config.specs.declared.subnet.Subnet.{Subnet}
use Rattle.kd_rows.specs.Row.{state_number}
use Rattle.kd_rows.specs.Table.{IsNewestRow, belongs_to, is_aged, is_newer_row, row_at}
use Rattle.kd_rows.specs.declared.row.Row.{Row}
use Rattle.kd_rows.specs.declared.row.State.{State}
use Rattle.kd_rows.specs.declared.row.State.TheVariants.{Offered, Bound, Released, Declined}
use Rattle.kd_rows.proofs.Zoned.{no_or, or_no}
use Rattle.kd_lease.specs.Aging.{given_sought, is_in_state, is_within, live_sought, newer_found, reserved_sought, sought_for, sought_in, sought_within, state_sought}
use Rattle.kd_lease.specs.Choice.{Asking, Rank, changed_in, has_rank, has_such, held_row, holding_state, is_before, live_row, pool_gives, pooled, reserved_anywhere, same_address, set_later}
use Rattle.kd_lease.specs.Choice.Rank.{own, past}
use Rattle.kd_lease.specs.Ranks.{IsRanked}
use Rattle.kd_lease.specs.Rules.{IsNewest, asking, held_at, offered_state}
use Rattle.kd_lease.specs.Seeking.{fitting_with, past_at, sought_at}
use Rattle.kd_lease.specs.declared.candidates.Choosing.{Choosing}
use Rattle.kd_lease.specs.declared.search.Sought.{Sought}
use Rattle.kd_lease.specs.declared.search.Sought.TheVariants as seeks
use Rattle.kd_lease.proofs.Newest.{not_newer, not_newer_itself, own_sought, past_sought, sought_is_mine}

-- the newest that passes a test is the newest that passes an equal test
pub newest_alike : (rows : List Row) (p r : ℕ → Bool) (best : Option ℕ) → ((a : ℕ) → r a ≡ p a) → IsNewest rows p best → IsNewest rows r best
newest_alike rows p r None same h = λ a. same a ∙ h a
newest_alike rows p r (Some a) same h = (same a ∙ h.0, λ b e. h.1 b (sym (same b) ∙ e))

-- "not newer than" is transitive
not_newer_than : (rows : List Row) (x a b : ℕ) → set_later rows x a ≡ false → set_later rows a b ≡ false → set_later rows x b ≡ false
not_newer_than rows x a b = by (changed_in (row_at rows x)) (changed_in (row_at rows a)) (changed_in (row_at rows b)) where
  by : (l m n : ℕ) → (nat_lt m l || (l == m && nat_lt x a)) ≡ false → (nat_lt n m || (m == n && nat_lt a b)) ≡ false → (nat_lt n l || (l == n && nat_lt x b)) ≡ false
  by l m n h g = grind (arith, nat_tests)

-- the newer of the newest of two kinds is the newest of both kinds
pub newest_of_both : (rows : List Row) (p r each : ℕ → Bool) (x y : Option ℕ) → ((a : ℕ) → each a ≡ (p a || r a)) → IsNewest rows p x → IsNewest rows r y → IsNewest rows each (newer_found rows x y)
newest_of_both rows p r each None y same h g = newest_alike rows r each y (λ a. same a ∙ or_no (p a) (r a) (h a)) g
newest_of_both rows p r each (Some a) None same h g = newest_alike rows p each (Some a) (λ b. same b ∙ no_or (p b) (r b) (g b)) h
newest_of_both rows p r each (Some a) (Some b) same h g = by (set_later rows b a) refl where
  by : (t : Bool) → set_later rows b a ≡ t → IsNewest rows each (if t then Some b else Some a)
  by true e = (same b ∙ or_right (p b) (r b) g.0, λ c f. ⊎_elim (λ k. not_newer rows c b a e (h.1 c k)) (g.1 c) (or_cases (p c) (r c) (sym (same c) ∙ f)))
  by false e = (same a ∙ or_left (p a) (r a) h.0, λ c f. ⊎_elim (h.1 c) (λ k. not_newer_than rows c b a (g.1 c k) e) (or_cases (p c) (r c) (sym (same c) ∙ f)))

-- a row is in only one state
pub same_state : (s t : State) → (state_number s == state_number t) ≡ true → s ≡ t
same_state Offered Offered h = refl
same_state Offered Bound h = absurd (false≢true h)
same_state Offered Released h = absurd (false≢true h)
same_state Offered Declined h = absurd (false≢true h)
same_state Bound Offered h = absurd (false≢true h)
same_state Bound Bound h = refl
same_state Bound Released h = absurd (false≢true h)
same_state Bound Declined h = absurd (false≢true h)
same_state Released Offered h = absurd (false≢true h)
same_state Released Bound h = absurd (false≢true h)
same_state Released Released h = refl
same_state Released Declined h = absurd (false≢true h)
same_state Declined Offered h = absurd (false≢true h)
same_state Declined Bound h = absurd (false≢true h)
same_state Declined Released h = absurd (false≢true h)
same_state Declined Declined h = refl

-- the sought addresses from first to last, by the state of their rows
pub by_state : (q : Asking) (sought : Sought) (first last : ℕ) (o b r d : Option ℕ)
    → IsNewest q.rows (sought_in q sought Offered first last) o → IsNewest q.rows (sought_in q sought Bound first last) b
    → IsNewest q.rows (sought_in q sought Released first last) r → IsNewest q.rows (sought_in q sought Declined first last) d
    → IsNewest q.rows (sought_within q sought first last) (newer_found q.rows (newer_found q.rows o b) (newer_found q.rows r d))
by_state q sought first last o b r d ho hb hr hd =
    newest_of_both q.rows held given (sought_within q sought first last) _ _ each
    (newest_of_both q.rows (sought_in q sought Offered first last) (sought_in q sought Bound first last) held o b (λ a. refl) ho hb)
    (newest_of_both q.rows (sought_in q sought Released first last) (sought_in q sought Declined first last) given r d (λ a. refl) hr hd) where
      held : ℕ → Bool
      held a = sought_in q sought Offered first last a || sought_in q sought Bound first last a

      given : ℕ → Bool
      given a = sought_in q sought Released first last a || sought_in q sought Declined first last a

      one : (state : State) (t : Bool)
          → t ≡ ((((state_number state == 1) && t) || ((state_number state == 2) && t)) || (((state_number state == 3) && t) || ((state_number state == 4) && t)))
      one Offered true = refl
      one Offered false = refl
      one Bound true = refl
      one Bound false = refl
      one Released true = refl
      one Released false = refl
      one Declined true = refl
      one Declined false = refl

      by : (w : Bool) (at : Option Row) → (w ≡ true → has_such (belongs_to q.client) at ≡ true)
          → w ≡ (((has_such (is_in_state Offered) at && w) || (has_such (is_in_state Bound) at && w)) || ((has_such (is_in_state Released) at && w) || (has_such (is_in_state Declined) at && w)))
      by true None mine = absurd (false≢true (mine refl))
      by false None mine = refl
      by w (Some row) mine = one row.state w

      each : (a : ℕ) → sought_within q sought first last a ≡ (held a || given a)
      each a = by (sought_within q sought first last a) (row_at q.rows a) (λ h. sought_is_mine q sought a (and_parts (sought_at q sought a) (is_within first last a) h).0)

-- an address that is sought has a row in one of the states that such a row can be in
in_states : (q : Asking) (sought : Sought) (a : ℕ) (row : Row) → row_at q.rows a ≡ Some row → sought_at q sought a ≡ true → state_sought sought row.state ≡ true
in_states q (seeks.Own choosing) a row there h =
    let held = (and_parts (held_at q a) (fitting_with choosing.now a) h).0 in
    let its : held_row q row ≡ true = sym (ap (has_such (held_row q)) there) ∙ held in
    (and_parts (belongs_to q.client row) (holding_state row.state) (and_parts (live_row q.now row) (belongs_to q.client row && holding_state row.state) its).1).1
in_states q (seeks.Past choosing) a row there h = refl
in_states q seeks.Offer a row there h =
    let its : (live_row q.now row && (belongs_to q.client row && offered_state row.state)) ≡ true = sym (ap (has_such (λ r. live_row q.now r && (belongs_to q.client r && offered_state r.state))) there) ∙ h in
    (and_parts (belongs_to q.client row) (offered_state row.state) (and_parts (live_row q.now row) (belongs_to q.client row && offered_state row.state) its).1).1

-- such a row has not ended, if only rows that have not ended are sought
is_live_at : (q : Asking) (sought : Sought) (a : ℕ) (row : Row) → row_at q.rows a ≡ Some row → live_sought sought ≡ true → sought_at q sought a ≡ true → live_row q.now row ≡ true
is_live_at q (seeks.Own choosing) a row there live h =
    let held = (and_parts (held_at q a) (fitting_with choosing.now a) h).0 in
    (and_parts (live_row q.now row) (belongs_to q.client row && holding_state row.state) (sym (ap (has_such (held_row q)) there) ∙ held)).0
is_live_at q (seeks.Past choosing) a row there live h = absurd (false≢true live)
is_live_at q seeks.Offer a row there live h =
    (and_parts (live_row q.now row) (belongs_to q.client row && offered_state row.state) (sym (ap (has_such (λ r. live_row q.now r && (belongs_to q.client r && offered_state r.state))) there) ∙ h)).0

-- a sought address from first to last with its row in a state
record Sighting (q : Asking) (sought : Sought) (state : State) (first last a : ℕ) : Type 0 where
  pub row : Row
  pub there : row_at q.rows a ≡ Some row
  pub of : is_aged q.client state first last None row ≡ true
  pub address : row.address ≡ a
  pub is : sought_at q sought a ≡ true

-- the address of a row that is there
address_at : (rows : List Row) (a : ℕ) (row : Row) → row_at rows a ≡ Some row → row.address ≡ a
address_at [] a row h = absurd (none-some row h)
address_at (r ∷ rows) a row h = by (r.address == a) refl h (address_at rows a row) where
  by : (t : Bool) → (r.address == a) ≡ t → (if t then Some r else row_at rows a) ≡ Some row → (row_at rows a ≡ Some row → row.address ≡ a) → row.address ≡ a
  by true e h rest = subst (λ (x : Row). x.address ≡ a) (same_Some r row h) (eqb-true r.address a e)
  by false e h rest = rest h

seen : (q : Asking) (sought : Sought) (state : State) (first last a : ℕ) → sought_in q sought state first last a ≡ true → Sighting q sought state first last a
seen q sought state first last a h = by (row_at q.rows a) refl where
  parts : (has_such (is_in_state state) (row_at q.rows a) ≡ true) × (sought_within q sought first last a ≡ true)
  parts = and_parts (has_such (is_in_state state) (row_at q.rows a)) (sought_within q sought first last a) h

  found : (sought_at q sought a ≡ true) × (is_within first last a ≡ true)
  found = and_parts (sought_at q sought a) (is_within first last a) parts.1

  within : (x : ℕ) → x ≡ a → (not (nat_lt x first) && (not (nat_lt last x) && true)) ≡ true
  within x e = let h : (nat_le first a && nat_le a last) ≡ true = found.1 in grind (arith, nat_tests)

  by : (o : Option Row) → row_at q.rows a ≡ o → Sighting q sought state first last a
  by None e = absurd (false≢true (sym (ap (has_such (is_in_state state)) e) ∙ parts.0))
  by (Some row) e = record {
    row = row;
    there = e;
    of = and_from (belongs_to q.client row) _ (sym (ap (has_such (belongs_to q.client)) e) ∙ sought_is_mine q sought a found.0)
        (and_from (state_number row.state == state_number state) _ (sym (ap (has_such (is_in_state state)) e) ∙ parts.0) (within row.address (address_at q.rows a row e)));
    address = address_at q.rows a row e;
    is = found.0;
  }

-- a row comes before the one that was found; if none was found, every row does
abbrev pub is_ahead : Option Row → Row → Bool
is_ahead None row = true
is_ahead (Some found) row = is_newer_row row found

-- what was found among a client's rows of a state, from first to last, is there, and no row before
-- it is sought
pub record IsReached (q : Asking) (sought : Sought) (state : State) (first last : ℕ) (found : Option Row) : Type 0 where
  pub there : (row : Row) → found ≡ Some row → (row_at q.rows row.address ≡ Some row) × (is_aged q.client state first last None row ≡ true)
  pub none : (a : ℕ) (row : Row) → row_at q.rows a ≡ Some row → is_aged q.client state first last None row ≡ true → is_ahead found row ≡ true → sought_at q sought a ≡ false

-- no row comes before the newest of all
pub reached_first : (q : Asking) (sought : Sought) (state : State) (first last : ℕ) (found : Option Row) → IsNewestRow q.rows (is_aged q.client state first last None) found → IsReached q sought state first last found
reached_first q sought state first last None h = record {
  there = λ row e. absurd (none-some row e);
  none = λ a row at of ahead. absurd (false≢true (sym (h a row at) ∙ of));
}
reached_first q sought state first last (Some f) h = record {
  there = λ row e. subst (λ (x : Row). (row_at q.rows x.address ≡ Some x) × (is_aged q.client state first last None x ≡ true)) (same_Some f row e) (h.0, h.1);
  none = λ a row at of ahead. absurd (false≢true (sym (h.2 a row at of) ∙ ahead));
}

-- if neither of two rows is newer, they are the same row
one_row : (rows : List Row) (a : ℕ) (row r : Row) → row_at rows a ≡ Some row → row_at rows r.address ≡ Some r → is_newer_row row r ≡ false → is_newer_row r row ≡ false → a ≡ r.address
one_row rows a row r at there h g = sym (address_at rows a row at) ∙ same row.changed r.changed row.address r.address h g where
  same : (m n x y : ℕ) → (nat_lt n m || ((m == n) && nat_lt x y)) ≡ false → (nat_lt m n || ((n == m) && nat_lt y x)) ≡ false → x ≡ y
  same m n x y h g = grind (arith, nat_tests)

-- an aged row comes after another row that is newer
after_too : (client : List ℕ) (state : State) (first last : ℕ) (r row : Row) → is_aged client state first last None row ≡ true → is_newer_row r row ≡ true → is_aged client state first last (Some r) row ≡ true
after_too client state first last r row of newer = by (belongs_to client row) (state_number row.state == state_number state) (not (nat_lt row.address first)) (not (nat_lt last row.address)) of where
  by : (t u v w : Bool) → (t && (u && (v && (w && true)))) ≡ true → (t && (u && (v && (w && is_newer_row r row)))) ≡ true
  by true true true true h = newer
  by true true true false h = absurd (false≢true h)
  by true true false w h = absurd (false≢true h)
  by true false v w h = absurd (false≢true h)
  by false u v w h = absurd (false≢true h)

before_too : (client : List ℕ) (state : State) (first last : ℕ) (r row : Row) → is_aged client state first last (Some r) row ≡ true → (is_aged client state first last None row ≡ true) × (is_newer_row r row ≡ true)
before_too client state first last r row of = by (belongs_to client row) (state_number row.state == state_number state) (not (nat_lt row.address first)) (not (nat_lt last row.address)) of where
  by : (t u v w : Bool) → (t && (u && (v && (w && is_newer_row r row)))) ≡ true → ((t && (u && (v && (w && true)))) ≡ true) × (is_newer_row r row ≡ true)
  by true true true true h = (refl, h)
  by true true true false h = absurd (false≢true h)
  by true true false w h = absurd (false≢true h)
  by true false v w h = absurd (false≢true h)
  by false u v w h = absurd (false≢true h)

-- if the row that was reached is not sought, neither is any row that it is not newer than
none_ahead : (q : Asking) (sought : Sought) (state : State) (first last : ℕ) (r : Row) → IsReached q sought state first last (Some r) → sought_at q sought r.address ≡ false
    → (a : ℕ) (row : Row) → row_at q.rows a ≡ Some row → is_aged q.client state first last None row ≡ true → is_newer_row r row ≡ false → sought_at q sought a ≡ false
none_ahead q sought state first last r reached not_it a row at of later = by (is_newer_row row r) refl where
  by : (t : Bool) → is_newer_row row r ≡ t → sought_at q sought a ≡ false
  by true e = reached.none a row at of e
  by false e = ap (sought_at q sought) (one_row q.rows a row r at (reached.there r refl).0 e later) ∙ not_it

-- the next row is reached if the one before is not sought
pub reached_next : (q : Asking) (sought : Sought) (state : State) (first last : ℕ) (r : Row) (found : Option Row) → IsReached q sought state first last (Some r) → sought_at q sought r.address ≡ false
    → IsNewestRow q.rows (is_aged q.client state first last (Some r)) found → IsReached q sought state first last found
reached_next q sought state first last r found reached not_it next = by found next where
  older : (a : ℕ) (row : Row) → row_at q.rows a ≡ Some row → is_aged q.client state first last None row ≡ true → is_aged q.client state first last (Some r) row ≡ false → sought_at q sought a ≡ false
  older a row at of out = none_ahead q sought state first last r reached not_it a row at of (no (is_newer_row r row) refl) where
    no : (t : Bool) → is_newer_row r row ≡ t → is_newer_row r row ≡ false
    no true e = absurd (false≢true (sym out ∙ after_too q.client state first last r row of e))
    no false e = e

  by : (found : Option Row) → IsNewestRow q.rows (is_aged q.client state first last (Some r)) found → IsReached q sought state first last found
  by None h = record {
    there = λ row e. absurd (none-some row e);
    none = λ a row at of ahead. older a row at of (h a row at);
  }
  by (Some f) h = record {
    there = λ row e. subst (λ (x : Row). (row_at q.rows x.address ≡ Some x) × (is_aged q.client state first last None x ≡ true)) (same_Some f row e) (h.0, (before_too q.client state first last r f h.1).0);
    none = λ a row at of ahead. older a row at of (no a row at ahead (is_aged q.client state first last (Some r) row) refl);
  } where
    no : (a : ℕ) (row : Row) → row_at q.rows a ≡ Some row → is_newer_row row f ≡ true → (t : Bool) → is_aged q.client state first last (Some r) row ≡ t → is_aged q.client state first last (Some r) row ≡ false
    no a row at ahead true e = absurd (false≢true (sym (h.2 a row at e) ∙ ahead))
    no a row at ahead false e = e

-- how far the search is: no row yet, or how new the row is that was reached
abbrev pub newness : Option Row → ℕ
newness None = 0
newness (Some row) = 1 + (row.changed * 4294967296 + (4294967295 - row.address))

-- the next row is older, so the search ends
pub next_is_older : (q : Asking) (sought : Sought) (state : State) (first last : ℕ) (r : Row) (found : Option Row) → last < 4294967296 → IsReached q sought state first last (Some r)
    → IsNewestRow q.rows (is_aged q.client state first last (Some r)) found → newness found < newness (Some r)
next_is_older q sought state first last r None bound reached h = omega arith
next_is_older q sought state first last r (Some f) bound reached h = older f.changed r.changed f.address r.address (low f.address aged.1) parts.1 where
  parts : (is_aged q.client state first last None f ≡ true) × (is_newer_row r f ≡ true)
  parts = before_too q.client state first last r f h.1

  aged : (belongs_to q.client f ≡ true) × (((state_number f.state == state_number state) && (not (nat_lt f.address first) && (not (nat_lt last f.address) && true))) ≡ true)
  aged = and_parts (belongs_to q.client f) _ parts.0

  low : (x : ℕ) → ((state_number f.state == state_number state) && (not (nat_lt x first) && (not (nat_lt last x) && true))) ≡ true → x ≤ 4294967295
  low x g =
      let w : (not (nat_lt x first) && (not (nat_lt last x) && true)) ≡ true = (and_parts (state_number f.state == state_number state) _ g).1 in
      let l : x ≤ last = grind (arith, nat_tests) in
      omega arith

  older : (m n x y : ℕ) → x ≤ 4294967295 → (nat_lt m n || ((n == m) && nat_lt y x)) ≡ true → 1 + (m * 4294967296 + (4294967295 - x)) < 1 + (n * 4294967296 + (4294967295 - y))
  older m n x y le newer = ⊎_elim
      (λ g. let l : m < n = lt m n g in omega arith)
      (λ g. let e : n ≡ m = eqb-true n m (and_parts (n == m) (nat_lt y x) g).0 in let l : y < x = lt y x (and_parts (n == m) (nat_lt y x) g).1 in omega arith)
      (or_cases (nat_lt m n) ((n == m) && nat_lt y x) newer) where
        lt : (a b : ℕ) → nat_lt a b ≡ true → a < b
        lt a b h = grind (arith, nat_tests)

-- a row that is reached and sought is the newest that is sought
pub reached_it : (q : Asking) (sought : Sought) (state : State) (first last : ℕ) (r : Row) → IsReached q sought state first last (Some r) → sought_at q sought r.address ≡ true → IsNewest q.rows (sought_in q sought state first last) (Some r.address)
reached_it q sought state first last r reached it = (sought_is, newest) where
  there : row_at q.rows r.address ≡ Some r
  there = (reached.there r refl).0

  sought_is : sought_in q sought state first last r.address ≡ true
  sought_is = and_from (has_such (is_in_state state) (row_at q.rows r.address)) _ (ap (has_such (is_in_state state)) there ∙ in_state) (and_from (sought_at q sought r.address) _ it (within r.address more.1)) where
    parts : (belongs_to q.client r ≡ true) × (((state_number r.state == state_number state) && (not (nat_lt r.address first) && (not (nat_lt last r.address) && true))) ≡ true)
    parts = and_parts (belongs_to q.client r) _ (reached.there r refl).1

    more : (is_in_state state r ≡ true) × ((not (nat_lt r.address first) && (not (nat_lt last r.address) && true)) ≡ true)
    more = and_parts (is_in_state state r) _ parts.1

    in_state : is_in_state state r ≡ true
    in_state = more.0

    within : (x : ℕ) → (not (nat_lt x first) && (not (nat_lt last x) && true)) ≡ true → (nat_le first x && nat_le x last) ≡ true
    within x e = grind (arith, nat_tests)

  newest : (b : ℕ) → sought_in q sought state first last b ≡ true → set_later q.rows b r.address ≡ false
  newest b e = later_is ∙ by (is_newer_row s.row r) refl where
    s : Sighting q sought state first last b
    s = seen q sought state first last b e

    later_is : set_later q.rows b r.address ≡ is_newer_row s.row r
    later_is =
        ap (λ (o : Option Row). nat_lt (changed_in (row_at q.rows r.address)) (changed_in o) || (changed_in o == changed_in (row_at q.rows r.address) && nat_lt b r.address)) s.there
        ∙ (ap (λ (o : Option Row). nat_lt (changed_in o) s.row.changed || (s.row.changed == changed_in o && nat_lt b r.address)) there
        ∙ ap (λ (x : ℕ). nat_lt r.changed s.row.changed || (s.row.changed == r.changed && nat_lt x r.address)) (sym s.address))

    by : (t : Bool) → is_newer_row s.row r ≡ t → is_newer_row s.row r ≡ false
    by true f = absurd (false≢true (sym (reached.none b s.row s.there s.of f) ∙ s.is))
    by false f = f

-- if no row is reached, none is sought
pub reached_none : (q : Asking) (sought : Sought) (state : State) (first last : ℕ) → IsReached q sought state first last None → IsNewest q.rows (sought_in q sought state first last) None
reached_none q sought state first last reached a = by (sought_in q sought state first last a) refl where
  by : (t : Bool) → sought_in q sought state first last a ≡ t → sought_in q sought state first last a ≡ false
  by true e = let s = seen q sought state first last a e in absurd (false≢true (sym (reached.none a s.row s.there s.of refl) ∙ s.is))
  by false e = e

-- if no row that is not newer than the one reached is live, and that one is not sought, none is
-- sought
pub reached_ended : (q : Asking) (sought : Sought) (state : State) (first last : ℕ) (r : Row) → IsReached q sought state first last (Some r) → sought_at q sought r.address ≡ false → live_sought sought ≡ true
    → ((a : ℕ) (other : Row) → row_at q.rows a ≡ Some other → other.state ≡ state → other.changed ≤ r.changed → live_row q.now other ≡ false)
    → IsNewest q.rows (sought_in q sought state first last) None
reached_ended q sought state first last r reached not_it live ended a = by (sought_in q sought state first last a) refl where
  by : (t : Bool) → sought_in q sought state first last a ≡ t → sought_in q sought state first last a ≡ false
  by false e = e
  by true e = absurd (false≢true (sym (not_sought (is_newer_row s.row r) refl) ∙ s.is)) where
    s : Sighting q sought state first last a
    s = seen q sought state first last a e

    no_later : (m n x y : ℕ) → (nat_lt n m || ((m == n) && nat_lt x y)) ≡ false → m ≤ n
    no_later m n x y h = grind (arith, nat_tests)

    not_sought : (t : Bool) → is_newer_row s.row r ≡ t → sought_at q sought a ≡ false
    not_sought true f = reached.none a s.row s.there s.of f
    not_sought false f = absurd (false≢true (sym (ended a s.row s.there state_is (no_later s.row.changed r.changed s.row.address r.address f)) ∙ is_live_at q sought a s.row s.there live s.is)) where
      state_is : s.row.state ≡ state
      state_is = same_state s.row.state state (and_parts (is_in_state state s.row) _ (and_parts (belongs_to q.client s.row) _ s.of).1).0

-- the sought addresses that are reserved for the client or that one of the first n pools has for it
abbrev pub sought_up_to : Asking → Sought → Choosing → ℕ → ℕ → Bool
sought_up_to q sought choosing n a = sought_at q sought a && (same_address choosing.own a || list_any (λ pool. pool_gives choosing.question.now.names.now pool a) (take n choosing.subnet.now.pools))

pub no_pool_yet : (q : Asking) (sought : Sought) (choosing : Choosing) (best : Option ℕ) → IsNewest q.rows (reserved_sought q sought choosing.own) best → IsNewest q.rows (sought_up_to q sought choosing 0) best
no_pool_yet q sought choosing best = newest_alike q.rows (reserved_sought q sought choosing.own) (sought_up_to q sought choosing 0) best (λ a. ap (λ (t : Bool). sought_at q sought a && t) (no_or (same_address choosing.own a) false refl))

-- one more pool
pub pool_more : (q : Asking) (sought : Sought) (choosing : Choosing) (n : ℕ) (pool : Pool) (best found : Option ℕ) → n < length choosing.subnet.now.pools → pool ≡ get_or choosing.subnet.now.pools n pool → IsNewest q.rows (sought_up_to q sought choosing n) best
    → IsNewest q.rows (given_sought q sought choosing.question.now.names.now pool) found → IsNewest q.rows (sought_up_to q sought choosing (n + 1)) (newer_found q.rows best found)
pool_more q sought choosing n pool best found less is h g = newest_of_both q.rows (sought_up_to q sought choosing n) (given_sought q sought choosing.question.now.names.now pool) (sought_up_to q sought choosing (n + 1)) best found each h g where
  by : (w r t u : Bool) → (w && (r || (t || u))) ≡ ((w && (r || t)) || (w && u))
  by true true t u = refl
  by true false t u = refl
  by false r t u = refl

  each : (a : ℕ) → sought_up_to q sought choosing (n + 1) a ≡ (sought_up_to q sought choosing n a || given_sought q sought choosing.question.now.names.now pool a)
  each a =
      ap (λ (t : Bool). sought_at q sought a && (same_address choosing.own a || t)) (list_any_more (λ p. pool_gives choosing.question.now.names.now p a) choosing.subnet.now.pools n pool less ∙ ap (λ (p : Pool). list_any (λ o. pool_gives choosing.question.now.names.now o a) (take n choosing.subnet.now.pools) || pool_gives choosing.question.now.names.now p a) (sym is))
      ∙ by (sought_at q sought a) (same_address choosing.own a) (list_any (λ p. pool_gives choosing.question.now.names.now p a) (take n choosing.subnet.now.pools)) (pool_gives choosing.question.now.names.now pool a)

pub all_pools : (q : Asking) (sought : Sought) (choosing : Choosing) (n : ℕ) (best : Option ℕ) → length choosing.subnet.now.pools ≤ n → IsNewest q.rows (sought_up_to q sought choosing n) best → IsNewest q.rows (sought_for q sought choosing) best
all_pools q sought choosing n best all = newest_alike q.rows (sought_up_to q sought choosing n) (sought_for q sought choosing) best (λ a. ap (λ (pools : List Pool). sought_at q sought a && (same_address choosing.own a || list_any (λ p. pool_gives choosing.question.now.names.now p a) pools)) (sym (take_all n choosing.subnet.now.pools all)))

-- an address that fits is reserved for the client or in a pool
fits_somewhere : (choosing : Choosing) (a : ℕ) → fitting_with choosing a ≡ true → (same_address choosing.own a || pooled choosing.question.now.names.now choosing.subnet.now a) ≡ true
fits_somewhere choosing a = by (pooled choosing.question.now.names.now choosing.subnet.now a) (reserved_anywhere choosing.question.now.config.now a) (same_address choosing.own a) where
  by : (t u w : Bool) → ((t && not u) || w) ≡ true → (w || t) ≡ true
  by t u true h = refl
  by true u false h = refl
  by false u false h = h

in_subnet : (choosing : Choosing) (t : ℕ → Bool) (a : ℕ) → ((t a && fitting_with choosing a) && (same_address choosing.own a || pooled choosing.question.now.names.now choosing.subnet.now a)) ≡ (t a && fitting_with choosing a)
in_subnet choosing t a = by (t a && fitting_with choosing a) (λ h. fits_somewhere choosing a (and_parts (t a) (fitting_with choosing a) h).1) where
  by : (w : Bool) → (w ≡ true → (same_address choosing.own a || pooled choosing.question.now.names.now choosing.subnet.now a) ≡ true) → (w && (same_address choosing.own a || pooled choosing.question.now.names.now choosing.subnet.now a)) ≡ w
  by true h = h refl
  by false h = refl

-- the newest of those that are held or were held in a subnet is the newest of all
pub newest_own : (q : Asking) (choosing : Bor Choosing) (best : Option ℕ) → IsNewest q.rows (sought_for q (seeks.Own choosing) choosing.now) best → IsNewest q.rows (sought_at q (seeks.Own choosing)) best
newest_own q choosing best = newest_alike q.rows (sought_for q (seeks.Own choosing) choosing.now) (sought_at q (seeks.Own choosing)) best (λ a. sym (in_subnet choosing.now (held_at q) a))

pub newest_past : (q : Asking) (choosing : Bor Choosing) (best : Option ℕ) → IsNewest q.rows (sought_for q (seeks.Past choosing) choosing.now) best → IsNewest q.rows (sought_at q (seeks.Past choosing)) best
newest_past q choosing best = newest_alike q.rows (sought_for q (seeks.Past choosing) choosing.now) (sought_at q (seeks.Past choosing)) best (λ a. sym (in_subnet choosing.now (past_at q) a))

-- what holds for all rows holds for the row of an address
pub all_at : (P : Row → Type 0) (rows : List Row) → All P rows → (a : ℕ) (row : Row) → row_at rows a ≡ Some row → P row
all_at P [] h a row e = absurd (none-some row e)
all_at P (r ∷ rows) h a row e = by (r.address == a) e (all_at P rows (λ k d less. h (suc k) d (omega arith)) a row) where
  by : (t : Bool) → (if t then Some r else row_at rows a) ≡ Some row → (row_at rows a ≡ Some row → P row) → P row
  by true f rest = subst P (same_Some r row f) (h 0 r (omega arith))
  by false f rest = rest f

-- no row of a state that was set at or before a time is live, if that time plus the longest hold is
-- not after now
pub all_ended : (q : Asking) (state : State) (longest moment : ℕ) → longest + moment ≤ q.now → All (λ row. row.state ≡ state → row.ends ≤ row.changed + longest) q.rows
    → (a : ℕ) (other : Row) → row_at q.rows a ≡ Some other → other.state ≡ state → other.changed ≤ moment → live_row q.now other ≡ false
all_ended q state longest moment over holds a other at of early = ended q.now other.ends (let l : other.ends ≤ other.changed + longest = all_at (λ row. row.state ≡ state → row.ends ≤ row.changed + longest) q.rows holds a other at of in omega arith) where
  ended : (n e : ℕ) → e ≤ n → nat_lt n e ≡ false
  ended n e le = grind (arith, nat_tests)

-- the addresses of rows have 32 bits, so those up to the greatest are all addresses
pub newest_of_all_rows : (q : Asking) (sought : Sought) (best : Option ℕ) → All (λ row. row.address < 4294967296) q.rows → IsNewest q.rows (sought_within q sought 0 4294967295) best → IsNewest q.rows (sought_at q sought) best
newest_of_all_rows q sought best bounded = newest_alike q.rows (sought_within q sought 0 4294967295) (sought_at q sought) best each where
  each : (a : ℕ) → sought_at q sought a ≡ sought_within q sought 0 4294967295 a
  each a = by (sought_at q sought a) (row_at q.rows a) refl (sought_is_mine q sought a) where
    low : (x : ℕ) → x < 4294967296 → (nat_le 0 x && nat_le x 4294967295) ≡ true
    low x h = grind (arith, nat_tests)

    by : (t : Bool) (o : Option Row) → row_at q.rows a ≡ o → (t ≡ true → has_such (belongs_to q.client) o ≡ true) → t ≡ (t && is_within 0 4294967295 a)
    by false o e mine = refl
    by true None e mine = absurd (false≢true (mine refl))
    by true (Some row) e mine = sym (low a (subst (λ (x : ℕ). x < 4294967296) (address_at q.rows a row e) (all_at (λ r. r.address < 4294967296) q.rows bounded a row e)))

-- the newest address is the first of its rank
ranked : (q : Asking) (s : Subnet) (r : Rank) (such : ℕ → Bool) (best : Option ℕ) → ((a b : ℕ) → is_before q s r a b ≡ set_later q.rows a b) → ((a : ℕ) → has_rank q s r a ≡ such a) → IsNewest q.rows such best → IsRanked q s r best
ranked q s r such None before same h = λ a. same a ∙ h a
ranked q s r such (Some a) before same h = record { ranked = same a ∙ h.0; first = λ b has. before b a ∙ h.1 b (sym (same b) ∙ has) }

pub own_ranked : (choosing : Bor Choosing) (best : Option ℕ) → IsNewest (asking choosing.now.question.now).rows (sought_at (asking choosing.now.question.now) (seeks.Own choosing)) best → IsRanked (asking choosing.now.question.now) choosing.now.subnet.now own best
own_ranked choosing best = ranked (asking choosing.now.question.now) choosing.now.subnet.now own (sought_at (asking choosing.now.question.now) (seeks.Own choosing)) best (λ a b. refl) (λ a. sym (own_sought choosing a))

pub past_ranked : (choosing : Bor Choosing) (best : Option ℕ) → IsNewest (asking choosing.now.question.now).rows (sought_at (asking choosing.now.question.now) (seeks.Past choosing)) best → IsRanked (asking choosing.now.question.now) choosing.now.subnet.now past best
past_ranked choosing best = ranked (asking choosing.now.question.now) choosing.now.subnet.now past (sought_at (asking choosing.now.question.now) (seeks.Past choosing)) best (λ a b. refl) (λ a. sym (past_sought choosing a))

-- the address that is reserved for the client, if it is sought
pub reserved_it : (q : Asking) (sought : Sought) (kept : Option ℕ) (a : ℕ) → kept ≡ Some a → sought_at q sought a ≡ true → IsNewest q.rows (reserved_sought q sought kept) (Some a)
reserved_it q sought kept a is it = (and_from (sought_at q sought a) _ it (ap (λ (o : Option ℕ). same_address o a) is ∙ eq-eqb a a refl), newest) where
  newest : (b : ℕ) → reserved_sought q sought kept b ≡ true → set_later q.rows b a ≡ false
  newest b h =
      let same : a ≡ b = eqb-true a b (sym (ap (λ (o : Option ℕ). same_address o b) is) ∙ (and_parts (sought_at q sought b) _ h).1) in
      ap (λ (x : ℕ). set_later q.rows x a) (sym same) ∙ not_newer_itself q.rows a

pub reserved_not_it : (q : Asking) (sought : Sought) (kept : Option ℕ) (a : ℕ) → kept ≡ Some a → sought_at q sought a ≡ false → IsNewest q.rows (reserved_sought q sought kept) None
reserved_not_it q sought kept a is not_it b = by (reserved_sought q sought kept b) refl where
  by : (t : Bool) → reserved_sought q sought kept b ≡ t → reserved_sought q sought kept b ≡ false
  by false h = h
  by true h =
      let same : a ≡ b = eqb-true a b (sym (ap (λ (o : Option ℕ). same_address o b) is) ∙ (and_parts (sought_at q sought b) _ h).1) in
      absurd (false≢true (sym not_it ∙ (ap (sought_at q sought) same ∙ (and_parts (sought_at q sought b) _ h).0)))

pub reserved_none : (q : Asking) (sought : Sought) (kept : Option ℕ) → kept ≡ None → IsNewest q.rows (reserved_sought q sought kept) None
reserved_none q sought kept none a = ap (λ (o : Option ℕ). sought_at q sought a && same_address o a) none ∙ by (sought_at q sought a) where
  by : (t : Bool) → (t && false) ≡ false
  by true = refl
  by false = refl

-- what was found, as a row or as none
pub reached_row : (q : Asking) (sought : Sought) (state : State) (first last : ℕ) (found : Option (Bor Row)) (row : Bor Row) → found ≡ Some row → IsReached q sought state first last (option_copied found) → IsReached q sought state first last (Some row.now)
reached_row q sought state first last found row is = subst (λ (o : Option (Bor Row)). IsReached q sought state first last (option_copied o)) is

pub reached_no_row : (q : Asking) (sought : Sought) (state : State) (first last : ℕ) (found : Option (Bor Row)) → found ≡ None → IsReached q sought state first last (option_copied found) → IsReached q sought state first last None
reached_no_row q sought state first last found is = subst (λ (o : Option (Bor Row)). IsReached q sought state first last (option_copied o)) is
