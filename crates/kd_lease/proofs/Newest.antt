-- The newest of a client's addresses, which are visited one after another.
use Rattle.std.proofs.Common.{◌≡◌, Bor, ℕ, suc, ◌+◌, ◌<◌, ◌≤◌, Bool, true, false, ◌&&◌, ◌||◌, ◌==◌, nat_lt, not, List, [], ◌∷◌, length, get_or, map, filter, Option, Some, None, slice_get, refl, sym, ap, subst, ◌∙◌, arith, below_more, ⊎_elim, if◌then◌else◌}
use Rattle.std.proofs.lemmas.Bool.{eqb-true, false≢true}
use Rattle.std.proofs.lemmas.Bool.Decides.{nat_tests}
use Rattle.std.proofs.lemmas.Option.{none-some, slice_get_cases}
use Rattle.kd_rows.specs.Table.{addresses_of, belongs_to, row_at}
use Rattle.kd_rows.specs.declared.row.Row.{Row}
use Rattle.kd_lease.specs.Choice.{Asking, changed_in, fitting_for, has_rank, has_such, held_row, holding_state, live_row, same_address, set_later, past_row}
use Rattle.kd_lease.specs.Choice.Rank.{own, past}
use Rattle.kd_lease.specs.Rules.{IsNewest, asking, held_at, offered_state}
use Rattle.kd_lease.specs.Ranks.{IsRanked}
use Rattle.kd_lease.specs.Seeking.{common_in, fitting_with, newer_of, past_at, sought_at}
use Rattle.kd_lease.specs.declared.candidates.Choosing.{Choosing}
use Rattle.kd_lease.specs.declared.search.Sought.{Sought}
use Rattle.kd_lease.specs.declared.search.Sought.TheVariants as seeks
use Rattle.kd_config.specs.declared.subnet.Subnet.{Subnet}

-- what was found is the newest of those of the first n addresses that pass a test
abbrev pub IsNewestOf : List Row → (ℕ → Bool) → List ℕ → ℕ → Option ℕ → Type 0
IsNewestOf rows such xs n None = (k : ℕ) → k < n → such (get_or xs k 0) ≡ false
IsNewestOf rows such xs n (Some a) = (such a ≡ true) × ((k : ℕ) → k < n → such (get_or xs k 0) ≡ true → set_later rows (get_or xs k 0) a ≡ false)

-- one more address
abbrev pub better_of : List Row → (ℕ → Bool) → Option ℕ → ℕ → Option ℕ
better_of rows such None a = if such a then Some a else None
better_of rows such (Some b) a = if such a && set_later rows a b then Some a else Some b

pub not_newer_itself : (rows : List Row) (a : ℕ) → set_later rows a a ≡ false
not_newer_itself rows a = by (changed_in (row_at rows a)) where
  by : (m : ℕ) → (nat_lt m m || (m == m && nat_lt a a)) ≡ false
  by m = grind (arith, nat_tests)

-- an address that is not newer than b is not newer than any address that is newer than b
pub not_newer : (rows : List Row) (x a b : ℕ) → set_later rows a b ≡ true → set_later rows x b ≡ false → set_later rows x a ≡ false
not_newer rows x a b = by (changed_in (row_at rows x)) (changed_in (row_at rows a)) (changed_in (row_at rows b)) where
  by : (l m n : ℕ) → (nat_lt n m || (m == n && nat_lt a b)) ≡ true → (nat_lt n l || (l == n && nat_lt x b)) ≡ false → (nat_lt m l || (l == m && nat_lt x a)) ≡ false
  by l m n h g = grind (arith, nat_tests)

pub newest_more : (rows : List Row) (such : ℕ → Bool) (xs : List ℕ) (n : ℕ) (best : Option ℕ) → IsNewestOf rows such xs n best
    → IsNewestOf rows such xs (n + 1) (better_of rows such best (get_or xs n 0))
newest_more rows such xs n None h = by (such (get_or xs n 0)) refl where
  by : (b : Bool) → such (get_or xs n 0) ≡ b → IsNewestOf rows such xs (n + 1) (if b then Some (get_or xs n 0) else None)
  by true e = (e, below_more (λ k. such (get_or xs k 0) ≡ true → set_later rows (get_or xs k 0) (get_or xs n 0) ≡ false) n (λ k less g. absurd (false≢true (sym (h k less) ∙ g))) (λ g. not_newer_itself rows (get_or xs n 0)))
  by false e = below_more (λ k. such (get_or xs k 0) ≡ false) n h e
newest_more rows such xs n (Some b) h = by (such (get_or xs n 0)) (set_later rows (get_or xs n 0) b) refl refl where
  by : (t u : Bool) → such (get_or xs n 0) ≡ t → set_later rows (get_or xs n 0) b ≡ u → IsNewestOf rows such xs (n + 1) (if t && u then Some (get_or xs n 0) else Some b)
  by true true e f = (e, below_more (λ k. such (get_or xs k 0) ≡ true → set_later rows (get_or xs k 0) (get_or xs n 0) ≡ false) n (λ k less g. not_newer rows (get_or xs k 0) (get_or xs n 0) b f (h.1 k less g)) (λ g. not_newer_itself rows (get_or xs n 0)))
  by true false e f = (h.0, below_more (λ k. such (get_or xs k 0) ≡ true → set_later rows (get_or xs k 0) b ≡ false) n h.1 (λ g. f))
  by false u e f = (h.0, below_more (λ k. such (get_or xs k 0) ≡ true → set_later rows (get_or xs k 0) b ≡ false) n h.1 (λ g. absurd (false≢true (sym e ∙ g))))

-- an address at which a client has a row is among the client's addresses
pub stands : (client : List ℕ) (rows : List Row) (a : ℕ) → has_such (belongs_to client) (row_at rows a) ≡ true → (k : ℕ) × (k < length (addresses_of client rows)) × (get_or (addresses_of client rows) k 0 ≡ a)
stands client [] a h = absurd (false≢true h)
stands client (r ∷ rows) a h = by (r.address == a) (belongs_to client r) refl refl h (stands client rows a) where
  by : (t u : Bool) → (r.address == a) ≡ t → belongs_to client r ≡ u → has_such (belongs_to client) (if t then Some r else row_at rows a) ≡ true
      → (has_such (belongs_to client) (row_at rows a) ≡ true → (k : ℕ) × (k < length (addresses_of client rows)) × (get_or (addresses_of client rows) k 0 ≡ a))
      → (k : ℕ) × (k < length (map (λ row. row.address) (if u then r ∷ filter (belongs_to client) rows else filter (belongs_to client) rows))) × (get_or (map (λ row. row.address) (if u then r ∷ filter (belongs_to client) rows else filter (belongs_to client) rows)) k 0 ≡ a)
  by true true e f h rest = (0, omega arith, eqb-true r.address a e)
  by true false e f h rest = absurd (false≢true (sym f ∙ h))
  by false true e f h rest = let s = rest h in (suc s.0, let l = s.1 in omega arith, s.2)
  by false false e f h rest = rest h

-- the newest of the client's addresses that pass a test is the newest of all that do, if those are
-- the client's
pub newest_of_all : (rows : List Row) (such : ℕ → Bool) (client : List ℕ) (n : ℕ) (best : Option ℕ) → ((a : ℕ) → such a ≡ true → has_such (belongs_to client) (row_at rows a) ≡ true)
    → length (addresses_of client rows) ≤ n → IsNewestOf rows such (addresses_of client rows) n best → IsNewest rows such best
newest_of_all rows such client n None belongs all h = λ a. by a (such a) refl where
  by : (a : ℕ) (b : Bool) → such a ≡ b → such a ≡ false
  by a true e = let s = stands client rows a (belongs a e) in let l = s.1 in ap such (sym s.2) ∙ h s.0 (omega arith)
  by a false e = e
newest_of_all rows such client n (Some a) belongs all h = (
  h.0,
  λ b e.
      let s = stands client rows b (belongs b e) in
      let l = s.1 in
      ap (λ x. set_later rows x a) (sym s.2) ∙ h.1 s.0 (omega arith) (ap such s.2 ∙ e),
)

-- an address that is sought is the client's
both : (t u : Bool) → (t && u) ≡ true → t ≡ true
both true u h = refl
both false u h = h

mine : (q : Asking) (row : Row) (t u : Bool) → (t && (belongs_to q.client row && u)) ≡ true → belongs_to q.client row ≡ true
mine q row true u h = both (belongs_to q.client row) u h
mine q row false u h = absurd (false≢true h)

past_is_mine : (t u : Bool) → (t && u) ≡ true → u ≡ true
past_is_mine true u h = h
past_is_mine false u h = absurd (false≢true h)

such_is_mine : (q : Asking) (such : Row → Bool) → ((row : Row) → such row ≡ true → belongs_to q.client row ≡ true) → (o : Option Row) → has_such such o ≡ true → has_such (belongs_to q.client) o ≡ true
such_is_mine q such h None g = g
such_is_mine q such h (Some row) g = h row g

held_is_mine : (q : Asking) (a : ℕ) → held_at q a ≡ true → has_such (belongs_to q.client) (row_at q.rows a) ≡ true
held_is_mine q a h = such_is_mine q (held_row q) (λ row g. mine q row (live_row q.now row) (holding_state row.state) g) (row_at q.rows a) h

had_is_mine : (q : Asking) (a : ℕ) → past_at q a ≡ true → has_such (belongs_to q.client) (row_at q.rows a) ≡ true
had_is_mine q a h = such_is_mine q (past_row q) (λ row g. past_is_mine (not (live_row q.now row)) (belongs_to q.client row) g) (row_at q.rows a) h

own_is_mine : (q : Asking) (s : Subnet) (a : ℕ) → has_rank q s own a ≡ true → has_such (belongs_to q.client) (row_at q.rows a) ≡ true
own_is_mine q s a h = held_is_mine q a (both (held_at q a) (fitting_for q s a) h)

past_is_its : (q : Asking) (s : Subnet) (a : ℕ) → has_rank q s past a ≡ true → has_such (belongs_to q.client) (row_at q.rows a) ≡ true
past_is_its q s a h = had_is_mine q a (both (past_at q a) (fitting_for q s a) h)

pub sought_is_mine : (q : Asking) (sought : Sought) (a : ℕ) → sought_at q sought a ≡ true → has_such (belongs_to q.client) (row_at q.rows a) ≡ true
sought_is_mine q (seeks.Own choosing) a h = held_is_mine q a (both (held_at q a) (fitting_with choosing.now a) h)
sought_is_mine q (seeks.Past choosing) a h = had_is_mine q a (both (past_at q a) (fitting_with choosing.now a) h)
sought_is_mine q seeks.Offer a h = such_is_mine q (λ row. live_row q.now row && (belongs_to q.client row && offered_state row.state)) (λ row g. mine q row (live_row q.now row) (offered_state row.state) g) (row_at q.rows a) h

-- the step of the code is that of the lemmas
pub better_is : (q : Asking) (sought : Sought) (best : Option ℕ) (a : ℕ) → newer_of q sought best a ≡ better_of q.rows (sought_at q sought) best a
better_is q sought None a = refl
better_is q sought (Some b) a = refl

-- what fits a choice is what fits its subnet for its client
fits_same : (choosing : Choosing) (such : ℕ → Bool) (b : ℕ) → (such b && fitting_with choosing b) ≡ (such b && fitting_for (asking choosing.question.now) choosing.subnet.now b)
fits_same choosing such b = ap (λ (own : Option ℕ). such b && (common_in choosing.question.now.config.now choosing.question.now.names.now choosing.subnet.now b || same_address own b)) choosing.reserved

-- an address sought among those that the client holds, or held before, has that rank
pub own_sought : (choosing : Bor Choosing) (b : ℕ) → sought_at (asking choosing.now.question.now) (seeks.Own choosing) b ≡ has_rank (asking choosing.now.question.now) choosing.now.subnet.now own b
own_sought choosing = fits_same choosing.now (held_at (asking choosing.now.question.now))

pub past_sought : (choosing : Bor Choosing) (b : ℕ) → sought_at (asking choosing.now.question.now) (seeks.Past choosing) b ≡ has_rank (asking choosing.now.question.now) choosing.now.subnet.now past b
past_sought choosing = fits_same choosing.now (past_at (asking choosing.now.question.now))

-- the better address is the same under equal tests
pub better_same : (rows : List Row) (p r : ℕ → Bool) (best : Option ℕ) (a : ℕ) → p a ≡ r a → better_of rows p best a ≡ better_of rows r best a
better_same rows p r None a same = ap (λ (t : Bool). if t then Some a else None) same
better_same rows p r (Some b) a same = ap (λ (t : Bool). if t && set_later rows a b then Some a else Some b) same

-- there is no address after the last
pub get_past : (xs : List ℕ) (i : ℕ) → slice_get xs i ≡ None → length xs ≤ i
get_past xs i h = ⊎_elim (λ (x, less, is, at). absurd (none-some x (sym h ∙ is))) (λ p. p.0) (slice_get_cases xs i).1

-- among the first n of a client's addresses, the newest that it holds, and the newest whose row has
-- ended
pub record AreKnown (q : Asking) (s : Subnet) (n : ℕ) (o p : Option ℕ) : Type 0 where
  pub held : IsNewestOf q.rows (has_rank q s own) (addresses_of q.client q.rows) n o
  pub had : IsNewestOf q.rows (has_rank q s past) (addresses_of q.client q.rows) n p

-- one more address
pub known_more : (q : Asking) (s : Subnet) (n : ℕ) (o p : Option ℕ) (a : ℕ) → AreKnown q s n o p → get_or (addresses_of q.client q.rows) n 0 ≡ a
    → AreKnown q s (n + 1) (better_of q.rows (has_rank q s own) o a) (better_of q.rows (has_rank q s past) p a)
known_more q s n o p a k here = record {
  held = let P : ℕ → Type 0 = λ x. IsNewestOf q.rows (has_rank q s own) (addresses_of q.client q.rows) (n + 1) (better_of q.rows (has_rank q s own) o x) in subst P here (newest_more q.rows (has_rank q s own) (addresses_of q.client q.rows) n o k.held);
  had = let P : ℕ → Type 0 = λ x. IsNewestOf q.rows (has_rank q s past) (addresses_of q.client q.rows) (n + 1) (better_of q.rows (has_rank q s past) p x) in subst P here (newest_more q.rows (has_rank q s past) (addresses_of q.client q.rows) n p k.had);
}

-- all of them
pub all_own : (q : Asking) (s : Subnet) (n : ℕ) (o p : Option ℕ) → AreKnown q s n o p → length (addresses_of q.client q.rows) ≤ n → IsRanked q s own o
all_own q s n o p k all = by o (newest_of_all q.rows (has_rank q s own) q.client n o (own_is_mine q s) all k.held) where
  by : (o : Option ℕ) → IsNewest q.rows (has_rank q s own) o → IsRanked q s own o
  by None h = h
  by (Some a) h = record { ranked = h.0; first = h.1 }

pub all_past : (q : Asking) (s : Subnet) (n : ℕ) (o p : Option ℕ) → AreKnown q s n o p → length (addresses_of q.client q.rows) ≤ n → IsRanked q s past p
all_past q s n o p k all = by p (newest_of_all q.rows (has_rank q s past) q.client n p (past_is_its q s) all k.had) where
  by : (p : Option ℕ) → IsNewest q.rows (has_rank q s past) p → IsRanked q s past p
  by None h = h
  by (Some a) h = record { ranked = h.0; first = h.1 }
