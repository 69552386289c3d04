-- The next zone in which a client has a row in a state.
use Rattle.std.proofs.Common.{◌≡◌, ℕ, ◌+◌, ◌*◌, ◌<◌, ◌≤◌, Bool, true, false, ◌&&◌, ◌==◌, nat_eq, List, length, get_or, refl, sym, ap, ◌∙◌, subst, Option, Some, None, is_some, ⊎_elim, arith}
use Rattle.std.specs.Cmp.Lexicographic.{bytes_decides, nat_list_cmp_total, pointwise, slice_cmp}
use Rattle.std.specs.Ordering.{is_lt, nat_cmp, ordering_then}
use Rattle.std.specs.declared.cmp.Ordering.{Ordering}
use Rattle.std.specs.declared.cmp.Ordering.TheVariants.{Less, Equal, Greater}
use Rattle.std.proofs.lemmas.Bool.{cases_eq, cases_lt, eq-eqb, eqb-true, false≢true}
use Rattle.std.proofs.lemmas.Bool.Decides.{nat_tests}
use Rattle.std.proofs.lemmas.Cmp.{tied_itself}
use Rattle.std.proofs.lemmas.Map.Lookups.{exact_bytes}
use Rattle.std.proofs.lemmas.Option.{same_Some}
use Rattle.kd_rows.specs.declared.age.Age.{Age}
use Rattle.kd_rows.specs.declared.row.Row.{Row}
use Rattle.kd_rows.specs.declared.row.State.{State}
use Rattle.kd_rows.specs.Ages.{IsAgeStart, key_of_age}
use Rattle.kd_rows.specs.Index.{IsKeyBelow, IsIndex, IsKeyPlace, age_at, age_key, age_of, key_order, order_in}
use Rattle.kd_rows.specs.Row.{state_number}
use Rattle.kd_rows.specs.Table.{row_at}
use Rattle.kd_rows.specs.Zones.{IsNextZone, group_in, group_number, is_kind, zone_in}
use Rattle.kd_rows.proofs.Ages.{age_key_order}
use Rattle.kd_rows.proofs.Keys.{Stands, listed_at}
use Rattle.kd_rows.proofs.Newest.{left_of}

-- for keys of one client the group comes first
one_client : (c : List ℕ) (s u t v a b : ℕ) → key_order (age_key c s t, a) (age_key c u v, b) ≡ ordering_then (ordering_then (nat_cmp s u) (nat_cmp t v)) (nat_cmp a b)
one_client c s u t v a b = age_key_order c c s u t v a b ∙ ap (λ (o : Ordering). ordering_then (ordering_then o (ordering_then (nat_cmp s u) (nat_cmp t v))) (nat_cmp a b)) (tied_itself nat_list_cmp_total c)

below_start : (c : List ℕ) (s u t a : ℕ) → IsKeyBelow (age_key c s t, a) (age_key c u 0, 0) → s < u
below_start c s u t a h = by s u t a (sym (one_client c s u t 0 a 0) ∙ h) where
  by : (s u t a : ℕ) → ordering_then (ordering_then (nat_cmp s u) (nat_cmp t 0)) (nat_cmp a 0) ≡ Less → s < u
  by s u t a g = let l : is_lt (ordering_then (ordering_then (nat_cmp s u) (nat_cmp t 0)) (nat_cmp a 0)) ≡ true = ap is_lt g in grind (arith, nat_tests)

not_below_start : (c : List ℕ) (s u t a : ℕ) → (IsKeyBelow (age_key c s t, a) (age_key c u 0, 0) → ⊥) → u ≤ s
not_below_start c s u t a h = ⊎_elim (λ l. absurd (h (one_client c s u t 0 a 0 ∙ by s u t a l))) (λ le. le) (cases_lt s u) where
  less : (s u : ℕ) → s < u → nat_cmp s u ≡ Less
  less s u l = grind (arith, nat_tests)

  by : (s u t a : ℕ) → s < u → ordering_then (ordering_then (nat_cmp s u) (nat_cmp t 0)) (nat_cmp a 0) ≡ Less
  by s u t a l = rw (less s u l) refl

below_group : (c : List ℕ) (s u t v a b : ℕ) → IsKeyBelow (age_key c s t, a) (age_key c u v, b) → s ≤ u
below_group c s u t v a b h = by s u t v a b (sym (one_client c s u t v a b) ∙ h) where
  by : (s u t v a b : ℕ) → ordering_then (ordering_then (nat_cmp s u) (nat_cmp t v)) (nat_cmp a b) ≡ Less → s ≤ u
  by s u t v a b g = let l : is_lt (ordering_then (ordering_then (nat_cmp s u) (nat_cmp t v)) (nat_cmp a b)) ≡ true = ap is_lt g in grind (arith, nat_tests)

-- a key between two keys of one client is that client's
between_clients : (c d : List ℕ) (s u w t v x a b e : ℕ) → (IsKeyBelow (age_key c s t, a) (age_key d u v, b) → ⊥) → IsKeyBelow (age_key c s t, a) (age_key d w x, e) → c ≡ d
between_clients c d s u w t v x a b e not_first second = exact_bytes c d (tie (slice_cmp nat_cmp c d) (λ o. not_first (age_key_order c d s u t v a b ∙ o)) (sym (age_key_order c d s w t x a e) ∙ second)) where
  tie : (o : Ordering) → (ordering_then (ordering_then o (ordering_then (nat_cmp s u) (nat_cmp t v))) (nat_cmp a b) ≡ Less → ⊥) → ordering_then (ordering_then o (ordering_then (nat_cmp s w) (nat_cmp t x))) (nat_cmp a e) ≡ Less → o ≡ Equal
  tie Less h g = absurd (h refl)
  tie Equal h g = refl
  tie Greater h g = cc

zone_fits : (cuts : List ℕ) (a : ℕ) → zone_in cuts a < 4294967296
zone_fits cuts a = omega arith

-- a row of a client in a state, in parts
kind_parts : (client : List ℕ) (state : State) (row : Row) → is_kind client state row ≡ true → (row.client ≡ client) × (state_number row.state ≡ state_number state)
kind_parts client state row h = by (pointwise nat_eq row.client client) refl h where
  by : (b : Bool) → pointwise nat_eq row.client client ≡ b → (b && (state_number row.state == state_number state)) ≡ true → (row.client ≡ client) × (state_number row.state ≡ state_number state)
  by true e g = ((bytes_decides row.client client).0 e, eqb-true (state_number row.state) (state_number state) g)
  by false e g = absurd (false≢true g)

kind_from : (client : List ℕ) (state : State) (row : Row) → row.client ≡ client → state_number row.state ≡ state_number state → is_kind client state row ≡ true
kind_from client state row c s = rw ((bytes_decides row.client client).1 c) (eq-eqb (state_number row.state) (state_number state) s)

-- where a search for the later zones begins
pub record Seek (rows : List Row) (ages cuts client : List ℕ) (state : State) (zone place : ℕ) : Type 0 where
  pub indexed : IsIndex (age_of cuts) rows ages
  pub begins : IsKeyPlace (age_at cuts rows) ages (age_key client (group_number state (zone + 1)) 0, 0) place

-- an index from which such a search begins
pub seek_from : (rows : List Row) (ages cuts client : List ℕ) (state : State) (zone place group : ℕ) (from : Age) → IsIndex (age_of cuts) rows ages → group ≡ group_number state (zone + 1) → IsAgeStart client group None from → IsKeyPlace (age_at cuts rows) ages (key_of_age from) place → Seek rows ages cuts client state zone place
seek_from rows ages cuts client state zone place group from indexed is start p = record {
  indexed = indexed;
  begins = subst (λ (k : List ℕ × ℕ). IsKeyPlace (age_at cuts rows) ages k place) key p;
} where
  key : key_of_age from ≡ (age_key client (group_number state (zone + 1)) 0, 0)
  key =
      ap (λ (c : List ℕ). (age_key c from.group from.left, from.address)) start.owner
      ∙ (ap (λ (g : ℕ). (age_key client g from.left, from.address)) (start.kind ∙ is)
      ∙ (ap (λ (l : ℕ). (age_key client (group_number state (zone + 1)) l, from.address)) start.from.0
      ∙ ap (λ (a : ℕ). (age_key client (group_number state (zone + 1)) 0, a)) start.from.1))

-- the key at an index
key_there : (cuts : List ℕ) (rows : List Row) (ages : List ℕ) (i : ℕ) (row : Row) → row_at rows (get_or ages i 0) ≡ Some row → age_at cuts rows (get_or ages i 0) ≡ (age_key row.client (group_in cuts row) (left_of row), get_or ages i 0)
key_there cuts rows ages i row there = ap (λ (o : Option Row). (order_in (age_of cuts) o, get_or ages i 0)) there

-- the key of a row of the client in the state
kind_key : (cuts : List ℕ) (rows : List Row) (ages client : List ℕ) (state : State) (i : ℕ) (row : Row) → row_at rows (get_or ages i 0) ≡ Some row → is_kind client state row ≡ true → age_at cuts rows (get_or ages i 0) ≡ (age_key client (group_number state (zone_in cuts row.address)) (left_of row), get_or ages i 0)
kind_key cuts rows ages client state i row there is =
    key_there cuts rows ages i row there
    ∙ (ap (λ (c : List ℕ). (age_key c (group_in cuts row) (left_of row), get_or ages i 0)) (kind_parts client state row is).0
    ∙ ap (λ (s : ℕ). (age_key client (s * 4294967296 + zone_in cuts row.address) (left_of row), get_or ages i 0)) (kind_parts client state row is).1)

-- an existing row is at an index
stands_at : (cuts : List ℕ) (rows : List Row) (ages : List ℕ) (a : ℕ) (row : Row) → IsIndex (age_of cuts) rows ages → row_at rows a ≡ Some row → (i : ℕ) × (i < length ages) × (row_at rows (get_or ages i 0) ≡ Some row)
stands_at cuts rows ages a row indexed there = by (listed_at ages a (indexed.same a ∙ ap is_some there)) where
  by : Stands ages a → (i : ℕ) × (i < length ages) × (row_at rows (get_or ages i 0) ≡ Some row)
  by s = (s.place, s.within, subst (λ (x : ℕ). row_at rows x ≡ Some row) (sym s.here) there)

-- no row before the index is in a later zone
low_zone : (rows : List Row) (ages cuts client : List ℕ) (state : State) (zone place i : ℕ) (row : Row) → Seek rows ages cuts client state zone place → i < place → row_at rows (get_or ages i 0) ≡ Some row → is_kind client state row ≡ true → zone_in cuts row.address ≤ zone
low_zone rows ages cuts client state zone place i row seek low there is =
    let h = below_start client (group_number state (zone_in cuts row.address)) (group_number state (zone + 1)) (left_of row) (get_or ages i 0)
    (subst (λ (k : List ℕ × ℕ). IsKeyBelow k (age_key client (group_number state (zone + 1)) 0, 0)) (kind_key cuts rows ages client state i row there is) (seek.begins.below i low)) in
    omega arith

-- if there is nothing from the index on, no row is in a later zone
pub none_later : (rows : List Row) (ages cuts client : List ℕ) (state : State) (zone place : ℕ) → Seek rows ages cuts client state zone place → length ages ≤ place → IsNextZone rows cuts client state zone None
none_later rows ages cuts client state zone place seek all a row at is =
    let s = stands_at cuts rows ages a row seek.indexed at in
    low_zone rows ages cuts client state zone place s.0 row seek (let l = s.1 in omega arith) s.2 is

-- nor if a row of another client or state is there
pub none_there : (rows : List Row) (ages cuts client : List ℕ) (state : State) (zone place : ℕ) (here : Row) → Seek rows ages cuts client state zone place → place < length ages → row_at rows (get_or ages place 0) ≡ Some here → is_kind client state here ≡ false → IsNextZone rows cuts client state zone None
none_there rows ages cuts client state zone place here seek within there out a row at is = by (stands_at cuts rows ages a row seek.indexed at) where
  behind : (j : ℕ) → place < j → j < length ages → row_at rows (get_or ages j 0) ≡ Some row → zone_in cuts row.address ≤ zone
  behind j order inside at_j = absurd (false≢true (sym out ∙ kind_from client state here mine kind)) where
    second : IsKeyBelow (age_key here.client (group_in cuts here) (left_of here), get_or ages place 0) (age_key client (group_number state (zone_in cuts row.address)) (left_of row), get_or ages j 0)
    second =
        subst (λ (k : List ℕ × ℕ). IsKeyBelow k (age_key client (group_number state (zone_in cuts row.address)) (left_of row), get_or ages j 0)) (key_there cuts rows ages place here there)
        (subst (λ (k : List ℕ × ℕ). IsKeyBelow (age_at cuts rows (get_or ages place 0)) k) (kind_key cuts rows ages client state j row at_j is) (seek.indexed.rising place j order inside))

    first : IsKeyBelow (age_key here.client (group_in cuts here) (left_of here), get_or ages place 0) (age_key client (group_number state (zone + 1)) 0, 0) → ⊥
    first h = seek.begins.above place (omega arith) within (subst (λ (k : List ℕ × ℕ). IsKeyBelow k (age_key client (group_number state (zone + 1)) 0, 0)) (sym (key_there cuts rows ages place here there)) h)

    mine : here.client ≡ client
    mine = between_clients here.client client (group_in cuts here) (group_number state (zone + 1)) (group_number state (zone_in cuts row.address)) (left_of here) 0 (left_of row) (get_or ages place 0) 0 (get_or ages j 0) first second

    from_low : group_number state (zone + 1) ≤ group_in cuts here
    from_low = not_below_start client (group_in cuts here) (group_number state (zone + 1)) (left_of here) (get_or ages place 0) (subst (λ (c : List ℕ). IsKeyBelow (age_key c (group_in cuts here) (left_of here), get_or ages place 0) (age_key client (group_number state (zone + 1)) 0, 0) → ⊥) mine first)

    to_high : group_in cuts here ≤ group_number state (zone_in cuts row.address)
    to_high = below_group client (group_in cuts here) (group_number state (zone_in cuts row.address)) (left_of here) (left_of row) (get_or ages place 0) (get_or ages j 0) (subst (λ (c : List ℕ). IsKeyBelow (age_key c (group_in cuts here) (left_of here), get_or ages place 0) (age_key client (group_number state (zone_in cuts row.address)) (left_of row), get_or ages j 0)) mine second)

    kind : state_number here.state ≡ state_number state
    kind = one (state_number here.state) (state_number state) (zone_in cuts here.address) (zone_in cuts row.address) (zone_fits cuts here.address) (zone_fits cuts row.address) from_low to_high where
      one : (s t z w : ℕ) → z < 4294967296 → w < 4294967296 → t * 4294967296 + (zone + 1) ≤ s * 4294967296 + z → s * 4294967296 + z ≤ t * 4294967296 + w → s ≡ t
      one s t z w lz lw low high = omega arith

  by : (i : ℕ) × (i < length ages) × (row_at rows (get_or ages i 0) ≡ Some row) → zone_in cuts row.address ≤ zone
  by s = ⊎_elim (λ l. low_zone rows ages cuts client state zone place s.0 row seek l s.2 is)
      (λ l. ⊎_elim
      (λ e. absurd (false≢true (sym out ∙ (ap (is_kind client state) (same_Some here row (sym there ∙ (ap (λ (j : ℕ). row_at rows (get_or ages j 0)) (sym e) ∙ s.2))) ∙ is))))
      (λ n. behind s.0 (omega arith) s.1 s.2) (cases_eq s.0 place))
      (cases_lt s.0 place)

-- a row of the client in the state that is there is in the next zone
pub next_there : (rows : List Row) (ages cuts client : List ℕ) (state : State) (zone place : ℕ) (here : Row) → Seek rows ages cuts client state zone place → place < length ages → row_at rows (get_or ages place 0) ≡ Some here → is_kind client state here ≡ true → IsNextZone rows cuts client state zone (Some (zone_in cuts here.address))
next_there rows ages cuts client state zone place here seek within there own = (later, between) where
  later : zone < zone_in cuts here.address
  later =
      let h = not_below_start client (group_number state (zone_in cuts here.address)) (group_number state (zone + 1)) (left_of here) (get_or ages place 0)
      (λ k. seek.begins.above place (omega arith) within (subst (λ (l : List ℕ × ℕ). IsKeyBelow l (age_key client (group_number state (zone + 1)) 0, 0)) (sym (kind_key cuts rows ages client state place here there own)) k)) in
      omega arith

  behind : (j : ℕ) (row : Row) → place < j → j < length ages → row_at rows (get_or ages j 0) ≡ Some row → is_kind client state row ≡ true → zone_in cuts here.address ≤ zone_in cuts row.address
  behind j row order inside at_j is =
      let h = below_group client (group_number state (zone_in cuts here.address)) (group_number state (zone_in cuts row.address)) (left_of here) (left_of row) (get_or ages place 0) (get_or ages j 0)
      (subst (λ (k : List ℕ × ℕ). IsKeyBelow k (age_key client (group_number state (zone_in cuts row.address)) (left_of row), get_or ages j 0)) (kind_key cuts rows ages client state place here there own)
      (subst (λ (k : List ℕ × ℕ). IsKeyBelow (age_at cuts rows (get_or ages place 0)) k) (kind_key cuts rows ages client state j row at_j is) (seek.indexed.rising place j order inside))) in
      omega arith

  between : (a : ℕ) (row : Row) → row_at rows a ≡ Some row → is_kind client state row ≡ true → zone_in cuts row.address < zone_in cuts here.address → zone_in cuts row.address ≤ zone
  between a row at is less = by (stands_at cuts rows ages a row seek.indexed at) where
    by : (i : ℕ) × (i < length ages) × (row_at rows (get_or ages i 0) ≡ Some row) → zone_in cuts row.address ≤ zone
    by s = ⊎_elim (λ l. low_zone rows ages cuts client state zone place s.0 row seek l s.2 is)
        (λ l. ⊎_elim
        (λ e. let same : here ≡ row = same_Some here row (sym there ∙ (ap (λ (j : ℕ). row_at rows (get_or ages j 0)) (sym e) ∙ s.2)) in let z : zone_in cuts here.address ≡ zone_in cuts row.address = ap (λ (r : Row). zone_in cuts r.address) same in omega arith)
        (λ n. let h = behind s.0 row (omega arith) s.1 s.2 is in omega arith) (cases_eq s.0 place))
        (cases_lt s.0 place)
