-- A client's record in a subnet: its row with the lowest address in the prefix, or in that of a
-- subnet of the same network, if it has one there.
use Rattle.std.proofs.Common.{◌≡◌, ℕ, ◌+◌, ◌-◌, ◌<◌, Bool, Bor, true, false, ◌&&◌, ◌||◌, ◌==◌, List, [], ◌∷◌, Option, Some, None, is_some, refl, ap, subst, sym, ◌∙◌, arith, if◌then◌else◌}
use Rattle.std.specs.List.{list_any}
use Rattle.std.specs.Option.{option_copied}
use Rattle.std.proofs.lemmas.Bool.{and_parts, eqb-true, false≢true}
use Rattle.std.proofs.lemmas.Bool.Decides.{nat_tests}
use Rattle.std.proofs.lemmas.Nat.{pow_pos}
use Rattle.kd_rows.specs.Table.{IsNextOf, belongs_to, row_at}
use Rattle.kd_rows.specs.declared.row.Row.{Row}
use Rattle.kd_config.specs.Address.{has_address, prefix_size}
use Rattle.kd_config.specs.Networks.{covers, is_part}
use Rattle.kd_config.specs.declared.prefix.Prefix.{Prefix}
use Rattle.kd_config.specs.declared.subnet.Subnet.{Subnet}
use Rattle.kd_lease.specs.Choice.{Asking, has_such}
use Rattle.kd_lease.specs.Kept.{passes}
use Rattle.kd_lease.specs.Rules.{client_has, is_record, known_in}
use Rattle.kd_lease.specs.Seeking.{has_row_in, has_row_of}

both : (t u : Bool) → t ≡ true → u ≡ true → (t && u) ≡ true
both true u e f = f
both false u e f = e

-- a row of the client is at an address in a prefix
abbrev is_row_in : Asking → Prefix → ℕ → Bool
is_row_in q prefix b = client_has q b && has_address prefix b

-- a row of the client from the first address of the prefix to the last is one
record_there : (q : Asking) (prefix : Prefix) (last : ℕ) (row : Row) → last ≡ prefix.address + (prefix_size prefix.length - 1) → IsNextOf q.rows q.client prefix.address last (Some row) → is_row_in q prefix row.address ≡ true
record_there q prefix last row is (there, from, to, own, first) =
    let positive : 0 < prefix_size prefix.length = pow_pos (32 - prefix.length) in
    both (client_has q row.address) (has_address prefix row.address) (ap (has_such (belongs_to q.client)) there ∙ own) (grind (arith, nat_tests))

-- there is none where no row is found
none_there : (q : Asking) (prefix : Prefix) (last : ℕ) → last ≡ prefix.address + (prefix_size prefix.length - 1) → IsNextOf q.rows q.client prefix.address last None → (b : ℕ) → is_row_in q prefix b ≡ false
none_there q prefix last is none b = by (has_address prefix b) (row_at q.rows b) refl refl where
  positive : 0 < prefix_size prefix.length
  positive = pow_pos (32 - prefix.length)

  off : (t : Bool) → (t && false) ≡ false
  off true = refl
  off false = refl

  by : (t : Bool) (at : Option Row) → has_address prefix b ≡ t → row_at q.rows b ≡ at → (has_such (belongs_to q.client) at && t) ≡ false
  by false at e f = off (has_such (belongs_to q.client) at)
  by true None e f = refl
  by true (Some row) e f =
      let other : belongs_to q.client row ≡ false = none b row (grind (arith, nat_tests)) (grind (arith, nat_tests)) f in
      ap (λ (t : Bool). t && true) other

-- a test that the addresses of no rows pass
none_passes : (test : ℕ → Bool) (rows : List Row) → ((b : ℕ) → test b ≡ false) → list_any (λ row. test row.address) rows ≡ false
none_passes test [] none = λ i. false
none_passes test (row ∷ rows) none = ap (λ b. b || list_any (λ r. test r.address) rows) (none row.address) ∙ none_passes test rows none

-- the address of a row that is there passes if it does
one_passes : (test : ℕ → Bool) (rows : List Row) (b : ℕ) (such : Row → Bool) → has_such such (row_at rows b) ≡ true → test b ≡ true → list_any (λ row. test row.address) rows ≡ true
one_passes test [] b such there passes = absurd (false≢true there)
one_passes test (row ∷ rows) b such there passes = by (row.address == b) there (λ i. row.address == b) (λ found. one_passes test rows b such found passes) where
  or_more : (t : Bool) → list_any (λ r. test r.address) rows ≡ true → (t || list_any (λ r. test r.address) rows) ≡ true
  or_more true more = λ i. true
  or_more false more = more

  by : (same : Bool) → has_such such (if same then Some row else row_at rows b) ≡ true → (row.address == b) ≡ same → (has_such such (row_at rows b) ≡ true → list_any (λ r. test r.address) rows ≡ true)
      → (test row.address || list_any (λ r. test r.address) rows) ≡ true
  by true found e rest = ap (λ t. t || list_any (λ r. test r.address) rows) (subst (λ (a : ℕ). test a ≡ true) (sym (eqb-true row.address b e)) passes)
  by false found e rest = or_more (test row.address) (rest found)

-- a number is none other
pub is_other : (a b : ℕ) → (a ≡ b → ⊥) → (a == b) ≡ false
is_other a b other = by (a == b) refl where
  by : (t : Bool) → (a == b) ≡ t → (a == b) ≡ false
  by true e = absurd (other (eqb-true a b e))
  by false e = e

-- what a search for the first row in a prefix finds
pub found_if : (q : Asking) (prefix : Prefix) (last : ℕ) (found : Option (Bor Row)) → last ≡ prefix.address + (prefix_size prefix.length - 1) → IsNextOf q.rows q.client prefix.address last (option_copied found) → is_some found ≡ has_row_in q prefix
found_if q prefix last None is next = sym (none_passes (is_row_in q prefix) q.rows (none_there q prefix last is next))
found_if q prefix last (Some row) is next =
    let there = record_there q prefix last row.now is next in
    sym (one_passes (is_row_in q prefix) q.rows row.now.address (belongs_to q.client) (and_parts (client_has q row.now.address) (has_address prefix row.now.address) there).0 there)

-- a client is known in a subnet of no network if it has a row in its prefix
pub known_alone : (q : Asking) (s : Subnet) (found : Bool) → (s.network == 0) ≡ true → found ≡ has_row_in q s.prefix → found ≡ known_in q (Some s)
known_alone q s found alone is =
    is ∙ ap (λ (b : Bool). list_any (λ row. client_has q row.address && (if b then has_address s.prefix row.address else list_any (is_part s.network row.address) q.config.subnets)) q.rows) (sym alone)

-- one part more: by the part or by the others
one_part : (p c h o a b : Bool) → ((p && (c && h || a)) || (c && o || b)) ≡ (c && (p && h || o) || (p && a || b))
one_part false c h o a b = refl
one_part true false h o a b = refl
one_part true true true o a b = refl
one_part true true false true true b = refl
one_part true true false true false b = refl
one_part true true false false true b = refl
one_part true true false false false b = refl

nothing : (p : Bool) → (p && false || false) ≡ false
nothing true = refl
nothing false = refl

of_part : (p : Bool) (c h o : Row → Bool) (rows : List Row) → ((p && list_any (λ r. c r && h r) rows) || list_any (λ r. c r && o r) rows) ≡ list_any (λ r. c r && (p && h r || o r)) rows
of_part p c h o [] = nothing p
of_part p c h o (r ∷ rows) =
    one_part p (c r) (h r) (o r) (list_any (λ r. c r && h r) rows) (list_any (λ r. c r && o r) rows)
    ∙ ap (λ (t : Bool). c r && (p && h r || o r) || t) (of_part p c h o rows)

no_part : (c : Row → Bool) (rows : List Row) → false ≡ list_any (λ r. c r && false) rows
no_part c [] = refl
no_part c (r ∷ rows) = by (c r) (no_part c rows) where
  by : (t : Bool) → false ≡ list_any (λ r. c r && false) rows → false ≡ (t && false || list_any (λ r. c r && false) rows)
  by true none = none
  by false none = none

-- part by part, or row by row
by_rows : (q : Asking) (n : ℕ) (subnets : List Subnet) (rows : List Row) → list_any (λ s. s.network == n && list_any (λ row. is_row_in q s.prefix row.address) rows) subnets ≡ list_any (λ row. client_has q row.address && list_any (is_part n row.address) subnets) rows
by_rows q n [] rows = no_part (λ row. client_has q row.address) rows
by_rows q n (s ∷ subnets) rows =
    ap (λ (t : Bool). s.network == n && list_any (λ row. is_row_in q s.prefix row.address) rows || t) (by_rows q n subnets rows)
    ∙ of_part (s.network == n) (λ row. client_has q row.address) (λ row. has_address s.prefix row.address) (λ row. list_any (is_part n row.address) subnets) rows

-- and in one of a network if it has a row in the prefix of one of its subnets
pub known_within : (q : Asking) (s : Subnet) (found : Bool) → (s.network == 0) ≡ false → found ≡ list_any (has_row_of q s.network) q.config.subnets → found ≡ known_in q (Some s)
known_within q s found other is =
    is ∙ by_rows q s.network q.config.subnets q.rows
    ∙ ap (λ (b : Bool). list_any (λ row. client_has q row.address && (if b then has_address s.prefix row.address else list_any (is_part s.network row.address) q.config.subnets)) q.rows) (sym other)

-- a client that has a row at an address of a subnet is known in it
pub known_there : (q : Asking) (s : Subnet) (about : Option ℕ) → passes (is_record q s) about ≡ true → true ≡ known_in q (Some s)
known_there q s None there = absurd (false≢true there)
known_there q s (Some a) there = sym (one_passes (is_record q s) q.rows a (belongs_to q.client) (and_parts (client_has q a) (covers q.config.subnets s a) there).0 there)
