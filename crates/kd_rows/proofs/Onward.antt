-- A client's row with the lowest address from one on is at the index of that address's key.
use Rattle.std.proofs.Common.{◌≡◌, ℕ, ◌<◌, ◌≤◌, true, false, List, length, get_or, sym, ap, ◌∙◌, subst, Some, is_some, ⊎_elim, arith}
use Rattle.std.specs.Cmp.Lexicographic.{bytes_decides, nat_list_cmp_total, slice_cmp}
use Rattle.std.specs.Ordering.{nat_cmp, ordering_then}
use Rattle.std.specs.declared.cmp.Ordering.{Ordering}
use Rattle.std.specs.declared.cmp.Ordering.TheVariants.{Less, Equal}
use Rattle.std.proofs.lemmas.Bool.{cases_Bool, cases_eq, cases_lt}
use Rattle.std.proofs.lemmas.Bool.Decides.{nat_tests}
use Rattle.std.proofs.lemmas.Cmp.{tied_itself}
use Rattle.kd_rows.specs.declared.row.Row.{Row}
use Rattle.kd_rows.specs.Index.{IsKeyBelow, IsIndex, IsKeyPlace, client_at, client_in, client_of, key_at}
use Rattle.kd_rows.specs.Table.{IsNextOf, belongs_to, row_at}
use Rattle.kd_rows.proofs.Keys.{Stands, listed_at}
use Rattle.kd_rows.proofs.Owned.{not_again, same_client}

-- if a client has a row at an address from first on, one of its addresses is at the index of first,
-- and it is no higher
pub record Begins (rows : List Row) (index client : List ℕ) (place a : ℕ) : Type 0 where
  pub within : place < length index
  pub owner : client_at rows (get_or index place 0) ≡ client
  pub least : get_or index place 0 ≤ a

pub begins : (rows : List Row) (index client : List ℕ) (first place a : ℕ) (row : Row) → IsIndex client_of rows index → IsKeyPlace (key_at rows) index (client, first) place → first ≤ a → row_at rows a ≡ Some row → belongs_to client row ≡ true → Begins rows index client place a
begins rows index client first place a row indexed p from there own = by (listed_at index a (indexed.same a ∙ ap is_some there)) where
  theirs : client_at rows a ≡ client
  theirs = ap client_in there ∙ (bytes_decides row.client client).0 own

  at : (i : ℕ) → get_or index i 0 ≡ a → client_at rows (get_or index i 0) ≡ client
  at i e = ap (client_at rows) e ∙ theirs

  by : Stands index a → Begins rows index client place a
  by s = ⊎_elim
      (λ before. absurd (let h = same_client (client_at rows (get_or index s.place 0)) client (get_or index s.place 0) first (at s.place s.here) (p.below s.place before) in omega (arith, s.here)))
      (λ after. ⊎_elim
      (λ e. record {
        within = omega (arith, s.within);
        owner = subst (λ (i : ℕ). client_at rows (get_or index i 0) ≡ client) e (at s.place s.here);
        least = subst (λ (i : ℕ). get_or index i 0 ≤ a) e (omega (arith, s.here));
      })
      (λ n. behind s after n)
      (cases_eq s.place place))
      (cases_lt s.place place) where
        behind : (s : Stands index a) → place ≤ s.place → (s.place ≡ place → ⊥) → Begins rows index client place a
        behind s after n =
            let below : IsKeyBelow (key_at rows (get_or index place 0)) (client, a) =
            subst (λ (x : ℕ). IsKeyBelow (key_at rows (get_or index place 0)) (client, x)) s.here
            (subst (λ (c : List ℕ). IsKeyBelow (key_at rows (get_or index place 0)) (c, get_or index s.place 0)) (at s.place s.here) (indexed.rising place s.place (omega arith) s.within)) in
            let owner : client_at rows (get_or index place 0) ≡ client =
            not_again (client_at rows (get_or index place 0)) client (get_or index place 0) first a (p.above place (omega arith) (omega (arith, s.within))) below in
            record {
              within = omega (arith, s.within);
              owner = owner;
              least = let h = same_client (client_at rows (get_or index place 0)) client (get_or index place 0) a owner below in omega arith;
            }

-- if that is not so, a row from first on is not the client's
pub none_unless : (rows : List Row) (index client : List ℕ) (first place a : ℕ) (row : Row) → IsIndex client_of rows index → IsKeyPlace (key_at rows) index (client, first) place → first ≤ a → row_at rows a ≡ Some row → (Begins rows index client place a → ⊥) → belongs_to client row ≡ false
none_unless rows index client first place a row indexed p from there not =
    ⊎_elim (λ own. absurd (not (begins rows index client first place a row indexed p from there own))) (λ e. e) (cases_Bool (belongs_to client row))

-- of two keys of one client the one with the lower address comes first
below_same : (c client : List ℕ) (a b : ℕ) → c ≡ client → a < b → IsKeyBelow (c, a) (client, b)
below_same c client a b e order =
    let tied : slice_cmp nat_cmp c client ≡ Equal = subst (λ (x : List ℕ). slice_cmp nat_cmp c x ≡ Equal) e (tied_itself nat_list_cmp_total c) in
    let less : nat_cmp a b ≡ Less = grind (arith, nat_tests) in
    ap (λ (o : Ordering). ordering_then o (nat_cmp a b)) tied ∙ less

-- a row of the client at the index of first is the one with the lowest address from there on
pub next_there : (rows : List Row) (index client : List ℕ) (first last place : ℕ) (row : Row) → IsIndex client_of rows index → IsKeyPlace (key_at rows) index (client, first) place → place < length index → row.address ≡ get_or index place 0 → row_at rows row.address ≡ Some row → belongs_to client row ≡ true → row.address ≤ last → IsNextOf rows client first last (Some row)
next_there rows index client first last place row indexed p within here found own to = (found, from, to, own, λ a other after before there. none_unless rows index client first place a other indexed p after there (λ b. let h = b.least in omega arith)) where
  theirs : client_at rows (get_or index place 0) ≡ client
  theirs = ap (client_at rows) (sym here) ∙ ap client_in found ∙ (bytes_decides row.client client).0 own

  from : first ≤ row.address
  from = ⊎_elim (λ l. absurd (p.above place (omega arith) within (below_same (client_at rows (get_or index place 0)) client (get_or index place 0) first theirs (omega arith)))) (λ l. l) (cases_lt row.address first)
