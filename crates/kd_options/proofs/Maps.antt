-- Maps whose values are seen through a view: lookups, a value made longer, and new entries.
use Rattle.std.proofs.Common.{◌≡◌, ℕ, Bool, true, false, List, [], ◌∷◌, ◌++◌, Some, None, refl, sym, ap, ◌∙◌, true≢false, eqb-true, eq-eqb, ne_eqb}
use Rattle.std.specs.Prelude.{nat_eq, map, option_map, ◌==◌, is_some}
use Rattle.std.specs.Map.{lookup, set_value}
use Rattle.std.proofs.lemmas.Bool.{eqb-false}
use Rattle.indexmap.specs.IndexMap.{insert_entry}
use Rattle.kd_wire.specs.Area.{Piece}
use Rattle.kd_options.specs.Joining.{joined_into, entries_of, bytes_of}
use Rattle.kd_options.specs.declared.joining.Value.{Value}

same : (a b : ℕ) → nat_eq a b ≡ true → (b == a) ≡ true
same a b is = eq-eqb b a (sym (eqb-true a b is))

differ : (a b : ℕ) → nat_eq a b ≡ false → (b == a) ≡ false
differ a b is = ne_eqb b a (λ e. eqb-false a b is (sym e))

module _ {V : Type 0} (view : V → List ℕ) where
  -- the entries as codes and bytes
  abbrev pub seen : List (ℕ × V) → List Piece
  seen es = map (λ e. (e.0, view e.1)) es

  -- a lookup in what is seen
  pub lookup_seen : (test : ℕ → Bool) (es : List (ℕ × V)) → lookup test (seen es) ≡ option_map view (lookup test es)
  lookup_seen test [] = refl
  lookup_seen test (e ∷ es) = by (test e.0) refl (lookup_seen test es)
    where
      by : (t : Bool) → test e.0 ≡ t → lookup test (seen es) ≡ option_map view (lookup test es) → lookup test (seen (e ∷ es)) ≡ option_map view (lookup test (e ∷ es))
      by true t rest = rw t refl
      by false t rest = rw t rest

  -- the value of a code that is present is made longer
  pub set_seen : (code : ℕ) (piece : List ℕ) (v w : V) (es : List (ℕ × V)) → lookup (nat_eq code) es ≡ Some v → view w ≡ view v ++ piece → seen (set_value (nat_eq code) es w) ≡ joined_into code piece (seen es)
  set_seen code piece v w [] found longer = absurd (true≢false (ap is_some (sym found)))
  set_seen code piece v w (e ∷ es) found longer = by (nat_eq code e.0) refl found (set_seen code piece v w es)
    where
      by : (t : Bool) → nat_eq code e.0 ≡ t → lookup (nat_eq code) (e ∷ es) ≡ Some v → (lookup (nat_eq code) es ≡ Some v → view w ≡ view v ++ piece → seen (set_value (nat_eq code) es w) ≡ joined_into code piece (seen es)) → seen (set_value (nat_eq code) (e ∷ es) w) ≡ joined_into code piece (seen (e ∷ es))
      by true t here rest =
          let it : e.1 ≡ v = cc (rw t at here) in
          rw (t, same code e.0 t) (λ i. (e.0, (longer ∙ ap (λ x. view x ++ piece) (sym it)) i) ∷ seen es)
      by false t here rest = rw (t, differ code e.0 t) (ap (λ x. (e.0, view e.1) ∷ x) (rest (rw t at here) longer))

  -- a code that is not present comes last
  pub insert_seen : (code : ℕ) (w : V) (es : List (ℕ × V)) → lookup (nat_eq code) es ≡ None → seen (insert_entry nat_eq es code w) ≡ joined_into code (view w) (seen es)
  insert_seen code w [] absent = refl
  insert_seen code w (e ∷ es) absent = by (nat_eq code e.0) refl absent (insert_seen code w es)
    where
      by : (t : Bool) → nat_eq code e.0 ≡ t → lookup (nat_eq code) (e ∷ es) ≡ None → (lookup (nat_eq code) es ≡ None → seen (insert_entry nat_eq es code w) ≡ joined_into code (view w) (seen es)) → seen (insert_entry nat_eq (e ∷ es) code w) ≡ joined_into code (view w) (seen (e ∷ es))
      by true t here rest = let some : Some e.1 ≡ None = rw t at here in absurd (true≢false (ap is_some some))
      by false t here rest = rw (t, differ code e.0 t) (ap (λ x. (e.0, view e.1) ∷ x) (rest (rw t at here)))

-- the same for the options that a message stores
pub lookup_entries : (test : ℕ → Bool) (es : List (ℕ × Value)) → lookup test (entries_of es) ≡ option_map bytes_of (lookup test es)
lookup_entries test es = lookup_seen bytes_of test es
